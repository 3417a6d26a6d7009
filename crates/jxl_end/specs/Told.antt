-- What an answer of the end call says in the terms of its definition.
use Rattle.std.specs.Prelude.{Option, Result, Ok, Err}
use Rattle.jxl_events.specs.declared.FileEvent.{FileEvent}
use Rattle.jxl_joiner.specs.Joiner.{handed}
use Rattle.jxl_totals.specs.Naming.{Said, says_refusal}
use Rattle.jxl_totals.specs.declared.ContainerParser.{ContainerParser}
use Rattle.jxl_totals.specs.declared.FileRefusal.{FileRefusal}
use Rattle.jxl_endings.specs.End.{Answer, done, refuses}
use Rattle.jxl_end.specs.declared.EndResult.{EndResult}

-- an answer, with the record that the call leaves
abbrev pub told_ended : Result (Option FileEvent) FileRefusal → ContainerParser → Answer Said
told_ended (Ok owed) p = done (handed owed) p
told_ended (Err r) p = refuses (says_refusal r) p

abbrev pub told_end : EndResult → Answer Said
told_end r = told_ended r.answer r.next
