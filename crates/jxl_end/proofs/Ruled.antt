-- An end call's answer by the rule that broke, which the number and the values tell.
use mathlib.Core.Path.{◌≡◌}
use Rattle.std.specs.Prelude.{Option, Result, Ok, Err}
use Rattle.jxl_events.specs.declared.FileEvent.{FileEvent}
use Rattle.jxl_joiner.specs.Joiner.{handed}
use Rattle.jxl_totals.specs.Naming.{says_refusal}
use Rattle.jxl_totals.specs.declared.ContainerParser.{ContainerParser}
use Rattle.jxl_totals.specs.declared.FileRefusal.{FileRefusal}
use Rattle.jxl_endings.specs.End.{Ended, done, refuses, numbered_end}
use Rattle.jxl_counts.proofs.Unique.{says_tells}
use Rattle.jxl_end.specs.Told.{told_ended, told_end}
use Rattle.jxl_end.specs.declared.EndResult.{EndResult}

abbrev pub ruled_ended : Result (Option FileEvent) FileRefusal → ContainerParser → Ended
ruled_ended (Ok owed) p = done (handed owed) p
ruled_ended (Err r) p = refuses r p

abbrev pub ruled_end : EndResult → Ended
ruled_end x = ruled_ended x.answer x.next

answer_by_rule : (x : Result (Option FileEvent) FileRefusal) (p : ContainerParser) (t : Ended) → told_ended x p ≡ numbered_end t → ruled_ended x p ≡ t
answer_by_rule (Ok owed) p (done es q) h = cc
answer_by_rule (Ok owed) p (refuses r q) h = cc
answer_by_rule (Err r) p (done es q) h = cc
answer_by_rule (Err r) p (refuses u q) h =
    let same : says_refusal r ≡ says_refusal u = cc in
    let refusal : r ≡ u = says_tells r u same in
    cc

pub by_rule : (x : EndResult) (t : Ended) → told_end x ≡ numbered_end t → ruled_end x ≡ t
by_rule x t h = answer_by_rule x.answer x.next t h
