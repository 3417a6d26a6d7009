-- The numbers of a line that the code holds fit their types.
use mathlib.Core.List.{List}
use mir.Val.{Val}
use denote.Laws.{Is}
use denote.Enum.Declared.{row}
use denote.Enum.Laws.{owed}
use Rattle.jxl_events.specs.declared.ParseEvent.{ParseEvent}
use Rattle.jxl_events.specs.declared.ParseEvent.TheVariants as E
use Rattle.jxl_events.specs.contracts.ParseEvent.{the_type as event-type}
use Rattle.jxl_events.proofs.ParseEvent.TheLaws.{the_laws as event-laws}
use Rattle.jxl_lines.specs.Lines.{EventInRange, InRange}
use Rattle.jxl_lines.specs.declared.Line.{Line}
use Rattle.jxl_lines.specs.declared.Line.TheVariants.{Shown, Stopped}
use Rattle.jxl_lines.specs.contracts.Line.{the_type}
use Rattle.jxl_lines.proofs.Line.TheLaws.{the_laws}

event_in_range : (e : ParseEvent) (vs : List Val) → Is (row event-type) e vs → EventInRange e
event_in_range (E.BitstreamKind k) vs p = tt
event_in_range E.NoMoreAuxBox vs p = tt
event_in_range (E.Codestream a n) vs p = let f = owed event-type event-laws (E.Codestream a n) vs p in (f.0.1, f.1.0.1)
event_in_range (E.AuxBoxStart t b e) vs p = (owed event-type event-laws (E.AuxBoxStart t b e) vs p).0.1
event_in_range (E.AuxBoxData t a n) vs p = let f = owed event-type event-laws (E.AuxBoxData t a n) vs p in (f.0.1, f.1.0.1, f.1.1.0.1)
event_in_range (E.AuxBoxEnd t) vs p = (owed event-type event-laws (E.AuxBoxEnd t) vs p).0.1

pub in_range : (l : Line) (vs : List Val) → Is (row the_type) l vs → InRange l
in_range (Shown e) vs p = event_in_range e _ (owed the_type the_laws (Shown e) vs p).0
in_range (Stopped s n) vs p = (owed the_type the_laws (Stopped s n) vs p).1.0.1
