-- Feeding the parser that counts, and joining its events: jxl_cuts' feeding and joining, of this machine. Its own total is the place in the
-- file where it stands.
use Rattle.std.specs.Prelude.{List, ℕ}
use Rattle.jxl_events.specs.declared.FileEvent.{FileEvent}
use Rattle.jxl_cuts.specs.Feeding as AnyMachine
use Rattle.jxl_cuts.specs.Joined as AnyJoined
pub use Rattle.jxl_cuts.specs.Feeding.{want, refused, events_in, events, followed, bytes_of, more, waits, ends}
use Rattle.jxl_totals.specs.Parser.{parser}
use Rattle.jxl_totals.specs.declared.ContainerParser.{ContainerParser}
use Rattle.jxl_totals.specs.declared.FileRefusal.{FileRefusal}

abbrev pub Stop : Type 0
Stop = AnyMachine.Stop FileRefusal

abbrev pub Shown : Type 0
Shown = AnyMachine.Shown parser

abbrev pub Seen : Type 0
Seen = AnyMachine.Seen parser

abbrev pub stops : Stop → ContainerParser → ℕ → Seen
stops = AnyMachine.stops parser

abbrev pub placed : ℕ → List ℕ → FileEvent → ℕ → Shown
placed = AnyMachine.placed parser

abbrev pub taking : ℕ → ContainerParser → List ℕ → Seen
taking turns p s = AnyMachine.taking parser turns p p.total s

abbrev pub take : ContainerParser → List ℕ → Seen
take p s = AnyMachine.take parser p p.total s

abbrev pub Takes : ContainerParser → ℕ → List ℕ → Seen → List ℕ → Type 0
Takes = AnyMachine.Takes parser

abbrev pub before : FileEvent → List FileEvent → List FileEvent
before = AnyJoined.before parser

abbrev pub joined : List FileEvent → List FileEvent
joined = AnyJoined.joined parser

abbrev pub feeding : ContainerParser → List (List ℕ) → Seen
feeding p xs = AnyMachine.feeding parser p p.total xs
