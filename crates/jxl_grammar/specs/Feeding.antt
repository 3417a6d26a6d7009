-- Feeding the rules on boxes: jxl_cuts' feeding, of this machine.
use Rattle.std.specs.Prelude.{List, ℕ}
use Rattle.jxl_record.specs.declared.BoxParser.{BoxParser}
use Rattle.jxl_events.specs.declared.ParseEvent.{ParseEvent}
use Rattle.jxl_cuts.specs.Feeding as AnyMachine
pub use Rattle.jxl_cuts.specs.Feeding.{events, followed, more, waits, ends}
use Rattle.jxl_grammar.specs.Grammar.{Stop}
use Rattle.jxl_grammar.specs.Parser.{parser}

abbrev pub Shown : Type 0
Shown = AnyMachine.Shown parser

abbrev pub Seen : Type 0
Seen = AnyMachine.Seen parser

abbrev pub stops : Stop → BoxParser → ℕ → Seen
stops = AnyMachine.stops parser

abbrev pub placed : ℕ → List ℕ → ParseEvent → ℕ → Shown
placed = AnyMachine.placed parser

abbrev pub take : BoxParser → ℕ → List ℕ → Seen
take = AnyMachine.take parser

abbrev pub Takes : BoxParser → ℕ → List ℕ → Seen → List ℕ → Type 0
Takes = AnyMachine.Takes parser

abbrev pub feeding : BoxParser → ℕ → List (List ℕ) → Seen
feeding = AnyMachine.feeding parser
