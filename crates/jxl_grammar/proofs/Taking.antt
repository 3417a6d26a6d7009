-- Taking from the container parser: it always ends, and there is one way it goes.
use mathlib.Core.Path.{◌≡◌}
use mathlib.Core.List.{List}
use Prim.Native.Nat.{ℕ}
use Rattle.jxl_record.specs.declared.BoxParser.{BoxParser}
use Rattle.jxl_cuts.proofs.Taking as AnyMachine
use Rattle.jxl_grammar.specs.Parser.{parser}
use Rattle.jxl_grammar.specs.Feeding.{Seen, take, Takes}
use Rattle.jxl_grammar.proofs.Lawful.{lawful}

pub takes : (p : BoxParser) (at : ℕ) (s : List ℕ) → (u : List ℕ) × Takes p at s (take p at s) u
takes = AnyMachine.takes parser lawful

pub take_is : {p : BoxParser} {at : ℕ} {s u : List ℕ} {r : Seen} → Takes p at s r u → take p at s ≡ r
take_is t = AnyMachine.take_is parser lawful t
