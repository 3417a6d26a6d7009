-- Taking from the parser that counts: it always ends, and there is one way it goes.
use mathlib.Core.Path.{◌≡◌}
use mathlib.Core.List.{List}
use Prim.Native.Nat.{ℕ}
use Rattle.jxl_cuts.specs.Feeding as AnyMachine
use Rattle.jxl_cuts.proofs.Taking as AnyTaking
use Rattle.jxl_totals.specs.Parser.{parser}
use Rattle.jxl_totals.specs.Feeding.{Seen, Takes}
use Rattle.jxl_totals.specs.declared.ContainerParser.{ContainerParser}
use Rattle.jxl_totals.proofs.Lawful.{lawful}

pub takes : (p : ContainerParser) (at : ℕ) (s : List ℕ) → (u : List ℕ) × Takes p at s (AnyMachine.take parser p at s) u
takes = AnyTaking.takes parser lawful

pub take_is : {p : ContainerParser} {at : ℕ} {s u : List ℕ} {r : Seen} → Takes p at s r u → AnyMachine.take parser p at s ≡ r
take_is t = AnyTaking.take_is parser lawful t
