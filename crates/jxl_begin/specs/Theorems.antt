-- What is proved of places besides the functions' promises: each statement is a type, which proofs/ proves
-- under the same name in small letters.
use Rattle.std.specs.Prelude.{◌≡◌, ℕ, List}
use Rattle.std.specs.Borrow.{Bor}
use Rattle.jxl_base.specs.OneAnswer.{OneAnswer}
use Rattle.jxl_bit_rules.specs.Answer.{Answer}
use Rattle.jxl_bit_rules.specs.Bits.{bits}
use Rattle.jxl_begin.specs.Places.{BeginsAt, GoesOn}

-- ---- one answer
-- of a place made, whatever the slice and what `begin` answers
abbrev pub OnePlaceNew : Type 0
OnePlaceNew = (s : Bor (List ℕ)) (a : Answer (Unit {0})) → OneAnswer (BeginsAt s a)

-- of a part read, whatever the slice and the part
abbrev pub OnePlaceRead : Type 0
OnePlaceRead = (s : Bor (List ℕ)) (a : Answer ℕ) → OneAnswer (GoesOn s a)

-- of the bits looked at
abbrev pub OnePlaceLook : Type 0
OnePlaceLook = (s : List ℕ) (at n : ℕ) → OneAnswer (λ (r : ℕ). r ≡ bits s at n)
