-- What the code is answered: the f32, or refusal 5 for exponent 31.
use Rattle.std.specs.Prelude.{cond, ℕ, eqb, Float, Option, Some, None}
use Rattle.std.specs.Float.{binary32}
use Rattle.std.specs.Float.Ieee.{of_bits}
use Rattle.jxl_half.specs.Half.{exponent, pattern, Exactly}

-- the f32, or a refusal by its number
pub data Wide : Type 0 where
  gives : Float → Wide
  refuses : ℕ → Wide

unfoldable pub widened : ℕ → Wide
widened v = cond (eqb (exponent v) 31) (refuses 5) (gives (of_bits binary32 (pattern v)))

-- what each case of the answer is called
abbrev pub told : Option Float → Wide
told (Some x) = gives x
told None = refuses 5

-- what is given is exactly the code's number
abbrev pub ExactlyWidened : ℕ → Wide → Type 0
ExactlyWidened v (gives x) = Exactly v x
ExactlyWidened v (refuses r) = Unit {0}
