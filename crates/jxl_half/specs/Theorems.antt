-- What is proved of F16 codes besides the function's promise: each statement is a type, which proofs/ proves
-- under the same name in small letters.
use Rattle.std.specs.Prelude.{◌≡◌, ℕ, ◌^◌, ◌<◌}
use Rattle.std.specs.Float.{binary32}
use Rattle.std.specs.Float.Ieee.{of_bits}
use Rattle.jxl_base.specs.OneAnswer.{OneAnswer}
use Rattle.jxl_half.specs.Half.{exponent, pattern, Exactly}
use Rattle.jxl_half.specs.Widen.{told, widened}

-- The bits of every code but those with exponent 31 are exactly the code's number.
abbrev pub Exact : Type 0
Exact = (v : ℕ) → v < 2 ^ 16 → exponent v < 31 → Exactly v (of_bits binary32 (pattern v))

-- one answer: the promise's first clause alone says which
abbrev pub OneWiden : Type 0
OneWiden = (v : ℕ) → OneAnswer (λ r. told r ≡ widened v)
