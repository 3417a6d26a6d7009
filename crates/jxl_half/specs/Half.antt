-- F16: sign s, exponent e, mantissa m, and the f32 that is that exact number, said over whole units and the f32's bits.
use Rattle.std.specs.Prelude.{Bool, cond, ℕ, zero, suc, ◌+◌, ◌-◌, ◌*◌, ◌/◌, ◌%◌, ◌^◌, eqb, Float}
use Rattle.std.specs.Float.Ieee.{size}
use Rattle.std.specs.Float.Ieee.Exact.{HasValue}

abbrev pub sign : ℕ → ℕ
sign v = v / 32768

abbrev pub exponent : ℕ → ℕ
exponent v = v / 1024 % 32

abbrev pub mantissa : ℕ → ℕ
mantissa v = v % 1024

-- The number without its sign, in units of 2^-24. e = 0: m units. e 1 to 30: (1024 + m) times 2^(e-1) such units.
unfoldable pub units : ℕ → ℕ → ℕ
units zero m = m
units (suc e) m = (1024 + m) * 2 ^ e

-- Negated if s is 1.
abbrev pub negative : ℕ → Bool
negative v = eqb (sign v) 1

-- x is exactly the number of the code v: finite, of its sign (zero keeps it), and in size its units, each 1 / 2^24
abbrev pub Exactly : ℕ → Float → Type 0
Exactly v x = HasValue x (negative v) (units (exponent v) (mantissa v)) (2 ^ 24)

-- The f32's bits without its sign. A mantissa alone is moved up until its highest digit is the one that an f32 leaves out;
-- 0 stays 0. (`Exact` of `specs/Theorems.antt`: these bits are exactly that many units.)
unfoldable pub magnitude : ℕ → ℕ → ℕ
magnitude zero m = cond (eqb m 0) 0 ((101 + size m) * 2 ^ 23 + m * 2 ^ (24 - size m))
magnitude (suc e) m = (113 + e) * 2 ^ 23 + m * 2 ^ 13

-- with the sign, which zero keeps
unfoldable pub pattern : ℕ → ℕ
pattern v = sign v * 2 ^ 31 + magnitude (exponent v) (mantissa v)
