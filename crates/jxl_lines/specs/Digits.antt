-- Numbers as text: types in lower-case hex, numbers decimal.
use Rattle.std.specs.Prelude.{List, [], ◌∷◌, ◌++◌, ℕ, zero, suc, ◌+◌, ◌/◌, ◌%◌, ltb}
use Rattle.jxl_headers.specs.Bytes.{if}

-- the character of a digit below 16: `0` to `9`, then `a` to `f`
abbrev pub glyph : ℕ → ℕ
glyph d = if (ltb d 10) (48 + d) (87 + d)

-- the last k hex digits of n, the highest first
abbrev pub hex_digits : ℕ → ℕ → List ℕ
hex_digits zero n = []
hex_digits (suc k) n = hex_digits k (n / 16) ++ (glyph (n % 16) ∷ [])

-- a type has 8 hex digits
unfoldable pub hex8 : ℕ → List ℕ
hex8 t = hex_digits 8 t

-- the decimal digits of n with no zero in front, for n below the number of turns
abbrev pub decimal_in : ℕ → ℕ → List ℕ
decimal_in zero n = []
decimal_in (suc turns) n =
    if (ltb n 10) (glyph n ∷ []) (decimal_in turns (n / 10) ++ (glyph (n % 10) ∷ []))

unfoldable pub decimal : ℕ → List ℕ
decimal n = decimal_in (suc n) n
