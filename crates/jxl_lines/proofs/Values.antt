-- The number that digits say: the digits of a number say that number.
use mathlib.Core.Path.{◌≡◌, refl, ap, ◌∙◌}
use mathlib.Core.Bool.{Bool, true, false}
use mathlib.Core.List.{List, [], ◌∷◌, ◌++◌}
use Prim.Native.Nat.{ℕ, zero, suc, ◌+◌, ◌-◌, ◌*◌, ◌/◌, ◌%◌, ◌^◌, ◌<◌}
use native.Mathlib.Nat.{not-suc-le-zero, pow-suc}
use native.Mathlib.Omega.{arith}
use lib.Dec.{ltb}
use borrow.Author.Tests.{lt-ltb, le-ltb, ltb-true, ltb-false}
use Rattle.jxl_headers.specs.Bytes.{if}
use Rattle.jxl_lines.specs.Digits.{glyph, hex_digits, hex8, decimal_in, decimal}

-- the digit that a character says
abbrev digit_of : ℕ → ℕ
digit_of c = if (ltb c 58) (c - 48) (c - 87)

-- the number that digits say behind v, in base b
abbrev pub value : ℕ → ℕ → List ℕ → ℕ
value b v [] = v
value b v (c ∷ cs) = value b (v * b + digit_of c) cs

digit_of_glyph : (d : ℕ) → digit_of (glyph d) ≡ d
digit_of_glyph d = go (ltb d 10) refl
  where
    go : (t : Bool) → ltb d 10 ≡ t → digit_of (if t (48 + d) (87 + d)) ≡ d
    go true e = let small = ltb-true d 10 e in rw (lt-ltb (48 + d) 58 (omega arith)) (omega arith)
    go false e = let big = ltb-false d 10 e in rw (le-ltb (87 + d) 58 (omega arith)) (omega arith)

value_last : (b v : ℕ) (cs : List ℕ) (d : ℕ) → value b v (cs ++ (glyph d ∷ [])) ≡ value b v cs * b + d
value_last b v [] d = ap (λ (n : ℕ). v * b + n) (digit_of_glyph d)
value_last b v (c ∷ cs) d = value_last b (v * b + digit_of c) cs d

value_in : (turns n : ℕ) → n < turns → value 10 0 (decimal_in turns n) ≡ n
value_in zero n h = absurd (not-suc-le-zero h)
value_in (suc turns) n h = go (ltb n 10) refl (value_in turns (n / 10))
  where
    go : (t : Bool) → ltb n 10 ≡ t → (n / 10 < turns → value 10 0 (decimal_in turns (n / 10)) ≡ n / 10)
        → value 10 0 (if t (glyph n ∷ []) (decimal_in turns (n / 10) ++ (glyph (n % 10) ∷ []))) ≡ n
    go true e shorter = value_last 10 0 [] n ∙ omega arith
    go false e shorter =
        let big = ltb-false n 10 e in
        let tenth = shorter (omega arith) in
        value_last 10 0 (decimal_in turns (n / 10)) (n % 10) ∙ omega arith

pub decimal_value : (n : ℕ) → value 10 0 (decimal n) ≡ n
unfolding decimal
decimal_value n = value_in (suc n) n (omega arith)

hex_value : (k n : ℕ) → n < 16 ^ k → value 16 0 (hex_digits k n) ≡ n
hex_value zero n h = omega arith
hex_value (suc k) n h =
    let powers = pow-suc 16 k in
    let others = hex_value k (n / 16) (omega arith) in
    value_last 16 0 (hex_digits k (n / 16)) (n % 16) ∙ omega arith

pub type_value : (t : ℕ) → t < 2 ^ 32 → value 16 0 (hex8 t) ≡ t
unfolding hex8
type_value t h = hex_value 8 t h
