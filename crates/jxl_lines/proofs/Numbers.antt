-- Digits: the last one stands behind the others; a type has 8, and a number of 64 bits at most 20.
use mathlib.Core.Path.{◌≡◌, refl, ap, ◌∙◌}
use mathlib.Core.Bool.{Bool, true, false}
use mathlib.Core.List.{List, [], ◌∷◌, ◌++◌, append_assoc}
use Prim.Native.Nat.{ℕ, zero, suc, ◌+◌, ◌/◌, ◌%◌, ◌^◌, ◌<◌, ◌≤◌}
use native.Mathlib.Nat.{not-suc-le-zero, pow-suc}
use native.Mathlib.Omega.{arith}
use lib.Dec.{ltb}
use lib.ListN.{length, length-append}
use borrow.Author.Tests.{lt-ltb, le-ltb, ltb-false}
use Rattle.jxl_headers.specs.Bytes.{if}
use Rattle.jxl_lines.specs.Digits.{glyph, hex_digits, hex8, decimal_in, decimal}

-- turns to spare change nothing
spare : (k j n : ℕ) → n < k → n < j → decimal_in k n ≡ decimal_in j n
spare zero j n h g = absurd (not-suc-le-zero h)
spare (suc k) zero n h g = absurd (not-suc-le-zero g)
spare (suc k) (suc j) n h g = go (ltb n 10) refl (spare k j (n / 10))
  where
    go : (t : Bool) → ltb n 10 ≡ t → (n / 10 < k → n / 10 < j → decimal_in k (n / 10) ≡ decimal_in j (n / 10))
        → if t (glyph n ∷ []) (decimal_in k (n / 10) ++ (glyph (n % 10) ∷ [])) ≡ if t (glyph n ∷ []) (decimal_in j (n / 10) ++ (glyph (n % 10) ∷ []))
    go true e shorter = refl
    go false e shorter =
        let big = ltb-false n 10 e in
        ap (λ (l : List ℕ). l ++ (glyph (n % 10) ∷ [])) (shorter (omega arith) (omega arith))

pub decimal_small : (n : ℕ) → n < 10 → decimal n ≡ glyph n ∷ []
unfolding decimal
decimal_small n h = rw (lt-ltb n 10 h)

pub decimal_more : (n : ℕ) → 10 ≤ n → decimal n ≡ decimal (n / 10) ++ (glyph (n % 10) ∷ [])
unfolding decimal
decimal_more n h =
    rw (le-ltb n 10 h)
    (ap (λ (l : List ℕ). l ++ (glyph (n % 10) ∷ [])) (spare n (suc (n / 10)) (n / 10) (omega arith) (omega arith)))

pub decimal_longer : (n : ℕ) → 10 ≤ n → length (decimal n) ≡ length (decimal (n / 10)) + 1
decimal_longer n h = ap length (decimal_more n h) ∙ length-append (decimal (n / 10)) (glyph (n % 10) ∷ [])

-- a decimal digit is its own last hex digit
pub glyph_small : (d : ℕ) → d < 10 → glyph (d % 16) ≡ glyph d
glyph_small d h = let same : d % 16 ≡ d = omega arith in ap glyph same

-- the last two digits
abbrev pub last_two : ℕ → List ℕ
last_two n = glyph (n / 10 % 10) ∷ glyph (n % 10) ∷ []

pub decimal_two : (n : ℕ) → 10 ≤ n → n < 100 → decimal n ≡ last_two n
decimal_two n h g =
    let same : n / 10 ≡ n / 10 % 10 = omega arith in
    decimal_more n h ∙ ap (λ (l : List ℕ). l ++ (glyph (n % 10) ∷ [])) (decimal_small (n / 10) (omega arith))
    ∙ ap (λ (d : ℕ). glyph d ∷ glyph (n % 10) ∷ []) same

pub decimal_by_two : (n : ℕ) → 100 ≤ n → decimal n ≡ decimal (n / 100) ++ last_two n
decimal_by_two n h =
    let same : n / 10 / 10 ≡ n / 100 = omega arith in
    decimal_more n (omega arith) ∙ ap (λ (l : List ℕ). l ++ (glyph (n % 10) ∷ [])) (decimal_more (n / 10) (omega arith))
    ∙ append_assoc (decimal (n / 10 / 10)) (glyph (n / 10 % 10) ∷ []) (glyph (n % 10) ∷ [])
    ∙ ap (λ (k : ℕ). decimal k ++ last_two n) same

pub decimal_two_longer : (n : ℕ) → 100 ≤ n → length (decimal n) ≡ length (decimal (n / 100)) + 2
decimal_two_longer n h = ap length (decimal_by_two n h) ∙ length-append (decimal (n / 100)) (last_two n)

length_in : (turns k n : ℕ) → n < 10 ^ suc k → length (decimal_in turns n) ≤ suc k
length_in zero k n h = omega arith
length_in (suc turns) k n h = go (ltb n 10) refl k h (λ j. length_in turns j (n / 10))
  where
    go : (t : Bool) → ltb n 10 ≡ t → (k : ℕ) → n < 10 ^ suc k → ((j : ℕ) → n / 10 < 10 ^ suc j → length (decimal_in turns (n / 10)) ≤ suc j)
        → length (if t (glyph n ∷ []) (decimal_in turns (n / 10) ++ (glyph (n % 10) ∷ []))) ≤ suc k
    go true e k h shorter = omega arith
    go false e zero h shorter = absurd (let big = ltb-false n 10 e in omega arith)
    go false e (suc k) h shorter = simp length-append (omega (arith, shorter k (let tens = pow-suc 10 (suc k) in omega arith)))

-- 64 bits hold at most 20 digits
pub decimal_most : (n : ℕ) → n < 2 ^ 64 → length (decimal n) ≤ 20
unfolding decimal
decimal_most n h = length_in (suc n) 19 n (omega arith)

hex_length : (k n : ℕ) → length (hex_digits k n) ≡ k
hex_length zero n = refl
hex_length (suc k) n = simp (length-append, hex_length k) (omega arith)

pub type_length : (t : ℕ) → length (hex8 t) ≡ 8
unfolding hex8
type_length t = hex_length 8 t

-- the eight characters of a type
pub type_glyphs : (t : ℕ) {a b c d e f g h : ℕ} → a ≡ glyph (t / 0x1000_0000 % 16) → b ≡ glyph (t / 0x100_0000 % 16) → c ≡ glyph (t / 0x10_0000 % 16)
    → d ≡ glyph (t / 0x1_0000 % 16) → e ≡ glyph (t / 0x1000 % 16) → f ≡ glyph (t / 0x100 % 16) → g ≡ glyph (t / 0x10 % 16) → h ≡ glyph (t % 16)
    → a ∷ b ∷ c ∷ d ∷ e ∷ f ∷ g ∷ h ∷ [] ≡ hex8 t
unfolding hex8
type_glyphs t first second third fourth fifth sixth seventh eighth =
    let two : t / 16 / 16 ≡ t / 0x100 = omega arith in
    let three : t / 16 / 16 / 16 ≡ t / 0x1000 = omega arith in
    let four : t / 16 / 16 / 16 / 16 ≡ t / 0x1_0000 = omega arith in
    let five : t / 16 / 16 / 16 / 16 / 16 ≡ t / 0x10_0000 = omega arith in
    let six : t / 16 / 16 / 16 / 16 / 16 / 16 ≡ t / 0x100_0000 = omega arith in
    let seven : t / 16 / 16 / 16 / 16 / 16 / 16 / 16 ≡ t / 0x1000_0000 = omega arith in
    cc
