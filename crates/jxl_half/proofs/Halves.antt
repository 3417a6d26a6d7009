-- F16. The float arithmetic of the subnormals gives the bits that the rule says: one test over all 1,024 mantissas.
-- And the bits of each code are exactly the paper's number of units of 2^-24 with its sign: the same test, and a law where the exponent is not 0.
-- Assumes nothing.
use mathlib.Core.Bool.{Bool, true, false, not, ◌&&◌, beq, cond}
use mathlib.Core.Path.{◌≡◌, refl, sym, ap, subst, ◌∙◌}
use Prim.Native.Nat.{ℕ, zero, suc, ◌+◌, ◌*◌, ◌/◌, ◌%◌, ◌^◌, ◌<◌}
use native.Mathlib.Nat.{not-suc-le-zero, mul_assoc, mul_comm, mul_left_comm, mul_right_comm, eq_of_mul-eq-mul_right}
use native.Mathlib.Numerals.{add-one}
use native.Mathlib.Omega.{arith}
use borrow.Author.Count.{below_more}
use borrow.Author.Tests.{lt-leb, le-leb, eq-eqb, ne_eqb, eqb-false}
use lib.Dec.{T, leb, eqb, eqb→eq, lit<}
use lib.Ieee.Bits.{of_bits-to_bits}
use lib.Ieee.Exact.{HasValue, odd_sign}
use lib.Ieee.Fits.{and_l, and_r, mul-fits, neg-fits}
use lib.Ieee.{Float, nan, inf, fin, up, down, binary32, mul, div, neg, of_int, of_bits, odd, of_fields, to_bits, fits, nan_bits, is_nan}
use lib.IntN.{pos}
use lib.Pow.{pow-add}
use Rattle.jxl_half.specs.Half.{sign, exponent, mantissa, units, magnitude, pattern}
use Rattle.jxl_half.specs.Theorems.{Exact}
use Rattle.jxl_half.specs.Widen.{Wide, gives, refuses, widened, ExactlyWidened}

-- ---- a test at every number below n
abbrev all : (ℕ → Bool) → ℕ → Bool
all f zero = true
all f (suc n) = f n && all f n

all_at : (f : ℕ → Bool) (n : ℕ) → T (all f n) → (k : ℕ) → k < n → T (f k)
all_at f zero t k h = absurd (not-suc-le-zero h)
all_at f (suc n) t k h =
    below_more (λ j. T (f j)) n (all_at f n (and_r (f n) (all f n) t)) (and_l (f n) (all f n) t) k (rw add-one h)

-- ---- a mantissa alone
-- what the code computes
abbrev computed : ℕ → Float
computed m = mul binary32 (div binary32 (of_bits binary32 0x3f80_0000) (of_bits binary32 0x4680_0000)) (div binary32 (of_int binary32 (pos m)) (of_bits binary32 0x4480_0000))

-- x is finite, has the sign s, and is a / c in size: as a test
has : Float → Bool → ℕ → ℕ → Bool
has nan s a c = false
has (inf t) s a c = false
has (fin t m e) s a c = beq t s && eqb (m * up e * c) (a * down e)

beq_eq : (s t : Bool) → T (beq s t) → s ≡ t
beq_eq true true h = refl
beq_eq true false h = absurd h
beq_eq false true h = absurd h
beq_eq false false h = refl

has_value : (x : Float) (s : Bool) (a c : ℕ) → T (has x s a c) → HasValue x s a c
unfolding has
has_value nan s a c h = h
has_value (inf t) s a c h = h
has_value (fin t m e) s a c h = (
  beq_eq t s (and_l (beq t s) (eqb (m * up e * c) (a * down e)) h),
  eqb→eq (m * up e * c) (a * down e) (and_r (beq t s) (eqb (m * up e * c) (a * down e)) h),
)

-- with a sign, and what the sign weighs in the bits
abbrev signed : Bool → Float → Float
signed false x = x
signed true x = neg x

abbrev weight : Bool → ℕ
weight false = 0
weight true = 2 ^ 31

-- the float has the rule's bits, and those are m units of 2^-24 with the sign s
bits_right : Bool → ℕ → Bool
bits_right s m = eqb (to_bits binary32 (signed s (computed m))) (weight s + magnitude 0 m)

value_right : Bool → ℕ → Bool
value_right s m = has (of_bits binary32 (weight s + magnitude 0 m)) s m (2 ^ 24)

right : Bool → ℕ → Bool
right s m = bits_right s m && value_right s m

both : ℕ → Bool
both m = right false m && right true m

tested : T (all both 1024)
unfolding both right bits_right value_right has mul div neg of_int of_bits to_bits magnitude
tested = tt

right_at : (s : Bool) (m : ℕ) → m < 1024 → T (right s m)
unfolding both
right_at false m h = and_l (right false m) (right true m) (all_at both 1024 tested m h)
right_at true m h = and_r (right false m) (right true m) (all_at both 1024 tested m h)

signed_fits : (s : Bool) (m : ℕ) → T (fits binary32 (signed s (computed m)))
signed_fits false m = mul-fits binary32 _ _
signed_fits true m = neg-fits binary32 (computed m) (mul-fits binary32 _ _)

pub computed_bits : (s : Bool) (m : ℕ) → m < 1024 → signed s (computed m) ≡ of_bits binary32 (weight s + magnitude 0 m)
unfolding right bits_right
computed_bits s m h =
    sym (of_bits-to_bits binary32 (signed s (computed m)) (signed_fits s m))
    ∙ ap (of_bits binary32) (eqb→eq (to_bits binary32 (signed s (computed m))) _ (and_l (bits_right s m) (value_right s m) (right_at s m h)))

alone : (s : Bool) (m : ℕ) → m < 1024 → HasValue (of_bits binary32 (weight s + magnitude 0 m)) s m (2 ^ 24)
unfolding right value_right
alone s m h = has_value _ s m (2 ^ 24) (and_r (bits_right s m) (value_right s m) (right_at s m h))

-- a sign that is a number
pub weighs : (s : ℕ) → s < 2 → s * 2 ^ 31 ≡ weight (eqb s 1)
weighs zero h = refl
weighs (suc zero) h = refl
weighs (suc (suc s)) h = absurd (omega arith)

-- ---- an exponent
-- a pattern, by its sign, its exponent's field and its digits
fields : (s : Bool) (e t : ℕ) → e < 256 → t < 2 ^ 23 → of_bits binary32 (weight s + (e * 2 ^ 23 + t)) ≡ of_fields binary32 s e t
unfolding of_bits
fields s e t he ht = rw (negative s, field s, digits s)
  where
    negative : (s : Bool) → leb (2 ^ 31) (weight s + (e * 2 ^ 23 + t)) ≡ s
    negative false = lt-leb (2 ^ 31) (0 + (e * 2 ^ 23 + t)) (omega arith)
    negative true = le-leb (2 ^ 31) (2 ^ 31 + (e * 2 ^ 23 + t)) (omega arith)

    field : (s : Bool) → (weight s + (e * 2 ^ 23 + t)) % 2 ^ 31 / 2 ^ 23 ≡ e
    field false = omega arith
    field true = omega arith

    digits : (s : Bool) → (weight s + (e * 2 ^ 23 + t)) % 2 ^ 23 ≡ t
    digits false = omega arith
    digits true = omega arith

-- the same size as another fraction
rescaled : (x : Float) (s : Bool) (a c b d : ℕ) → 0 < c → b * c ≡ a * d → HasValue x s a c → HasValue x s b d
rescaled nan s a c b d p h v = v
rescaled (inf t) s a c b d p h v = v
rescaled (fin t m e) s a c b d p h v = (
  v.0,
  eq_of_mul-eq-mul_right c p (m * up e * d) (b * down e)
      (mul_right_comm (m * up e) d c
      ∙ ap (λ (x : ℕ). x * d) v.1
      ∙ mul_right_comm a (down e) d
      ∙ ap (λ (x : ℕ). x * down e) (sym h)
      ∙ mul_right_comm b c (down e)),
)

regroup : (x p w k d : ℕ) → x * p * (w * k * d) ≡ x * w * (k * p) * d
regroup x p w k d = simp (mul_assoc, mul_comm, mul_left_comm)

-- (1024 + m) times 2^e units
above : (s : Bool) (e m : ℕ) → e < 30 → m < 1024 → HasValue (of_bits binary32 (weight s + magnitude (suc e) m)) s ((1024 + m) * 2 ^ e) (2 ^ 24)
unfolding magnitude of_fields
above s e m he hm =
    let b = (113 + e) * 2 ^ 23 + m * 2 ^ 13 in
    let q = 2 ^ 23 + m * 2 ^ 13 in
    let next : 113 + e ≡ suc (112 + e) = omega arith in
    let p : 2 ^ (112 + e) ≡ 2 ^ 112 * 2 ^ e = pow-add 2 112 e in
    let whole : q ≡ (1024 + m) * 2 ^ 13 = omega arith in
    rw (fields s (113 + e) (m * 2 ^ 13) (omega arith) (omega arith), next, ne_eqb (suc (112 + e)) 255 (omega arith))
    (rescaled (odd 24 s q (112 + e) 149) s (q * 2 ^ (112 + e)) (2 ^ 149) ((1024 + m) * 2 ^ e) (2 ^ 24) (lit< tt) (rw (p, whole) (regroup (1024 + m) (2 ^ e) (2 ^ 13) (2 ^ 112) (2 ^ 24))) (odd_sign 24 s q (112 + e) 149))

-- the bits of every code but those with exponent 31 are exactly its units, with its sign; zero keeps its sign
pub exact : Exact
unfolding pattern units
exact v h l = rw (weighs (sign v) (omega arith)) (go (exponent v) l)
  where
    go : (e : ℕ) → e < 31 → HasValue (of_bits binary32 (weight (eqb (sign v) 1) + magnitude e (mantissa v))) (eqb (sign v) 1) (units e (mantissa v)) (2 ^ 24)
    go zero k = alone (eqb (sign v) 1) (mantissa v) (omega arith)
    go (suc e) k = above (eqb (sign v) 1) e (mantissa v) (omega arith) (omega arith)

-- a pattern whose exponent's field is not all ones is no NaN's
pub no_nan : (b : ℕ) → (b % 2 ^ 31 / 2 ^ 23 ≡ 255 → ⊥) → T (not (nan_bits binary32 b))
unfolding nan_bits
no_nan b n = rw (ne_eqb (b % 2 ^ 31 / 2 ^ 23) 255 n) tt

-- an exponent that is not 0, as the code has it
pub magnitude_above : (e m : ℕ) → (e ≡ 0 → ⊥) → magnitude e m ≡ (e + 112) * 2 ^ 23 + m * 2 ^ 13
unfolding magnitude
magnitude_above zero m n = absurd (n refl)
magnitude_above (suc e) m n = omega arith

-- exponent 31 is refused
pub refused_code : (v : ℕ) → exponent v ≡ 31 → widened v ≡ refuses 5
unfolding widened
refused_code v e = rw (eq-eqb (exponent v) 31 e)

-- so an answer that is told as the rule has it is exact
pub widened_exactly : (v : ℕ) → v < 2 ^ 16 → (w : Wide) → w ≡ widened v → (w ≡ widened v) × ExactlyWidened v w
unfolding widened
widened_exactly v h w e = (e, rw e (go (eqb (exponent v) 31) refl))
  where
    go : (t : Bool) → eqb (exponent v) 31 ≡ t → ExactlyWidened v (cond t (refuses 5) (gives (of_bits binary32 (pattern v))))
    go true k = tt
    go false k = exact v h (omega (arith, eqb-false (exponent v) 31 k))

-- a value and a refusal are not the same answer
abbrev refused : Wide → Type 0
refused (gives x) = ⊥
refused (refuses r) = Unit {0}

pub apart : {x : Float} {r : ℕ} → refuses r ≡ gives x → ⊥
apart e = subst refused e tt

-- and what has a value is a number
pub has_number : (x : Float) (s : Bool) (a c : ℕ) → HasValue x s a c → T (not (is_nan x))
unfolding is_nan
has_number nan s a c h = absurd h
has_number (inf t) s a c h = absurd h
has_number (fin t m e) s a c h = tt
