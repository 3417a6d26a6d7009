-- The buffer as one number: its parts, and the eight bytes in which any 32 bits lie.
-- Assumes nothing.
use mathlib.Core.List.{List, [], ◌∷◌}
use mathlib.Core.Path.{◌≡◌, refl, sym, ap, ◌∙◌}
use Prim.Native.Nat.{ℕ, zero, suc, ◌+◌, ◌-◌, ◌*◌, ◌/◌, ◌%◌, ◌^◌, ◌≤◌, ◌<◌}
use native.Mathlib.Nat.{zero-div, div-one, one-mul, lt_of_lt_of_le, mod-lt}
use native.Mathlib.Omega.{arith}
use lib.Arith.{mod-mul}
use lib.Bits.{bit_and, and_mask}
use lib.Dec.{lit<}
use lib.ListN.{get_or, drop}
use lib.Pow.{shl_exact, shr-shr, field, mod-mod-pow, pow_pos, pow_mono}
use Rattle.jxl_bit_rules.specs.Bits.{Bytes, number, bits}

-- a byte, then the rest; beyond the end all is 0
pub number_at : (s : List ℕ) (i : ℕ) → number (drop i s) ≡ get_or s i 0 + 256 * number (drop (suc i) s)
unfolding number
number_at [] zero = refl
number_at [] (suc i) = refl
number_at (b ∷ s) zero = refl
number_at (b ∷ s) (suc i) = number_at s i

-- whole bytes are divided off
pub number_drop : (s : List ℕ) → Bytes s → (i : ℕ) → number s / 2 ^ (8 * i) ≡ number (drop i s)
unfolding number
number_drop s h zero = div-one (number s)
number_drop [] h (suc i) = zero-div (2 ^ (8 * suc i))
number_drop (b ∷ s) h (suc i) =
    let n = number s in
    let byte : b < 256 = h 0 in
    ap (λ (k : ℕ). (b + 256 * n) / 2 ^ k) (omega arith) ∙ sym (shr-shr (b + 256 * n) 8 (8 * i))
    ∙ ap (λ (x : ℕ). x / 2 ^ (8 * i)) (omega arith) ∙ number_drop s (λ k. h (suc k)) i

-- one byte of a remainder, and the rest of it
step : (s : List ℕ) → Bytes s → (p : ℕ) → 0 < p → (i j : ℕ) → suc i ≡ j
    → number (drop i s) % (p * 256) ≡ get_or s i 0 + 256 * (number (drop j s) % p)
step s h p pos i j e =
    let b = get_or s i 0 in
    let m = number (drop j s) in
    let byte : b < 256 = h i in
    let whole : number (drop i s) ≡ b + 256 * m = rw (← e) (number_at s i) in
    let high : number (drop i s) / 256 ≡ m = omega arith in
    mod-mul (number (drop i s)) pos (lit< tt) ∙ rw high (omega arith)

-- eight bytes, the first lowest
pub eight : (s : List ℕ) → Bytes s → (i : ℕ)
    → number (drop i s) % 2 ^ 64 ≡ get_or s i 0 + 256 * (get_or s (i + 1) 0 + 256 * (get_or s (i + 2) 0 + 256 * (get_or s (i + 3) 0 + 256 * (get_or s (i + 4) 0 + 256 * (get_or s (i + 5) 0 + 256 * (get_or s (i + 6) 0 + 256 * get_or s (i + 7) 0))))))
eight s h i =
    step s h (2 ^ 56) (lit< tt) i (i + 1) (omega arith)
    ∙ rw (step s h (2 ^ 48) (lit< tt) (i + 1) (i + 2) (omega arith), step s h (2 ^ 40) (lit< tt) (i + 2) (i + 3) (omega arith), step s h (2 ^ 32) (lit< tt) (i + 3) (i + 4) (omega arith), step s h (2 ^ 24) (lit< tt) (i + 4) (i + 5) (omega arith), step s h (2 ^ 16) (lit< tt) (i + 5) (i + 6) (omega arith), step s h (2 ^ 8) (lit< tt) (i + 6) (i + 7) (omega arith), last)
  where
    last : number (drop (i + 7) s) % 2 ^ 8 ≡ get_or s (i + 7) 0
    last = omega (arith, step s h 1 (lit< tt) (i + 7) (i + 8) (omega arith))

-- a remainder keeps the bits below it
pub cut : (x w j n : ℕ) → j + n ≤ w → x % 2 ^ w / 2 ^ j % 2 ^ n ≡ x / 2 ^ j % 2 ^ n
cut x w j n h =
    let all : w ≡ w - j + j = omega arith in
    let few : w - j ≡ w - j - n + n = omega arith in
    ap (λ (k : ℕ). x % 2 ^ k / 2 ^ j % 2 ^ n) all
    ∙ ap (λ (y : ℕ). y % 2 ^ n) (field x (w - j) j)
    ∙ ap (λ (k : ℕ). x / 2 ^ j % 2 ^ k % 2 ^ n) few
    ∙ mod-mod-pow (x / 2 ^ j) (w - j - n) n

-- bits at a place are bits of the bytes from there
pub bits_from : (s : List ℕ) → Bytes s → (at n : ℕ) → number (drop (at / 8) s) / 2 ^ (at % 8) % 2 ^ n ≡ bits s at n
unfolding bits
bits_from s h at n =
    let whole : 8 * (at / 8) + at % 8 ≡ at = omega arith in
    ap (λ (y : ℕ). y / 2 ^ (at % 8) % 2 ^ n) (sym (number_drop s h (at / 8)))
    ∙ ap (λ (y : ℕ). y % 2 ^ n) (shr-shr (number s) (8 * (at / 8)) (at % 8))
    ∙ ap (λ (k : ℕ). number s / 2 ^ k % 2 ^ n) whole

-- up to 32 of them lie in eight bytes
pub from_eight : (s : List ℕ) → Bytes s → (at n : ℕ) → n ≤ 32
    → number (drop (at / 8) s) % 2 ^ 64 / 2 ^ (at % 8) % 2 ^ n ≡ bits s at n
from_eight s h at n small = cut (number (drop (at / 8) s)) 64 (at % 8) n (omega arith) ∙ bits_from s h at n

-- the mask of n ones
pub one_at : (n : ℕ) → n ≤ 32 → 1 * 2 ^ n % 2 ^ 64 ≡ 2 ^ n
one_at n small = shl_exact 1 n 64 (lit< tt) (omega arith) ∙ one-mul (2 ^ n)

pub masked : (x n : ℕ) → n ≤ 32 → bit_and x (1 * 2 ^ n % 2 ^ 64 - 1) ≡ x % 2 ^ n
masked x n small = ap (λ (p : ℕ). bit_and x (p - 1)) (one_at n small) ∙ and_mask x n

-- the bits that a mask leaves of eight bytes, shifted down: up to 32, so they fit
module _ (s : List ℕ) (h : Bytes s) (at n : ℕ) (small : n ≤ 32) (w : ℕ) (e : w ≡ number (drop (at / 8) s) % 2 ^ 64) where
  pub looked : bit_and (w / 2 ^ (at % 8)) (1 * 2 ^ n % 2 ^ 64 - 1) ≡ bits s at n
  looked = masked (w / 2 ^ (at % 8)) n small ∙ ap (λ (x : ℕ). x / 2 ^ (at % 8) % 2 ^ n) e ∙ from_eight s h at n small

pub masked_fits : (x n : ℕ) → n ≤ 32 → bit_and x (1 * 2 ^ n % 2 ^ 64 - 1) < 2 ^ 32
masked_fits x n small = rw (masked x n small) (lt_of_lt_of_le (mod-lt x (pow_pos n)) (pow_mono small))

pub mask_there : (n : ℕ) → n ≤ 32 → 1 ≤ 1 * 2 ^ n % 2 ^ 64
mask_there n small = rw (one_at n small) (pow_pos n)
