-- `bits` is document 01's order: lowest first within a byte, and the first bit read is the lowest of the value.
-- And reading n then m bits is reading n + m.
-- Assumes nothing.
use mathlib.Core.List.{List}
use mathlib.Core.Path.{◌≡◌, sym, ap, ◌∙◌}
use Prim.Native.Nat.{ℕ, suc, ◌+◌, ◌*◌, ◌/◌, ◌%◌, ◌^◌}
use native.Mathlib.Nat.{add_comm, mod-one}
use native.Mathlib.Omega.{arith}
use lib.ListN.{get_or, drop}
use lib.Pow.{shr-shr, mod-pow-add}
use Rattle.jxl_bit_rules.specs.Bits.{Bytes, number, bits, bit}
use Rattle.jxl_bit_rules.specs.Theorems.{LowestFirst, Together}
use Rattle.jxl_bit_rules.proofs.Numbers.{number_at, cut, bits_from}

-- n bits, then m above them
pub together : Together
unfolding bits
together s at n m =
    let x = number s / 2 ^ at in
    ap (λ (k : ℕ). x % 2 ^ k) (add_comm n m)
    ∙ mod-pow-add x m n
    ∙ ap (λ (y : ℕ). y % 2 ^ m * 2 ^ n + x % 2 ^ n) (shr-shr (number s) at n)
    ∙ omega arith

-- one bit is the bit of its byte
one : (s : List ℕ) → Bytes s → (at : ℕ) → bits s at 1 ≡ bit s at
unfolding bit
one s h at =
    let x = number (drop (at / 8) s) in
    let byte : x % 2 ^ 8 ≡ get_or s (at / 8) 0 = omega (arith, number_at s (at / 8), h (at / 8)) in
    sym (bits_from s h at 1) ∙ sym (cut x 8 (at % 8) 1 (omega arith)) ∙ ap (λ (y : ℕ). y / 2 ^ (at % 8) % 2) byte

-- no bits are 0, and the first of n + 1 bits is the lowest
none : (s : List ℕ) (at : ℕ) → bits s at 0 ≡ 0
unfolding bits
none s at = mod-one (number s / 2 ^ at)

more : (s : List ℕ) → Bytes s → (at n : ℕ) → bits s at (suc n) ≡ bit s at + 2 * bits s (at + 1) n
more s h at n =
    let up : suc n ≡ 1 + n = omega arith in
    ap (bits s at) up ∙ together s at 1 n ∙ ap (λ (y : ℕ). y + 2 * bits s (at + 1) n) (one s h at)

pub lowest_first : LowestFirst
lowest_first s h at = (none s at, more s h at)
