-- UnpackSigned, once for every width: flipping every bit of x / 2 where x is odd gives the paper's number.
use mathlib.Core.Path.{◌≡◌, refl, sym, ap, ◌∙◌}
use mathlib.Core.Bool.{Bool, true, false}
use Prim.Native.Nat.{ℕ, suc, ◌+◌, ◌-◌, ◌*◌, ◌/◌, ◌%◌, ◌^◌, ◌<◌, ◌≤◌}
use native.Mathlib.Omega.{arith}
use native.Mathlib.Nat.{mod-eq_of_lt}
use lib.Dec.{eqb, lit≤}
use lib.IntN.{pos, neg_ℤ, ◌-ℤ◌}
use lib.Bits.{bit_and, bit_xor, and_mask, xor_zero_r, xor_add_and}
use borrow.Author.Tests.{eqb-true, eqb-false}
use mir.Syntax.{Width, w8, w16, w32, w64, w128}
use mir.Val.{SFits, to_z, bits, hbits}
use mir.ValLaws.{to_z_pos, to_z-neg, pow-bits}
use Rattle.jxl_unpack.specs.Theorems.{flipped, Unpacks}
use Rattle.jxl_unpack.specs.UnpackSigned.{unpacked}

two_fits : (w : Width) → 2 ≤ 2 ^ hbits w
two_fits w8 = lit≤ tt
two_fits w16 = lit≤ tt
two_fits w32 = lit≤ tt
two_fits w64 = lit≤ tt
two_fits w128 = lit≤ tt

-- flipping all k bits of a number below 2 ^ k takes it from 2 ^ k - 1
taken : (k a : ℕ) → a < 2 ^ k → bit_xor a (2 ^ k - 1) ≡ 2 ^ k - suc a
taken k a h =
    let kept : bit_and a (2 ^ k - 1) ≡ a = and_mask a k ∙ mod-eq_of_lt h in
    let sum : bit_xor a (2 ^ k - 1) + bit_and a (2 ^ k - 1) * 2 ≡ a + (2 ^ k - 1) = xor_add_and a (2 ^ k - 1) in
    omega arith

module _ (w : Width) (x : ℕ) where
  pub bit_fits : SFits w (pos (bit_and x 1))
  bit_fits = record { sfits = omega (arith, and_mask x 1, two_fits w) }

  bit_is : (b : ℕ) → x % 2 ≡ b → to_z w (bit_and x 1) ≡ pos b
  bit_is b e = ap (to_z w) (and_mask x 1 ∙ e) ∙ to_z_pos w b (omega (arith, two_fits w))

  odd : eqb (x % 2) 0 ≡ false → x % 2 ≡ 1
  odd e = omega (arith, eqb-false (x % 2) 0 e)

  flip_fits : (t : Bool) → eqb (x % 2) 0 ≡ t → SFits w (pos 0 -ℤ to_z w (bit_and x 1))
  flip_fits true e = rw (bit_is 0 (eqb-true _ _ e)) (record { sfits = omega (arith, two_fits w) })
  flip_fits false e = rw (bit_is 1 (odd e)) (record { sfits = omega (arith, two_fits w) })

  pub negated_fits : SFits w (pos 0 -ℤ to_z w (bit_and x 1))
  negated_fits = flip_fits (eqb (x % 2) 0) refl

  by_bit : x < 2 ^ bits w → (t : Bool) → eqb (x % 2) 0 ≡ t → flipped w x ≡ unpacked x
  unfolding unpacked
  by_bit h true e =
      rw (bit_is 0 (eqb-true _ _ e), xor_zero_r (x / 2), e) (to_z_pos w (x / 2) (omega (arith, pow-bits w)))
  by_bit h false e =
      let one : x % 2 ≡ 1 = odd e in
      let half : (x + 1) / 2 ≡ suc (x / 2) = omega arith in
      rw (bit_is 1 one, taken (bits w) (x / 2) (omega arith), e)
      (to_z-neg w (x / 2) (omega (arith, pow-bits w)) ∙ sym (ap (λ (n : ℕ). neg_ℤ (pos n)) half))

pub unpacks : Unpacks
unpacks w x h = by_bit w x h (eqb (x % 2) 0) refl
