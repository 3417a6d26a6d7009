-- What F16 gives is exactly the number of the 16 bits read.
-- Assumes nothing.
use mathlib.Core.Bool.{Bool, true, false, cond}
use mathlib.Core.List.{List, []}
use mathlib.Core.Path.{◌≡◌, refl, sym, ap, subst, ◌∙◌}
use Prim.Native.Nat.{ℕ, ◌^◌, ◌<◌}
use native.Mathlib.Omega.{arith}
use borrow.Author.Tests.{eqb-false}
use lib.Dec.{eqb}
use lib.Ieee.{Float, binary32, of_bits}
use Rattle.jxl_half.specs.Half.{exponent, pattern, Exactly}
use Rattle.jxl_half.specs.Widen as W
use Rattle.jxl_half.specs.Widen.{widened}
use Rattle.jxl_half.proofs.Halves.{exact, apart}
use Rattle.jxl_bit_rules.specs.Answer.{Answer, onward, gives, refuses, ◌>>=◌, done, refuse}
use Rattle.jxl_bit_rules.specs.Bits.{bits, start}
use Rattle.jxl_bit_rules.specs.Readers.{begin, part}
use Rattle.jxl_field_rules.specs.Fields.{half, f16, ExactlyGiven}
use Rattle.jxl_bit_rules.specs.Refusals.{float}
use Rattle.jxl_field_rules.specs.Theorems.{F16Exact}
use Rattle.jxl_bit_rules.proofs.Parts.{begun, given}

-- the rule of a code, as it is answered
module _ (v : ℕ) where
  pub half_refused : (s : List ℕ) (p : ℕ) → W.refuses 5 ≡ widened v → refuses float [] p ≡ half v s p
  unfolding widened half
  half_refused s p = go (eqb (exponent v) 31)
    where
      go : (t : Bool) → W.refuses 5 ≡ cond t (W.refuses 5) (W.gives (of_bits binary32 (pattern v)))
          → refuses float [] p ≡ cond t (refuse float []) (done (of_bits binary32 (pattern v))) s p
      go true e = refl
      go false e = absurd (apart e)

  pub half_given : (x : Float) (s : List ℕ) (p : ℕ) → W.gives x ≡ widened v → gives x p ≡ half v s p
  unfolding widened half
  half_given x s p = go (eqb (exponent v) 31)
    where
      go : (t : Bool) → W.gives x ≡ cond t (W.refuses 5) (W.gives (of_bits binary32 (pattern v)))
          → gives x p ≡ cond t (refuse float []) (done (of_bits binary32 (pattern v))) s p
      go true e = absurd (apart (sym e))
      go false e = cc

-- what F16 gives is exact
pub f16_exact : F16Exact
unfolding f16 half
f16_exact s at = begins (begin false s at) refl
  where
    codes : (v p : ℕ) → v < 2 ^ 16 → v ≡ bits s (start s at) 16 → (t : Bool) → eqb (exponent v) 31 ≡ t
        → ExactlyGiven s at (cond t (refuse float []) (done (of_bits binary32 (pattern v))) s p)
    codes v p small same true e = tt
    codes v p small same false e = subst (λ (w : ℕ). Exactly w (of_bits binary32 (pattern v))) same (exact v small (omega (arith, eqb-false (exponent v) 31 e)))

    parts : (q : ℕ) → q ≡ start s at → (b : Answer ℕ) → part 16 s q ≡ b → ExactlyGiven s at (onward s b half)
    parts q place (refuses r t p) e = tt
    parts q place (gives v p) e =
        let g = given 16 s q v p (sym e) in
        codes v p g.below (g.value ∙ ap (λ (x : ℕ). bits s x 16) place) (eqb (exponent v) 31) refl

    begins : (b : Answer (Unit {0})) → begin false s at ≡ b → ExactlyGiven s at (onward s b (λ _. part 16 >>= half))
    begins (refuses r t q) e = tt
    begins (gives u q) e = parts q (begun false s at q (sym e)).place (part 16 s q) refl

-- so an answer that is told as the rule has it is exact
pub given_exactly : (s : List ℕ) (at : ℕ) (a : Answer Float) → a ≡ f16 s at → (a ≡ f16 s at) × ExactlyGiven s at a
given_exactly s at a e = (e, rw e (f16_exact s at))
