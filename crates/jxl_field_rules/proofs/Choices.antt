-- A U32's four choices as offsets and widths: where none is wide the chosen one is not, and read so each gives what the rule gives.
-- Assumes nothing.
use mathlib.Core.Bool.{Bool, true, false, ◌||◌}
use mathlib.Core.List.{List, [], ◌∷◌}
use mathlib.Core.Path.{◌≡◌, refl, sym, ap, ◌∙◌}
use Prim.Native.Nat.{ℕ, zero, suc, ◌+◌, ◌*◌, ◌/◌, ◌%◌, ◌^◌, ◌≤◌, ◌<◌}
use native.Mathlib.Nat.{mod-one}
use native.Mathlib.Omega.{arith}
use borrow.Author.Tests.{ltb-false, le-leb}
use lib.ListN.{get_or}
use Rattle.jxl_bit_rules.specs.Answer.{Answer, gives, refuses, onward}
use Rattle.jxl_bit_rules.specs.Bits.{number, bits, end}
use Rattle.jxl_bit_rules.specs.Readers.{over, part}
use Rattle.jxl_field_rules.specs.Fields.{four, choice, chosen, select, wide, any_wide}
use Rattle.jxl_field_rules.specs.Inside.{width_of, offset_of, any_over, select_of}
use Rattle.jxl_field_rules.specs.declared.U32Specifier.TheVariants.{Constant, BitsOffset}
use Rattle.jxl_field_rules.specs.declared.U32Specifier.{U32Specifier}
use Rattle.jxl_bit_rules.proofs.Parts.{differ, given}

neither : (a b : Bool) → a || b ≡ false → (a ≡ false) × (b ≡ false)
neither false false e = (refl, refl)
neither false true e = (refl, e)
neither true b e = (e, cc)

-- of the first four numbers
pub each : (P : ℕ → Type 0) → P 0 → P 1 → P 2 → P 3 → (k : ℕ) → k < 4 → P k
each P a b c d zero h = a
each P a b c d (suc zero) h = b
each P a b c d (suc (suc zero)) h = c
each P a b c d (suc (suc (suc zero))) h = d
each P a b c d (suc (suc (suc (suc k)))) h = absurd (omega arith)

pub narrow : (ws : List ℕ) → any_over ws ≡ false → (k : ℕ) → k < 4 → get_or ws k 0 ≤ 32
narrow ws e k h = ltb-false 32 (get_or ws k 0) (each (λ k. over (get_or ws k 0) ≡ false) one.0 one.1 two.1 three.1 k h)
  where
    three : (over (get_or ws 0 0) || over (get_or ws 1 0) || over (get_or ws 2 0) ≡ false) × (over (get_or ws 3 0) ≡ false)
    three = neither _ _ e

    two : (over (get_or ws 0 0) || over (get_or ws 1 0) ≡ false) × (over (get_or ws 2 0) ≡ false)
    two = neither _ _ three.0

    one : (over (get_or ws 0 0) ≡ false) × (over (get_or ws 1 0) ≡ false)
    one = neither _ _ two.0

-- no bits are 0, and no further
pub no_bits : (s : List ℕ) (at : ℕ) → at ≤ end s → part 0 s at ≡ gives 0 at
unfolding part bits
no_bits s at h =
    let none : number s / 2 ^ at % 1 ≡ 0 = mod-one (number s / 2 ^ at) in
    let here : at + 0 ≡ at = omega arith in
    rw (here, le-leb at (end s) h, none)

-- a choice
as_offset : (d : U32Specifier) (s : List ℕ) (at : ℕ) → at ≤ end s → offset_of d < 2 ^ 32
    → choice (BitsOffset (offset_of d) (width_of d)) s at ≡ choice d s at
as_offset (Constant c) s at h l =
    let same : (0 + c) % 2 ^ 32 ≡ c = omega arith in
    rw (no_bits s at h, same)
as_offset (BitsOffset o n) s at h l = refl

-- the four of them
pub record Laid (d : List U32Specifier) (ws os : List ℕ) : Type 0 where
  pub widths : (k : ℕ) → k < 4 → get_or ws k 0 ≡ width_of (chosen d k)
  pub offsets : (k : ℕ) → k < 4 → get_or os k 0 ≡ offset_of (chosen d k)
  pub small : (k : ℕ) → k < 4 → get_or os k 0 < 2 ^ 32

-- as they are read one by one
pub laid : (d : List U32Specifier) (w0 w1 w2 w3 o0 o1 o2 o3 : ℕ)
    → w0 ≡ width_of (chosen d 0) → w1 ≡ width_of (chosen d 1) → w2 ≡ width_of (chosen d 2) → w3 ≡ width_of (chosen d 3)
    → o0 ≡ offset_of (chosen d 0) → o1 ≡ offset_of (chosen d 1) → o2 ≡ offset_of (chosen d 2) → o3 ≡ offset_of (chosen d 3)
    → o0 < 2 ^ 32 → o1 < 2 ^ 32 → o2 < 2 ^ 32 → o3 < 2 ^ 32
    → Laid d (w0 ∷ w1 ∷ w2 ∷ w3 ∷ []) (o0 ∷ o1 ∷ o2 ∷ o3 ∷ [])
laid d w0 w1 w2 w3 o0 o1 o2 o3 ew0 ew1 ew2 ew3 eo0 eo1 eo2 eo3 s0 s1 s2 s3 = record {
  widths = each (λ k. get_or (w0 ∷ w1 ∷ w2 ∷ w3 ∷ []) k 0 ≡ width_of (chosen d k)) ew0 ew1 ew2 ew3;
  offsets = each (λ k. get_or (o0 ∷ o1 ∷ o2 ∷ o3 ∷ []) k 0 ≡ offset_of (chosen d k)) eo0 eo1 eo2 eo3;
  small = each (λ k. get_or (o0 ∷ o1 ∷ o2 ∷ o3 ∷ []) k 0 < 2 ^ 32) s0 s1 s2 s3;
}

over_width : (d : U32Specifier) → over (width_of d) ≡ wide d
over_width (Constant c) = refl
over_width (BitsOffset o n) = refl

module _ (d : List U32Specifier) (ws os : List ℕ) (four : Laid d ws os) where
  pub any_over_lem : any_over ws ≡ any_wide d
  unfolding any_wide
  any_over_lem =
      let w : (k : ℕ) → k < 4 → over (get_or ws k 0) ≡ wide (chosen d k) = λ k h. ap over (four.widths k h) ∙ over_width (chosen d k) in
      rw (w 0 (omega arith), w 1 (omega arith), w 2 (omega arith), w 3 (omega arith))

  pub selects : (s : List ℕ) (at : ℕ) → select_of ws os s at ≡ select d s at
  unfolding select_of select
  selects s at = go (part 2 s at) refl
    where
      go : (a : Answer ℕ) → part 2 s at ≡ a
          → onward s a (λ k. choice (BitsOffset (get_or os k 0) (get_or ws k 0))) ≡ onward s a (λ k. choice (chosen d k))
      go (refuses r t p) e = refl
      go (gives k p) e =
          let g = given 2 s at k p (sym e) in
          let o = four.offsets k g.below in
          let small = four.small k g.below in
          rw (four.widths k g.below, o) (as_offset (chosen d k) s p (omega (arith, g.within)) (omega arith))

-- ---- Enum's four
-- a part of no bits is never refused
pub never_refused : {A : Type 0} (s : List ℕ) (at r : ℕ) (t : List ℕ) (p : ℕ) → at ≤ end s → refuses r t p ≡ part 0 s at → A
never_refused s at r t p h e = differ (sym (e ∙ no_bits s at h))

-- where the part is refused, of the width as the code computes it: none for the constants, else twice the selector
pub four_refused : (s : List ℕ) (at k p w r : ℕ) (t : List ℕ) (q : ℕ) → gives k p ≡ part 2 s at → (k < 2 → w ≡ 0) → (2 ≤ k → w ≡ 2 * k)
    → refuses r t q ≡ part w s p → refuses r t q ≡ select four s at
unfolding select
four_refused s at k p w r t q first low high h =
    let g = given 2 s at k p first in
    rw (← first) (each (λ k. (k < 2 → w ≡ 0) → (2 ≤ k → w ≡ 2 * k) → refuses r t q ≡ choice (chosen four k) s p)
    (λ l m. never_refused s p r t q g.within (h ∙ ap (λ (n : ℕ). part n s p) (l (omega arith))))
    (λ l m. never_refused s p r t q g.within (h ∙ ap (λ (n : ℕ). part n s p) (l (omega arith))))
    (λ l m. let e = h ∙ ap (λ (n : ℕ). part n s p) (m (omega arith)) in rw (← e))
    (λ l m. let e = h ∙ ap (λ (n : ℕ). part n s p) (m (omega arith)) in rw (← e))
    k g.below low high)
