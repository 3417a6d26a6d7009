-- Bytes put into a buffer behind others.
use mathlib.Core.Path.{◌≡◌, refl, sym, ap, ◌∙◌}
use mathlib.Core.Bool.{Bool, true, false}
use mathlib.Core.List.{List, [], ◌++◌, append-nil}
use Prim.Native.Nat.{ℕ, ◌+◌, ◌<◌, ◌≤◌}
use native.Mathlib.Nat.{zero-add, add-zero}
use native.Mathlib.Omega.{arith}
use lib.Dec.{leb}
use lib.ListN.{length, take, drop, length-append, length-drop, take-append-drop}
use lib.Seq.{take_at, drop_at, length-take-le}
use borrow.Author.Tests.{le-leb, leb-true, leb-false}
use Rattle.std.specs.Prelude.{Ok, Err}
use Rattle.jxl_lines.specs.Pasting.{pasted}
use Rattle.jxl_lines.specs.Putting.{leaves, put_of}
use Rattle.jxl_lines.specs.declared.NoRoom.{NoRoom}

-- nothing to put
pub put_nothing : (d : List ℕ) (at : ℕ) → at ≤ length d → put_of d at [] ≡ leaves (Ok at) d
unfolding put_of
put_nothing d at h = rw (add-zero at, le-leb at (length d) h, append-nil (take at d), take-append-drop at d)

-- what an answer says of the bytes that were to be put
pub put_was : (d : List ℕ) (at : ℕ) (w e : List ℕ) {n : ℕ} → leaves (Ok n) e ≡ put_of d at w
    → (at + length w ≤ length d) × (n ≡ at + length w) × (e ≡ pasted d at w)
unfolding put_of
put_was d at w e {n} q = go (leb (at + length w) (length d)) refl
  where
    go : (t : Bool) → leb (at + length w) (length d) ≡ t → (at + length w ≤ length d) × (n ≡ at + length w) × (e ≡ pasted d at w)
    go true h = let same = rw h at q in (leb-true (at + length w) (length d) h, cc, cc)
    go false h = absurd (let same = rw h at q in let z : ◌≡◌ {A = ℕ} 0 1 = cc in omega arith)

pub put_was_not : (d : List ℕ) (at : ℕ) (w e : List ℕ) {n : NoRoom} → leaves (Err n) e ≡ put_of d at w → (length d < at + length w) × (e ≡ d)
unfolding put_of
put_was_not d at w e {n} q = go (leb (at + length w) (length d)) refl
  where
    go : (t : Bool) → leb (at + length w) (length d) ≡ t → (length d < at + length w) × (e ≡ d)
    go true h = absurd (let same = rw h at q in let z : ◌≡◌ {A = ℕ} 0 1 = cc in omega arith)
    go false h = let same = rw h at q in (leb-false (at + length w) (length d) h, cc)

-- bytes put behind the first w: what stands in front of the next place, behind it, and how long it all is
module _ (d w : List ℕ) (at : ℕ) (h : at + length w ≤ length d) where
  front : length (take at d ++ w) ≡ at + length w
  front = length-append (take at d) w ∙ ap (λ (n : ℕ). n + length w) (length-take-le at d (omega arith))

  pub take_pasted : take (at + length w) (pasted d at w) ≡ take at d ++ w
  take_pasted = take_at (take at d ++ w) (drop (at + length w) d) (at + length w) front

  pub drop_pasted : drop (at + length w) (pasted d at w) ≡ drop (at + length w) d
  drop_pasted = drop_at (take at d ++ w) (drop (at + length w) d) (at + length w) front

  pub length_pasted : length (pasted d at w) ≡ length d
  length_pasted = omega (arith, length-append (take at d ++ w) (drop (at + length w) d), front, length-drop (at + length w) d)

-- a buffer that is unchanged behind w bytes has its first w bytes put
pub front_put : (out buffer : List ℕ) (w : ℕ) → w ≤ length out → drop w out ≡ drop w buffer → out ≡ pasted buffer 0 (take w out)
front_put out buffer w h e =
    sym (take-append-drop w out)
    ∙ rw (length-take-le w out h, zero-add w, e)
