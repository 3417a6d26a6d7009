-- Bytes put one behind the other.
use mathlib.Core.Path.{◌≡◌, refl, sym, ap, subst, ◌∙◌}
use mathlib.Core.List.{List, [], ◌∷◌, ◌++◌, append_assoc}
use Prim.Native.Nat.{ℕ, ◌+◌, ◌≤◌}
use native.Mathlib.Omega.{arith}
use lib.ListN.{length, take, drop, set, length-append, length-drop}
use lib.Seq.{take-length, take_at, drop-append-add, drop-drop, length-take-le, sets, sets-eq, paste}
use Rattle.jxl_lines.specs.Pasting.{pasted, Pasted}

-- a whole word copied in
pub pasted_whole : (d : List ℕ) (at : ℕ) (w : List ℕ) → paste d at w (length w) ≡ pasted d at w
pasted_whole d at w = ap (λ (l : List ℕ). take at d ++ l ++ drop (at + length w) d) (take-length w)

-- bytes stored one by one, from k behind `at` on
abbrev stored : List ℕ → ℕ → ℕ → List ℕ → List ℕ
stored d at k [] = d
stored d at k (b ∷ w) = stored (set d (at + k) b) at (k + 1) w

stored_sets : (d : List ℕ) (at k : ℕ) (w : List ℕ) {i : ℕ} → i ≡ at + k → stored d at k w ≡ sets d i w
stored_sets d at k [] e = refl
stored_sets d at k (b ∷ w) {i} e = rw (sym e) (stored_sets (set d i b) at (k + 1) w (omega arith))

pub pasted_stored : (d : List ℕ) (at b : ℕ) (w : List ℕ) → at + length (b ∷ w) ≤ length d
    → Pasted d at (b ∷ w) (stored (set d at b) at 1 w) (at + length (b ∷ w))
pasted_stored d at b w h =
    record { room = h; bytes = stored_sets (set d at b) at 1 w (omega arith) ∙ sets-eq (b ∷ w) d at h; next = refl }

-- the same bytes by another name
pub pasted_as : {d v w e : List ℕ} {at r : ℕ} → v ≡ w → Pasted d at v e r → Pasted d at w e r
pasted_as {d} {v} {w} {e} {at} {r} same p = subst (λ (l : List ℕ). Pasted d at l e r) same p

-- one word behind the other
pub pasted_then : {d e f x y : List ℕ} {at r s : ℕ} → Pasted d at x e r → Pasted e r y f s → Pasted d at (x ++ y) f s
pasted_then {d} {e} {f} {x} {y} {at} {r} {s} p q =
    let front : length (take at d ++ x) ≡ r =
    length-append (take at d) x ∙ ap (λ (n : ℕ). n + length x) (length-take-le at d (omega (arith, p.room))) ∙ sym p.next in
    let tail = drop (at + length x) d in
    let both : at + length x + length y ≡ at + length (x ++ y) = omega (arith, length-append x y) in
    let before : take r e ≡ take at d ++ x = ap (λ (l : List ℕ). take r l) p.bytes ∙ take_at (take at d ++ x) tail r front in
    let behind : drop (r + length y) e ≡ drop (at + length (x ++ y)) d =
    ap (λ (l : List ℕ). drop (r + length y) l) p.bytes ∙ ap (λ (n : ℕ). drop (n + length y) (pasted d at x)) (sym front)
    ∙ drop-append-add (take at d ++ x) tail (length y) ∙ drop-drop (length y) (at + length x) d
    ∙ ap (λ (n : ℕ). drop n d) both in
    let same : length e ≡ length d = ap length p.bytes ∙ simp (length-append, length-drop) (omega (arith, length-append (take at d) x, p.room)) in
    record {
      room = simp length-append (omega arith);
      bytes =
          q.bytes ∙ ap (λ (l : List ℕ). l ++ y ++ drop (r + length y) e) before
          ∙ ap (λ (l : List ℕ). (take at d ++ x) ++ y ++ l) behind
          ∙ ap (λ (l : List ℕ). l ++ drop (at + length (x ++ y)) d) (append_assoc (take at d) x y);
      next = simp length-append (omega arith);
    }
