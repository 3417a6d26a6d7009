-- Lines counted, and put one behind the other into a buffer.
use mathlib.Core.Path.{◌≡◌, sym, ap, ◌∙◌}
use mathlib.Core.List.{List, ◌++◌}
use Prim.Native.Nat.{ℕ, ◌+◌, ◌-◌, ◌≤◌}
use native.Mathlib.Nat.{zero-add}
use native.Mathlib.Omega.{arith}
use lib.ListN.{length, take, drop, length-append, length-drop}
use lib.Seq.{take-add, take_at, drop-drop, drop-append-add, take-append_seam, drop-append_seam, length-take-le, take-length}
use Rattle.jxl_lines.specs.Pasting.{pasted}

-- the first w bytes of a text stand at the front of a buffer; the next line of it is put behind them
module _ (all buffer line after : List ℕ) (w : ℕ) (e : drop w all ≡ line ++ after) (h : w ≤ length all) where
  long : length (take w all) ≡ w
  long = length-take-le w all h

  pub further : drop (w + length line) all ≡ after
  further = sym (drop-drop (length line) w all) ∙ ap (drop (length line)) e ∙ drop-append_seam line after

  pub one_further : take (w + length line) all ≡ take w all ++ line
  one_further = take-add w (length line) all ∙ ap (λ (l : List ℕ). take w all ++ take (length line) l) e ∙ ap (λ (l : List ℕ). take w all ++ l) (take-append_seam line after)

  pub paste_line : pasted (take w all ++ drop w buffer) w line ≡ take (w + length line) all ++ drop (w + length line) buffer
  paste_line =
      let behind : drop (w + length line) (take w all ++ drop w buffer) ≡ drop (w + length line) buffer =
      ap (λ (n : ℕ). drop (n + length line) (take w all ++ drop w buffer)) (sym long)
      ∙ drop-append-add (take w all) (drop w buffer) (length line) ∙ drop-drop (length line) w buffer in
      rw (take_at (take w all) (drop w buffer) w long, behind, one_further)

-- all of it
pub paste_all : (all buffer : List ℕ) (w : ℕ) → w ≡ length all → take w all ++ drop w buffer ≡ pasted buffer 0 all
paste_all all buffer w e = rw (e, take-length all, zero-add (length all))

-- one line more of a text that is put at the front of a buffer
module _ (all buffer out line after : List ℕ) (w : ℕ) (room : length all ≤ length buffer) (h : w ≤ length all) (e : drop w all ≡ line ++ after)
    (o : out ≡ take w all ++ drop w buffer) where
  left : length line + length after ≡ length all - w
  left = sym (length-append line after) ∙ sym (ap length e) ∙ length-drop w all

  pub kept : length out ≡ length buffer
  kept = omega (arith, ap length o, length-append (take w all) (drop w buffer), length-take-le w all h, length-drop w buffer)

  pub line_fits : w + length line ≤ length out
  line_fits = omega (arith, left, kept)

  pub next_line : (v : ℕ) (put : List ℕ) → (v ≡ w + length line) × (put ≡ pasted out w line)
      → (v ≤ length all) × (drop v all ≡ after) × (put ≡ take v all ++ drop v buffer)
  next_line v put (n, p) = (
    omega (arith, left),
    ap (λ (m : ℕ). drop m all) n ∙ further all buffer line after w e h,
    p ∙ ap (λ (l : List ℕ). pasted l w line) o ∙ paste_line all buffer line after w e h ∙ ap (λ (m : ℕ). take m all ++ drop m buffer) (sym n),
  )
