-- Two answers that meet the promise are equal, and so are the buffers that they leave.
use mathlib.Core.Bool.{Bool, true, false}
use mathlib.Core.Path.{◌≡◌, refl, sym, ◌∙◌}
use Prim.Native.Nat.{◌+◌}
use lib.Dec.{leb}
use lib.ListN.{length}
use borrow.Author.Tests.{leb-true, leb-false}
use Rattle.jxl_line_fields.specs.Theorems.{OnePutIfRoom}

pub one_put_if_room : OnePutIfRoom
one_put_if_room d at w x y b c p q = go (leb (at + length w) (length d)) refl
  where
    go : (t : Bool) → leb (at + length w) (length d) ≡ t → (x ≡ y) × (b ≡ c)
    go true h =
        let one = p.fits (leb-true (at + length w) (length d) h) in
        let other = q.fits (leb-true (at + length w) (length d) h) in
        (one.next ∙ sym other.next, one.bytes ∙ sym other.bytes)
    go false h =
        let one = p.full (leb-false (at + length w) (length d) h) in
        let other = q.full (leb-false (at + length w) (length d) h) in
        (one.1 ∙ sym other.1, one.0 ∙ sym other.0)
