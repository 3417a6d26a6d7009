-- Bytes put into a buffer with room for them, and into one without.
use mathlib.Core.Path.{◌≡◌, refl, sym, ap, ◌∙◌}
use mathlib.Core.Bool.{Bool, true, false}
use mathlib.Core.List.{List}
use Prim.Native.Nat.{ℕ, ◌+◌, ◌<◌, ◌≤◌}
use native.Mathlib.Omega.{arith}
use lib.Dec.{leb}
use lib.ListN.{length}
use borrow.Author.Tests.{le-leb, lt-leb, leb-true}
use Rattle.std.specs.Prelude.{Ok, Err}
use Rattle.jxl_lines.specs.Pasting.{Pasted}
use Rattle.jxl_lines.specs.Putting.{leaves, put_of}
use Rattle.jxl_lines.specs.Theorems.{PutWhereRoom, KeptWithoutRoom}

pub kept_without_room : KeptWithoutRoom
unfolding put_of
kept_without_room d at w h = rw lt-leb

pub put_where_room : PutWhereRoom
unfolding put_of
put_where_room d at w h = rw le-leb

module _ (d : List ℕ) (at : ℕ) (w : List ℕ) where
  pub no_room : {n : ℕ} → n ≡ length w → length d < at + n → leaves (Err (record { needed = n })) d ≡ put_of d at w
  no_room {n} m h = ap (λ (k : ℕ). leaves (Err (record { needed = k })) d) m ∙ sym (kept_without_room d at w (omega arith))

pub room : {d w e : List ℕ} {at r : ℕ} → Pasted d at w e r → leaves (Ok r) e ≡ put_of d at w
room {d} {w} {e} {at} {r} p =
    let bytes = p.bytes in
    let next = p.next in
    let put = put_where_room d at w p.room in
    cc

-- what was written ends inside the buffer
pub put_within : (d : List ℕ) (at : ℕ) (w : List ℕ) {e : List ℕ} {n : ℕ} → leaves (Ok n) e ≡ put_of d at w → n ≤ length d
unfolding put_of
put_within d at w {e} {n} q = go (leb (at + length w) (length d)) refl
  where
    go : (t : Bool) → leb (at + length w) (length d) ≡ t → n ≤ length d
    go true h = let same = rw h at q in let end : n ≡ at + length w = cc in omega (arith, leb-true (at + length w) (length d) h)
    go false h = absurd (let same = rw h at q in let z : ◌≡◌ {A = ℕ} 0 1 = cc in omega arith)
