-- A line that was put at the front of a buffer lies inside it.
use mathlib.Core.Path.{◌≡◌, sym}
use mathlib.Core.List.{List}
use Prim.Native.Nat.{ℕ}
use native.Mathlib.Omega.{arith}
use lib.ListN.{length, take}
use lib.Seq.{length-take-le}
use Rattle.std.specs.Prelude.{Ok}
use Rattle.jxl_lines.specs.Putting.{leaves, put_of}
use Rattle.jxl_lines.proofs.Putting.{put_within}

pub written : (d : List ℕ) (at : ℕ) (w : List ℕ) {e : List ℕ} {n : ℕ} → leaves (Ok n) e ≡ put_of d at w → length e ≡ length d → n ≡ length (take n e)
written d at w {e} {n} h k = sym (length-take-le n e (omega (arith, put_within d at w h, k)))
