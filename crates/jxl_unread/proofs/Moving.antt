-- Bytes that move to the front of their buffer.
use mathlib.Core.Path.{◌≡◌, sym, ◌∙◌}
use mathlib.Core.List.{List}
use Prim.Native.Nat.{ℕ, ◌-◌, min}
use native.Mathlib.Omega.{arith}
use lib.ListN.{length, drop, length-take, length-drop}
use Rattle.jxl_unread.specs.Kept.{kept}
use Rattle.jxl_unread.specs.Theorems.{OneKeep}

pub kept_size : (d : List ℕ) (from upto : ℕ) → length (kept from upto d) ≡ min upto (length d) - min from (min upto (length d))
kept_size d from upto = omega (arith, length-take (upto - from) (drop from d), length-drop from d)

pub one_keep : OneKeep
one_keep d from upto r q b c (n, p) (m, e) = (n ∙ sym m, p ∙ sym e)
