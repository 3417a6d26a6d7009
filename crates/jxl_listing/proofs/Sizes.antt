-- How many bytes the end of a side box's first line has.
use mathlib.Core.Bool.{Bool}
use mathlib.Core.List.{[], ◌∷◌}
use mathlib.Core.Path.{◌≡◌}
use Prim.Native.Nat.{◌+◌}
use native.Mathlib.Omega.{arith}
use lib.ListN.{length, length-append}
use Rattle.jxl_lines.specs.Lines.{brob_word, end_word, rest}

pub tail_size : (b e : Bool) → length (rest (brob_word b ∷ end_word e ∷ [])) ≡ 3 + length (brob_word b) + length (end_word e)
tail_size b e = simp length-append (omega arith)
