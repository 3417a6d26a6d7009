-- Two answers that meet the promise are equal, and so are the parsers that they leave.
use mathlib.Core.Path.{sym, ◌∙◌}
use Rattle.jxl_end.proofs.Unique.{told_one}
use Rattle.jxl_feed_end.specs.Theorems.{OneEndBytes}

pub one_end_bytes : OneEndBytes
one_end_bytes p s x y q r a b = told_one x y q r (a ∙ sym b)
