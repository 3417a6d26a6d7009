-- Two answers that meet a promise are equal.
use mathlib.Core.Path.{sym, ◌∙◌}
use Rattle.jxl_base.proofs.OneAnswer.{one_named}
use Rattle.jxl_joiner.specs.Joiner.{adding}
use Rattle.jxl_joiner.specs.Theorems.{OneNew, OneAdd, OneFinish}

pub one_new : OneNew
one_new x y p q = λ i. record { held = (p ∙ sym q) i }

pub one_add : OneAdd
one_add j e = one_named (adding j.held e)

pub one_finish : OneFinish
one_finish j = one_named j.held
