-- The promise determines its answer.
-- Assumes nothing.
use Rattle.std.proofs.Common.{◌≡◌, Option, Some, None, Float, refl, sym, ap, ◌∙◌}
use Rattle.jxl_base.proofs.OneAnswer.{one_told}
use Rattle.jxl_half.specs.Theorems.{OneWiden}
use Rattle.jxl_half.specs.Widen.{Wide, gives, refuses, told, widened}

-- an answer, from what is told of it
abbrev back : Wide → Option Float
back (gives x) = Some x
back (refuses n) = None

same : (r : Option Float) → back (told r) ≡ r
same (Some x) = refl
same None = refl

pub one_widen : OneWiden
one_widen v = one_told told (λ r q e. sym (same r) ∙ ap back e ∙ same q) (widened v)
