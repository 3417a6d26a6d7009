-- The rule of a number and its values, found again.
use mathlib.Core.Path.{◌≡◌, refl, sym, ap, ◌∙◌}
use lib.Dec.{eqb}
use lib.ListN.{get_or}
use Rattle.jxl_cuts.specs.Machine.{if}
use Rattle.jxl_refusals.specs.Refusals.{Why, refusal, why}
use Rattle.jxl_refusals.specs.Theorems.{WhyTells}
use Rattle.jxl_refusals.specs.declared.BoxRefusal.{BoxRefusal}
use Rattle.jxl_refusals.specs.declared.BoxRefusal.TheVariants.{ShortSize, ExtendedSize, SecondJxlc, JxlcAfterJxlp, JxlpTooSmall, JxlpAfterJxlc, JxlpAfterLast, WrongIndex, BrobTooSmall, ImpossibleRecord, ValidationFailed, StreamLimit, CutShort, Closed}

abbrev rule_of : Why → BoxRefusal
rule_of (refusal n values) =
    if (eqb n 10) ShortSize
    (if (eqb n 11) ExtendedSize
    (if (eqb n 12) SecondJxlc
    (if (eqb n 13) JxlcAfterJxlp
    (if (eqb n 14) JxlpTooSmall
    (if (eqb n 15) JxlpAfterJxlc
    (if (eqb n 16) JxlpAfterLast
    (if (eqb n 17) (WrongIndex (get_or values 1 0) (get_or values 0 0))
    (if (eqb n 18) BrobTooSmall
    (if (eqb n 19) ImpossibleRecord
    (if (eqb n 20) StreamLimit
    (if (eqb n 21) CutShort
    (if (eqb n 22) Closed ValidationFailed))))))))))))

again : (r : BoxRefusal) → rule_of (why r) ≡ r
again ShortSize = refl
again ExtendedSize = refl
again SecondJxlc = refl
again JxlcAfterJxlp = refl
again JxlpTooSmall = refl
again JxlpAfterJxlc = refl
again JxlpAfterLast = refl
again (WrongIndex found expected) = refl
again BrobTooSmall = refl
again ImpossibleRecord = refl
again ValidationFailed = refl
again StreamLimit = refl
again CutShort = refl
again Closed = refl

pub why_tells : WhyTells
why_tells r q e = sym (again r) ∙ ap rule_of e ∙ again q
