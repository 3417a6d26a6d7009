-- Numbers 10 to 19 merged back into 1.
use mathlib.Core.Path.{refl}
use Rattle.jxl_refusals.specs.Theorems.{MergesBack}
use Rattle.jxl_refusals.specs.declared.BoxRefusal.TheVariants.{ShortSize, ExtendedSize, SecondJxlc, JxlcAfterJxlp, JxlpTooSmall, JxlpAfterJxlc, JxlpAfterLast, WrongIndex, BrobTooSmall, ImpossibleRecord, ValidationFailed, StreamLimit, CutShort, Closed}

pub merges_back : MergesBack
merges_back ShortSize = refl
merges_back ExtendedSize = refl
merges_back SecondJxlc = refl
merges_back JxlcAfterJxlp = refl
merges_back JxlpTooSmall = refl
merges_back JxlpAfterJxlc = refl
merges_back JxlpAfterLast = refl
merges_back (WrongIndex found expected) = refl
merges_back BrobTooSmall = refl
merges_back ImpossibleRecord = refl
merges_back ValidationFailed = refl
merges_back StreamLimit = refl
merges_back CutShort = refl
merges_back Closed = refl
