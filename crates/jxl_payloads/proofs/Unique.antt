-- Two answers that meet a promise are equal.
use mathlib.Core.Path.{◌≡◌}
use Rattle.jxl_base.proofs.OneAnswer.{one_told}
use Rattle.jxl_refusals.specs.Refusals.{why}
use Rattle.jxl_refusals.proofs.Telling.{why_tells}
use Rattle.jxl_payloads.specs.Told.{told}
use Rattle.jxl_payloads.specs.Theorems.{OneResult}
use Rattle.jxl_payloads.specs.declared.BoxResult.{BoxResult}
use Rattle.jxl_payloads.specs.declared.BoxResult.TheVariants as A

told_one : (x y : BoxResult) → told x ≡ told y → x ≡ y
told_one (A.Shown p n e) (A.Shown q m f) h = cc
told_one (A.Shown p n e) (A.Want q m) h = cc
told_one (A.Shown p n e) (A.Refused q m r) h = cc
told_one (A.Want p n) (A.Shown q m f) h = cc
told_one (A.Want p n) (A.Want q m) h = cc
told_one (A.Want p n) (A.Refused q m r) h = cc
told_one (A.Refused p n r) (A.Shown q m f) h = cc
told_one (A.Refused p n r) (A.Want q m) h = cc
told_one (A.Refused p n r) (A.Refused q m u) h =
    let same : why r ≡ why u = cc in
    let rule : r ≡ u = why_tells r u same in
    cc

pub one_result : OneResult
one_result x = one_told told told_one x
