-- Two answers that tell the same are equal.
use mathlib.Core.Path.{◌≡◌}
use Rattle.jxl_base.proofs.OneAnswer.{one_told}
use Rattle.jxl_refusals.specs.Refusals.{why}
use Rattle.jxl_refusals.proofs.Telling.{why_tells}
use Rattle.jxl_totals.specs.Naming.{says_refusal}
use Rattle.jxl_totals.specs.declared.FileRefusal.{FileRefusal}
use Rattle.jxl_counts.specs.Told.{told}
use Rattle.jxl_counts.specs.Theorems.{OneResult}
use Rattle.jxl_counts.specs.declared.StepResult.{StepResult}
use Rattle.jxl_counts.specs.declared.StepResult.TheVariants as A

-- what a refusal says tells it
pub says_tells : (r u : FileRefusal) → says_refusal r ≡ says_refusal u → r ≡ u
says_tells r u e =
    let number : why r.rule ≡ why u.rule = cc in
    let rule : r.rule ≡ u.rule = why_tells r.rule u.rule number in
    let total : r.total ≡ u.total = cc in
    let place : r.place ≡ u.place = cc in
    λ i. record { rule = rule i; total = total i; place = place i }

told_one : (x y : StepResult) → told x ≡ told y → x ≡ y
told_one (A.Shown p n e) (A.Shown q m f) h = cc
told_one (A.Shown p n e) (A.Want q m) h = cc
told_one (A.Shown p n e) (A.Refused q m r) h = cc
told_one (A.Shown p n e) (A.Closed q m) h = cc
told_one (A.Want p n) (A.Shown q m f) h = cc
told_one (A.Want p n) (A.Want q m) h = cc
told_one (A.Want p n) (A.Refused q m r) h = cc
told_one (A.Want p n) (A.Closed q m) h = cc
told_one (A.Refused p n r) (A.Shown q m f) h = cc
told_one (A.Refused p n r) (A.Want q m) h = cc
told_one (A.Refused p n r) (A.Refused q m u) h =
    let same : says_refusal r ≡ says_refusal u = cc in
    let refusal : r ≡ u = says_tells r u same in
    cc
told_one (A.Refused p n r) (A.Closed q m) h = cc
told_one (A.Closed p n) (A.Shown q m f) h = cc
told_one (A.Closed p n) (A.Want q m) h = cc
told_one (A.Closed p n) (A.Refused q m r) h = cc
told_one (A.Closed p n) (A.Closed q m) h = cc

pub one_result : OneResult
one_result x = one_told told told_one x
