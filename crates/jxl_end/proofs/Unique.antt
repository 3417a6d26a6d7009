-- Two answers that meet the promise are equal.
use mathlib.Core.Path.{◌≡◌, sym, ◌∙◌}
use Rattle.std.specs.Prelude.{Option, None, Some, Result, Ok, Err}
use Rattle.jxl_events.specs.declared.FileEvent.{FileEvent}
use Rattle.jxl_joiner.specs.Joiner.{handed}
use Rattle.jxl_totals.specs.Naming.{says_refusal}
use Rattle.jxl_totals.specs.declared.ContainerParser.{ContainerParser}
use Rattle.jxl_totals.specs.declared.FileRefusal.{FileRefusal}
use Rattle.jxl_counts.proofs.Unique.{says_tells}
use Rattle.jxl_end.specs.Told.{told_ended}
use Rattle.jxl_end.specs.Theorems.{OneEnd}

handed_one : (e f : Option FileEvent) → handed e ≡ handed f → e ≡ f
handed_one None None h = cc
handed_one None (Some f) h = cc
handed_one (Some e) None h = cc
handed_one (Some e) (Some f) h = cc

-- what an answer tells determines it, and the record beside it
pub told_one : (x y : Result (Option FileEvent) FileRefusal) (p q : ContainerParser) → told_ended x p ≡ told_ended y q → (x ≡ y) × (p ≡ q)
told_one (Ok e) (Ok f) p q h =
    let same : handed e ≡ handed f = cc in
    let event : e ≡ f = handed_one e f same in
    (cc, cc)
told_one (Ok e) (Err r) p q h = (cc, cc)
told_one (Err r) (Ok e) p q h = (cc, cc)
told_one (Err r) (Err u) p q h =
    let same : says_refusal r ≡ says_refusal u = cc in
    let refusal : r ≡ u = says_tells r u same in
    (cc, cc)

pub one_end : OneEnd
one_end p unread x y a b =
    let same = told_one x.answer y.answer x.next y.next (a ∙ sym b) in
    λ i. record { next = same.1 i; answer = same.0 i }
