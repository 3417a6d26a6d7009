-- A step's answer by the rule that broke, which the number and the values tell; Closed by the rule Closed.
use mathlib.Core.Path.{◌≡◌, refl, sym}
use mathlib.Core.Bool.{Bool, true, false}
use Rattle.jxl_headers.specs.Bytes.{if}
use Rattle.jxl_refusals.specs.declared.BoxRefusal.TheVariants as Rule
use Rattle.jxl_totals.specs.Step.{Told, shows, wants, refuses, refusal_of}
use Rattle.jxl_totals.specs.Naming.{closed, is_closed, says_refusal, said, numbered}
use Rattle.jxl_totals.specs.declared.ContainerParser.{ContainerParser}
use Rattle.jxl_totals.specs.declared.FileRefusal.{FileRefusal}
use Rattle.jxl_counts.specs.Told.{told}
use Rattle.jxl_counts.specs.declared.StepResult.{StepResult}
use Rattle.jxl_counts.specs.declared.StepResult.TheVariants as A
use Rattle.jxl_totals.proofs.Closed.{closed_alone}
use Rattle.jxl_counts.proofs.Unique.{says_tells}

abbrev pub ruled : StepResult → Told
ruled (A.Shown p n e) = shows e p n
ruled (A.Want p n) = wants p n
ruled (A.Refused p n r) = refuses r p n
ruled (A.Closed p n) = refuses (refusal_of Rule.Closed p) p n

-- a refusal that is said as one is not of a parser that was ended
says_it : (r u : FileRefusal) (t : Bool) → says_refusal r ≡ if t (closed u.total u.place) (says_refusal u) → r ≡ u
says_it r u true e = cc
says_it r u false e = says_tells r u e

-- one that is said as Closed is
closes_it : (p : ContainerParser) (u : FileRefusal) (t : Bool) → is_closed u.rule ≡ t → closed p.total p.total ≡ if t (closed u.total u.place) (says_refusal u)
    → refusal_of Rule.Closed p ≡ u
closes_it p u true h e =
    let rule : u.rule ≡ Rule.Closed = closed_alone u.rule h in
    let total : p.total ≡ u.total = cc in
    let place : p.total ≡ u.place = cc in
    λ i. record { rule = sym rule i; total = total i; place = place i }
closes_it p u false h e = cc

pub by_rule : (x : StepResult) (t : Told) → told x ≡ numbered t → ruled x ≡ t
by_rule (A.Shown p n e) (shows f q m) h = cc
by_rule (A.Shown p n e) (wants q m) h = cc
by_rule (A.Shown p n e) (refuses r q m) h = cc
by_rule (A.Want p n) (shows f q m) h = cc
by_rule (A.Want p n) (wants q m) h = cc
by_rule (A.Want p n) (refuses r q m) h = cc
by_rule (A.Refused p n r) (shows f q m) h = cc
by_rule (A.Refused p n r) (wants q m) h = cc
by_rule (A.Refused p n r) (refuses u q m) h =
    let same : says_refusal r ≡ said u = cc in
    let refusal : r ≡ u = says_it r u (is_closed u.rule) same in
    cc
by_rule (A.Closed p n) (shows f q m) h = cc
by_rule (A.Closed p n) (wants q m) h = cc
by_rule (A.Closed p n) (refuses u q m) h =
    let same : closed p.total p.total ≡ said u = cc in
    let refusal : refusal_of Rule.Closed p ≡ u = closes_it p u (is_closed u.rule) refl same in
    cc
