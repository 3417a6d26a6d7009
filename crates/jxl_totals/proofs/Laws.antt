-- The laws of a step of the parser that counts.
use mathlib.Core.Path.{◌≡◌, refl, sym, ap, ◌∙◌, subst}
use mathlib.Core.Bool.{Bool, true, false}
use mathlib.Core.List.{List, [], ◌∷◌}
use Prim.Native.Nat.{ℕ, ◌-◌, ◌<◌}
use native.Mathlib.Nat.{add-zero}
use native.Mathlib.Omega.{arith}
use lib.ListN.{length, take, length-take}
use borrow.Author.Tests.{lt-ltb}
use Rattle.jxl_refusals.specs.declared.BoxRefusal.TheVariants.{ImpossibleRecord, StreamLimit}
use Rattle.jxl_record.specs.Record.{at}
use Rattle.jxl_record.specs.declared.DetectState.TheVariants as S
use Rattle.jxl_grammar.specs.Step as Rules
use Rattle.jxl_grammar.specs.Laws as Boxes
use Rattle.jxl_grammar.proofs.Step.{step_empty, step_impossible}
use Rattle.jxl_grammar.proofs.Laws.{refused_repeats}
use Rattle.jxl_grammar.proofs.Laws as BoxLaws
use Rattle.jxl_totals.specs.Step.{shows, wants, refuses, counted, room, visible, beyond, at_header, newest, behind, refusal_of, refused, wanting, counting, step_of}
use Rattle.jxl_totals.specs.Naming.{numbered}
use Rattle.jxl_totals.specs.Laws.{EveryStep, RefusedStays, Counts, StepCounts, EmptyFeed, AtTheLimit, BeforeTheLimit}
use Rattle.jxl_totals.specs.declared.ContainerParser.{ContainerParser}
use Rattle.jxl_totals.proofs.Marks.{Marks, marks}
use Rattle.jxl_totals.proofs.Counting.{step_by_lem, visible_most, newest_unread, repeats}
use Rattle.jxl_totals.proofs.Lawful.{lawful, empty_waits}

pub every_step : EveryStep
every_step = lawful.kept

pub refused_stays : RefusedStays
refused_stays k r j total header s =
    let p = counted (at (S.Refused k r) j) total header in
    ap numbered (repeats r p (refused_repeats k r j) s)

-- a step
module _ (p : ContainerParser) (s : List ℕ) where
  counts_by : (t : Rules.Told) → Boxes.Kept (length (visible p s)) t → Marks (at_header p.boxes) p.boxes t → Counts p (counting (beyond p s) p t)
  counts_by (shows e q c) k m = (refl, refl, omega (arith, k.0, (visible_most p s).1), m.0)
  counts_by (wants q c) k m = go (beyond p s)
    where
      go : (b : Bool) → Counts p (wanting b p q c)
      go true = (refl, refl, omega (arith, k.0, (visible_most p s).1))
      go false = (refl, omega (arith, k.0, (visible_most p s).1))
  counts_by (refuses r q c) k m = (refl, refl, omega (arith, k.0, (visible_most p s).1))

pub step_counts : StepCounts
step_counts p s =
    subst (Counts p) (sym (step_by_lem p s refl))
    (counts_by p s (Rules.step_of p.boxes (visible p s)) (BoxLaws.every_step p.boxes (visible p s)) (marks p.boxes (visible p s)))

-- a record that is not refused waits at an empty input
pub empty_feed : EmptyFeed
empty_feed p r = empty_waits p (step_empty p.boxes r)

pub at_the_limit : AtTheLimit
at_the_limit p x s r h =
    let q = counted (Rules.refused StreamLimit p.boxes) p.total p.header in
    let full : room p ≡ 0 = omega arith in
    let none : visible p (x ∷ s) ≡ [] = ap (λ (n : ℕ). take n (x ∷ s)) full in
    let yes : beyond p (x ∷ s) ≡ true = lt-ltb (room p) (length (x ∷ s)) (omega (arith, full)) in
    let next : behind p (Rules.refused StreamLimit p.boxes) 0 ≡ q = λ i. counted (Rules.refused StreamLimit p.boxes) (add-zero p.total i) (newest_unread p i) in
    step_by_lem p (x ∷ s) (ap (Rules.step_of p.boxes) none ∙ step_empty p.boxes r)
    ∙ ap (λ (b : Bool). wanting b p p.boxes 0) yes
    ∙ ap (λ (y : ContainerParser). refuses (refusal_of StreamLimit y) y 0) next

pub before_the_limit : BeforeTheLimit
before_the_limit p x s i h =
    let some : 0 < length (visible p (x ∷ s)) = omega (arith, length-take (room p) (x ∷ s)) in
    let boxes = Rules.refused ImpossibleRecord p.boxes in
    let next : refused p boxes 0 ≡ counted boxes p.total (newest true p) = ap (λ (n : ℕ). counted boxes n (newest true p)) (add-zero p.total) in
    (step_by_lem p (x ∷ s) (step_impossible p.boxes (visible p (x ∷ s)) some i) ∙ ap (λ (y : ContainerParser). refuses (refusal_of ImpossibleRecord y) y 0) next, refl)
