-- A step consumes no more than is there, counts what it consumes, and takes one event of those that the input still has: as many as the
-- rules on boxes show of what is there.
use mathlib.Core.Path.{◌≡◌, refl, sym, ap, subst, ◌∙◌}
use mathlib.Core.Bool.{Bool, true, false}
use mathlib.Core.List.{List, [], ◌∷◌}
use Prim.Native.Nat.{ℕ, zero, suc, ◌+◌, ◌-◌, ◌<◌, ◌≤◌}
use native.Mathlib.Omega.{arith}
use lib.ListN.{length, take, drop, length-take, length-drop}
use lib.Seq.{take_all}
use Rattle.jxl_record.specs.declared.BoxParser.{BoxParser}
use Rattle.jxl_events.specs.declared.FileEvent.{FileEvent}
use Rattle.jxl_grammar.specs.Feeding.{Seen, more}
use Rattle.jxl_grammar.specs.Feeding as Feeding
use Rattle.jxl_grammar.specs.Laws.{Kept}
use Rattle.jxl_grammar.specs.Step as Boxes
use Rattle.jxl_grammar.proofs.Laws.{every_step}
use Rattle.jxl_grammar.proofs.Taking.{takes, take_is}
use Rattle.jxl_counts.specs.Told.{told}
use Rattle.jxl_counts.specs.declared.StepResult.TheVariants as A
use Rattle.jxl_counts.specs.declared.StepResult.{StepResult}
use Rattle.jxl_counts.proofs.Ruled.{ruled, by_rule}
use Rattle.jxl_totals.specs.Naming.{numbered}
use Rattle.jxl_totals.specs.Step.{Told, shows, wants, refuses, limit, room, visible, beyond, behind, counting, step_of}
use Rattle.jxl_totals.specs.declared.ContainerParser.{ContainerParser}
use Rattle.jxl_totals.specs.declared.FileRefusal.{FileRefusal}

abbrev pub consumed_of : Told → ℕ
consumed_of (shows e q c) = c
consumed_of (wants q c) = c
consumed_of (refuses r q c) = c

abbrev pub record_of : Told → ContainerParser
record_of (shows e q c) = q
record_of (wants q c) = q
record_of (refuses r q c) = q

counted_within : (b : Bool) (p : ContainerParser) (n : ℕ) (t : Boxes.Told) → Kept n t → consumed_of (counting b p t) ≤ n
counted_within b p n (shows e q c) h = h.0
counted_within true p n (wants q c) h = h.0
counted_within false p n (wants q c) h = h.0
counted_within b p n (refuses r q c) h = h.0

step_within : (p : ContainerParser) (s : List ℕ) → consumed_of (step_of p s) ≤ length s
unfolding step_of
step_within p s =
    omega (arith, counted_within (beyond p s) p (length (visible p s)) (Boxes.step_of p.boxes (visible p s)) (every_step p.boxes (visible p s)), length-take (room p) s)

counted_on : (b : Bool) (p : ContainerParser) (t : Boxes.Told) → (record_of (counting b p t)).total ≡ p.total + consumed_of (counting b p t)
counted_on b p (shows e q c) = refl
counted_on true p (wants q c) = refl
counted_on false p (wants q c) = refl
counted_on b p (refuses r q c) = refl

step_adds : (p : ContainerParser) (s : List ℕ) → (record_of (step_of p s)).total ≡ p.total + consumed_of (step_of p s)
unfolding step_of
step_adds p s = counted_on (beyond p s) p (Boxes.step_of p.boxes (visible p s))

-- the events that an input still has
abbrev pub counted : ContainerParser → List ℕ → ℕ
counted p s = length (Feeding.take p.boxes p.total (visible p s)).shown

drop_take : (c n : ℕ) (s : List ℕ) → drop c (take n s) ≡ take (n - c) (drop c s)
drop_take zero n s = let same : n - 0 ≡ n = omega arith in rw same
drop_take (suc c) zero s = let none : 0 - suc c ≡ 0 = omega arith in rw none
drop_take (suc c) (suc n) [] = nothing (suc n - suc c)
  where
    nothing : (k : ℕ) → ◌≡◌ {A = List ℕ} [] (take k [])
    nothing zero = refl
    nothing (suc k) = refl
drop_take (suc c) (suc n) (x ∷ s) = let less : suc n - suc c ≡ n - c = omega arith in rw less (drop_take c n s)

one_less : (p q : ContainerParser) (s : List ℕ) (e : FileEvent) (c : ℕ) → step_of p s ≡ shows e q c → counted p s ≡ suc (counted q (drop c s))
unfolding step_of
one_less p q s e c h = go (beyond p s) (Boxes.step_of p.boxes (visible p s)) refl h
  where
    after : (r : BoxParser) (d : ℕ) → drop d (visible p s) ≡ visible (behind p r d) (drop d s)
    after r d = let less : room p - d ≡ limit - (p.total + d) = omega arith in drop_take d (room p) s ∙ ap (λ (k : ℕ). take k (drop d s)) less

    go : (b : Bool) (t : Boxes.Told) → Boxes.step_of p.boxes (visible p s) ≡ t → counting b p t ≡ shows e q c → counted p s ≡ suc (counted q (drop c s))
    go b (shows f r d) x n =
        let parser : behind p r d ≡ q = cc in
        let same : d ≡ c = cc in
        ap (λ (z : Seen). length z.shown) (take_is (more x (takes r (p.total + d) (drop d (visible p s))).1))
        ∙ ap (λ (l : List ℕ). suc (length (Feeding.take r (p.total + d) l).shown)) (after r d)
        ∙ (λ i. suc (counted (parser i) (drop (same i) s)))
    go true (wants r d) x n = absurd (let z : ◌≡◌ {A = ℕ} 0 1 = cc in omega arith)
    go false (wants r d) x n = absurd (let z : ◌≡◌ {A = ℕ} 0 1 = cc in omega arith)
    go b (refuses w r d) x n = absurd (let z : ◌≡◌ {A = ℕ} 0 1 = cc in omega arith)

-- and so a step of the code, by what its promise says of it: its record counts what was consumed, and that is no more than was there
module _ (x : StepResult) (p : ContainerParser) (s : List ℕ) (h : told x ≡ numbered (step_of p s)) where
  leaves : ((record_of (ruled x)).total ≡ p.total + consumed_of (ruled x)) × (consumed_of (ruled x) ≤ length s)
  leaves =
      let P : Told → Type 0 = λ t. ((record_of t).total ≡ p.total + consumed_of t) × (consumed_of t ≤ length s) in
      subst P (sym (by_rule x (step_of p s) h)) (step_adds p s, step_within p s)

  within : (p.total ≤ (record_of (ruled x)).total) × ((record_of (ruled x)).total ≤ p.total + length s)
  within = (omega (arith, leaves.0), omega (arith, leaves.0, leaves.1))

-- an event shown
module _ (p q : ContainerParser) (s : List ℕ) {e : FileEvent} {c : ℕ} (h : told (A.Shown q c e) ≡ numbered (step_of p s)) where
  pub fits : c ≤ length s
  fits = omega (arith, ap consumed_of (by_rule (A.Shown q c e) (step_of p s) h), step_within p s)

  pub fewer : counted q (take (length s - c) (drop c s)) < counted p s
  fewer = omega (
    arith,
    one_less p q s e c (sym (by_rule (A.Shown q c e) (step_of p s) h)),
    ap (counted q) (take_all (length s - c) (drop c s) (omega (arith, length-drop c s))),
  )

  pub adds : q.total ≡ p.total + c
  adds = (leaves (A.Shown q c e) p s h).0

-- the other answers
module _ (p q : ContainerParser) (s : List ℕ) {c : ℕ} where
  pub wanted : told (A.Want q c) ≡ numbered (step_of p s) → (p.total ≤ q.total) × (q.total ≤ p.total + length s)
  wanted h = within (A.Want q c) p s h

  pub refused : (r : FileRefusal) → told (A.Refused q c r) ≡ numbered (step_of p s) → (p.total ≤ q.total) × (q.total ≤ p.total + length s)
  refused r h = within (A.Refused q c r) p s h

  pub closed : told (A.Closed q c) ≡ numbered (step_of p s) → (p.total ≤ q.total) × (q.total ≤ p.total + length s)
  closed h = within (A.Closed q c) p s h

-- what is known of the step in `feed`
pub ruleset of_step = (fits, fewer, adds, wanted, refused, closed)
