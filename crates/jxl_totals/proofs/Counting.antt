-- What a step of the parser that counts tells, by what the rules on boxes tell of the input that is there.
use mathlib.Core.Path.{◌≡◌, refl, sym, ap, ◌∙◌}
use mathlib.Core.Bool.{Bool, true, false}
use mathlib.Core.List.{List, []}
use Prim.Native.Nat.{ℕ, ◌+◌, ◌-◌, ◌≤◌}
use native.Mathlib.Nat.{add-zero}
use native.Mathlib.Omega.{arith}
use lib.ListN.{length, take, drop, length-take}
use lib.Seq.{take_all, take-add, length-take-le, drop_at}
use borrow.Author.Tests.{ltb-false}
use Rattle.jxl_refusals.specs.declared.BoxRefusal.{BoxRefusal}
use Rattle.jxl_record.specs.Record as Record
use Rattle.jxl_record.specs.declared.DetectState.{DetectState}
use Rattle.jxl_record.specs.declared.DetectState.TheVariants as S
use Rattle.jxl_record.specs.declared.BoxParser.{BoxParser}
use Rattle.jxl_events.specs.declared.FileEvent.{FileEvent}
use Rattle.jxl_grammar.specs.Laws as Boxes
use Rattle.jxl_grammar.specs.Step as Rules
use Rattle.jxl_grammar.proofs.Step.{step_empty}
use Rattle.jxl_base.proofs.Never.{never}
use Rattle.jxl_totals.specs.Step.{Told, shows, wants, refuses, limit, counted, room, visible, beyond, at_header, newest, behind, refusal_of, refused, wanting, counting, step_of}
use Rattle.jxl_totals.specs.declared.ContainerParser.{ContainerParser}

-- by what the rules tell
pub step_by_lem : (p : ContainerParser) (s : List ℕ) {t : Rules.Told} → Rules.step_of p.boxes (visible p s) ≡ t → step_of p s ≡ counting (beyond p s) p t
unfolding step_of
step_by_lem p s e = ap (counting (beyond p s) p) e

-- an event comes of an event
pub shown_by : (p : ContainerParser) (s : List ℕ) {e : FileEvent} {q : ContainerParser} {c : ℕ} → step_of p s ≡ shows e q c
    → (Rules.step_of p.boxes (visible p s) ≡ shows e.event q.boxes c) × (q ≡ behind p q.boxes c) × (e.total ≡ p.total + c)
shown_by p s {e} {q} {c} h = go (Rules.step_of p.boxes (visible p s)) refl
  where
    more : (b : Bool) (o : BoxParser) (n : ℕ) → wanting b p o n ≡ shows e q c → ⊥
    more true o n k = never cc
    more false o n k = never cc

    go : (t : Rules.Told) → Rules.step_of p.boxes (visible p s) ≡ t
        → (t ≡ shows e.event q.boxes c) × (q ≡ behind p q.boxes c) × (e.total ≡ p.total + c)
    go (shows d o n) k =
        let told = sym (step_by_lem p s k) ∙ h in
        let far : n ≡ c = cc in
        let next : behind p o n ≡ q = cc in
        let event : record { event = d; total = p.total + n } ≡ e = cc in
        let boxes : o ≡ q.boxes = ap (λ (x : ContainerParser). x.boxes) next in
        ((λ i. shows (event i).event (boxes i) (far i)), sym next ∙ (λ i. behind p (boxes i) (far i)), sym (ap (λ (x : FileEvent). x.total) event) ∙ ap (λ (x : ℕ). p.total + x) far)
    go (wants o n) k = absurd (more (beyond p s) o n (sym (step_by_lem p s k) ∙ h))
    go (refuses r o n) k = let told = sym (step_by_lem p s k) ∙ h in never cc

-- the input that is there
pub visible_most : (p : ContainerParser) (s : List ℕ) → (length (visible p s) ≤ length s) × (length (visible p s) ≤ room p)
visible_most p s = (omega (arith, length-take (room p) s), omega (arith, length-take (room p) s))

pub visible_all : (p : ContainerParser) (s : List ℕ) → length s ≤ room p → visible p s ≡ s
visible_all p s h = take_all (room p) s h

pub not_beyond : (p : ContainerParser) (s : List ℕ) → beyond p s ≡ false → visible p s ≡ s
not_beyond p s e = visible_all p s (ltb-false (room p) (length s) e)

drop_take : (c n : ℕ) (s : List ℕ) → c ≤ n → c ≤ length s → drop c (take n s) ≡ take (n - c) (drop c s)
drop_take c n s h k =
    let sum : n ≡ c + (n - c) = omega arith in
    ap (λ (x : ℕ). drop c (take x s)) sum ∙ ap (drop c) (take-add c (n - c) s) ∙ drop_at (take c s) (take (n - c) (drop c s)) c (length-take-le c s k)

-- behind c bytes that are there
pub visible_behind : (p : ContainerParser) (q : BoxParser) (c : ℕ) (s : List ℕ) → c ≤ length (visible p s)
    → visible (behind p q c) (drop c s) ≡ drop c (visible p s)
visible_behind p q c s h =
    let less : limit - (p.total + c) ≡ room p - c = omega arith in
    ap (λ (n : ℕ). take n (drop c s)) less ∙ sym (drop_take c (room p) s (omega (arith, (visible_most p s).1)) (omega (arith, (visible_most p s).0)))

-- the newest header, where none is next
pub newest_away : (read : Bool) (p : ContainerParser) → at_header p.boxes ≡ false → newest read p ≡ p.header
newest_away read p e = rw e

-- and where one is, and it is not looked at
pub newest_unread : (p : ContainerParser) → newest false p ≡ p.header
newest_unread p = go (at_header p.boxes) refl
  where
    go : (t : Bool) → at_header p.boxes ≡ t → newest false p ≡ p.header
    go true e = rw e
    go false e = rw e

-- nothing consumed
pub behind_none : (p : ContainerParser) → behind p p.boxes 0 ≡ p
behind_none p = λ i. counted p.boxes (add-zero p.total i) (newest_unread p i)

-- a record of the rules that refuses every input does not wait for a header
pub repeats_away : (r : BoxRefusal) (q : BoxParser) → Boxes.Repeats r q → at_header q ≡ false
repeats_away r q again = go q.state refl
  where
    go : (d : DetectState) → q.state ≡ d → at_header (Record.at d q.jxlp) ≡ false
    go S.WaitingSignature e = refl
    go S.WaitingBoxHeader e =
        let waits : Rules.step_of q [] ≡ wants q 0 = step_empty q (ap (λ (x : DetectState). Record.refused_in x) e) in
        never (cc (again []))
    go (S.WaitingJxlpIndex l) e = refl
    go (S.WaitingInnerType l) e = refl
    go (S.InAuxBox t l) e = refl
    go (S.InCodestream k l pending) e = refl
    go (S.Refused k w) e = refl

-- and with a count it repeats total and place
pub repeats : (r : BoxRefusal) (q : ContainerParser) → Boxes.Repeats r q.boxes → (s : List ℕ) → step_of q s ≡ refuses (refusal_of r q) q 0
repeats r q again s =
    let same : refused q q.boxes 0 ≡ q = λ i. counted q.boxes (add-zero q.total i) (newest_away true q (repeats_away r q.boxes again) i) in
    step_by_lem q s (again (visible q s)) ∙ (λ i. refuses (refusal_of r (same i)) (same i) 0)
