-- The laws of the end call.
use mathlib.Core.Path.{◌≡◌, refl, sym, ap, ◌∙◌, subst}
use mathlib.Core.Bool.{Bool, true, false}
use mathlib.Core.List.{List, [], ◌∷◌}
use Prim.Native.Nat.{ℕ}
use lib.Dec.{eqb}
use Rattle.jxl_headers.specs.Bytes.{if, or}
use Rattle.jxl_refusals.specs.declared.BoxRefusal.{BoxRefusal}
use Rattle.jxl_refusals.specs.declared.BoxRefusal.TheVariants as Rule
use Rattle.jxl_record.specs.Record.{at, kind_of, refused_in}
use Rattle.jxl_impossible.specs.Impossible.{over_index, no_index, impossible_in, impossible}
use Rattle.jxl_record.specs.declared.BitstreamKind.{BitstreamKind}
use Rattle.jxl_reach.specs.declared.BytesLeft.TheVariants.{ToEnd, Bytes}
use Rattle.jxl_record.specs.declared.JxlpIndexState.{JxlpIndexState}
use Rattle.jxl_record.specs.declared.JxlpIndexState.TheVariants.{Initial, SingleJxlc, Jxlp, JxlpFinished}
use Rattle.jxl_record.specs.declared.DetectState.{DetectState}
use Rattle.jxl_record.specs.declared.DetectState.TheVariants as S
use Rattle.jxl_record.specs.declared.BoxParser.{BoxParser}
use Rattle.jxl_events.specs.declared.ParseEvent.{ParseEvent}
use Rattle.jxl_events.specs.declared.ParseEvent.TheVariants as E
use Rattle.jxl_events.specs.declared.FileEvent.{FileEvent}
use Rattle.jxl_grammar.specs.Laws.{Repeats}
use Rattle.jxl_grammar.specs.Step as Rules
use Rattle.jxl_grammar.specs.End.{Close, missing, owes, nothing, unknown, row_open, state_owes, close_of}
use Rattle.jxl_grammar.proofs.Laws.{refused_repeats}
use Rattle.jxl_base.proofs.Never.{never}
use Rattle.jxl_totals.specs.Step.{wants, is_refused, refusal_of, step_of}
use Rattle.jxl_totals.specs.Step as Step
use Rattle.jxl_totals.specs.Naming.{closed, is_closed, numbered}
use Rattle.jxl_totals.proofs.Closed.{closed_alone}
use Rattle.jxl_totals.proofs.Counting.{repeats}
use Rattle.jxl_totals.proofs.Laws.{every_step, empty_feed}
use Rattle.jxl_totals.specs.declared.ContainerParser.{ContainerParser}
use Rattle.jxl_totals.specs.declared.FileRefusal.{FileRefusal}
use Rattle.jxl_endings.specs.End.{Ended, done, refuses, stopped, closing, again, end_in, end_of}
use Rattle.jxl_endings.specs.Laws.{DoneCloses, RefusedEndStays, EndRepeats, CutShortNames, Keeps, Owable, side_ends, empty_code, no_more, Owed, none, one, Kept, EndKeeps, ImpossibleIsCutShort}

-- by the state: neither refused nor closed, or one that holds a rule
end_open_in : (d : DetectState) (p : ContainerParser) (u : List ℕ) → refused_in d ≡ false → end_in d p u ≡ closing p (close_of p.boxes u)
end_open_in S.WaitingSignature p u e = refl
end_open_in S.WaitingBoxHeader p u e = refl
end_open_in (S.WaitingJxlpIndex l) p u e = refl
end_open_in (S.WaitingInnerType l) p u e = refl
end_open_in (S.InAuxBox t l) p u e = refl
end_open_in (S.InCodestream k l pending) p u e = refl
end_open_in (S.Refused k r) p u e = never (sym e)

pub end_open : (p : ContainerParser) (u : List ℕ) → is_refused p ≡ false → end_of p u ≡ closing p (close_of p.boxes u)
unfolding end_of
end_open p u e = end_open_in p.boxes.state p u e

-- a record that holds a rule, or that it was ended
pub data Holds (p : ContainerParser) (r : BoxRefusal) : Type 0 where
  holds : {k : BitstreamKind} → p.boxes.state ≡ S.Refused k r → Holds p r

pub end_again : {p : ContainerParser} {r : BoxRefusal} (u : List ℕ) → Holds p r → end_of p u ≡ again r p
unfolding end_of
end_again {p} u (holds e) = ap (λ (d : DetectState). end_in d p u) e

pub step_again : {p : ContainerParser} {r : BoxRefusal} (s : List ℕ) → Holds p r → step_of p s ≡ Step.refuses (refusal_of r p) p 0
step_again {p} {r} s (holds {k = k} e) =
    let same : at (S.Refused k r) p.boxes.jxlp ≡ p.boxes = λ i. at (sym e i) p.boxes.jxlp in
    repeats r p (subst (Repeats r) same (refused_repeats k r p.boxes.jxlp)) s

-- a refused record holds one
pub refused_holds : (p : ContainerParser) → is_refused p ≡ true → (r : BoxRefusal) × Holds p r
refused_holds p e = go p.boxes.state refl
  where
    open_one : (d : DetectState) → p.boxes.state ≡ d → refused_in d ≡ false → (r : BoxRefusal) × Holds p r
    open_one d s o = never (sym (ap refused_in s ∙ o) ∙ e)

    go : (d : DetectState) → p.boxes.state ≡ d → (r : BoxRefusal) × Holds p r
    go S.WaitingSignature s = open_one S.WaitingSignature s refl
    go S.WaitingBoxHeader s = open_one S.WaitingBoxHeader s refl
    go (S.WaitingJxlpIndex l) s = open_one (S.WaitingJxlpIndex l) s refl
    go (S.WaitingInnerType l) s = open_one (S.WaitingInnerType l) s refl
    go (S.InAuxBox t l) s = open_one (S.InAuxBox t l) s refl
    go (S.InCodestream k l pending) s = open_one (S.InCodestream k l pending) s refl
    go (S.Refused k r) s = (r, holds s)

-- which of the two a record is
pub data Stands (p : ContainerParser) : Type 0 where
  open_still : is_refused p ≡ false → Stands p
  held : {r : BoxRefusal} → Holds p r → Stands p

pub stands : (p : ContainerParser) → Stands p
stands p = go (is_refused p) refl
  where
    go : (t : Bool) → is_refused p ≡ t → Stands p
    go true e = held (refused_holds p e).1
    go false e = open_still e

stopped_holds : (r : BoxRefusal) (p : ContainerParser) → Holds (stopped r p) r
stopped_holds r p = holds refl

-- what a closed record answers
closed_answers : {q : ContainerParser} → Holds q Rule.Closed → (s : List ℕ)
    → (numbered (step_of q s) ≡ Step.refuses (closed q.total q.total) q 0) × (end_of q s ≡ done [] q)
closed_answers h s = (ap numbered (step_again s h), end_again s h)

-- an end that is not refused leaves such a record
pub done_holds : (p : ContainerParser) (u : List ℕ) {es : List FileEvent} {q : ContainerParser} → end_of p u ≡ done es q → Holds q Rule.Closed
done_holds p u {es} {q} e = go (stands p)
  where
    closed_one : stopped Rule.Closed p ≡ q → Holds q Rule.Closed
    closed_one same = subst (λ (y : ContainerParser). Holds y Rule.Closed) same (stopped_holds Rule.Closed p)

    by_close : (w : Close) → closing p w ≡ done es q → Holds q Rule.Closed
    by_close missing h = never cc
    by_close (owes x) h = let same : stopped Rule.Closed p ≡ q = cc in closed_one same
    by_close nothing h = let same : stopped Rule.Closed p ≡ q = cc in closed_one same

    by_again : (r : BoxRefusal) → Holds p r → (t : Bool) → is_closed r ≡ t → if t (done [] p) (refuses (refusal_of r p) p) ≡ done es q → Holds q Rule.Closed
    by_again r h true c k =
        let same : p ≡ q = cc in
        subst (λ (y : ContainerParser). Holds y Rule.Closed) same (subst (Holds p) (closed_alone r c) h)
    by_again r h false c k = never cc

    go : Stands p → Holds q Rule.Closed
    go (open_still o) = by_close (close_of p.boxes u) (sym (end_open p u o) ∙ e)
    go (held {r = r} h) = by_again r h (is_closed r) refl (sym (end_again u h) ∙ e)

pub done_closes : DoneCloses
done_closes p q u es e s = closed_answers (done_holds p u e) s

-- what a record that holds a rule answers
held_answers : {q : ContainerParser} {r : BoxRefusal} → Holds q r → is_closed r ≡ false → (s : List ℕ)
    → (step_of q s ≡ Step.refuses (refusal_of r q) q 0) × (end_of q s ≡ refuses (refusal_of r q) q)
held_answers {q} {r} h c s = (step_again s h, end_again s h ∙ ap (λ (t : Bool). if t (done [] q) (refuses (refusal_of r q) q)) c)

pub refused_end_stays : RefusedEndStays
refused_end_stays p q u w e s = go (stands p)
  where
    cut : stopped Rule.CutShort p ≡ q → refusal_of Rule.CutShort (stopped Rule.CutShort p) ≡ w → (step_of q s ≡ Step.refuses w q 0) × (end_of q s ≡ refuses w q)
    cut same why =
        let told : refusal_of Rule.CutShort q ≡ w = ap (refusal_of Rule.CutShort) (sym same) ∙ why in
        subst (λ (x : FileRefusal). (step_of q s ≡ Step.refuses x q 0) × (end_of q s ≡ refuses x q)) told
        (held_answers (subst (λ (y : ContainerParser). Holds y Rule.CutShort) same (stopped_holds Rule.CutShort p)) refl s)

    by_close : (c : Close) → closing p c ≡ refuses w q → (step_of q s ≡ Step.refuses w q 0) × (end_of q s ≡ refuses w q)
    by_close missing h =
        let same : stopped Rule.CutShort p ≡ q = cc in
        let why : refusal_of Rule.CutShort (stopped Rule.CutShort p) ≡ w = cc in
        cut same why
    by_close (owes x) h = never cc
    by_close nothing h = never cc

    by_again : (r : BoxRefusal) → Holds p r → (t : Bool) → is_closed r ≡ t → if t (done [] p) (refuses (refusal_of r p) p) ≡ refuses w q
        → (step_of q s ≡ Step.refuses w q 0) × (end_of q s ≡ refuses w q)
    by_again r h true c k = never cc
    by_again r h false c k =
        let same : p ≡ q = cc in
        let why : refusal_of r p ≡ w = cc in
        let told : refusal_of r q ≡ w = ap (refusal_of r) (sym same) ∙ why in
        subst (λ (x : FileRefusal). (step_of q s ≡ Step.refuses x q 0) × (end_of q s ≡ refuses x q)) told
        (held_answers (subst (λ (y : ContainerParser). Holds y r) same h) c s)

    go : Stands p → (step_of q s ≡ Step.refuses w q 0) × (end_of q s ≡ refuses w q)
    go (open_still o) = by_close (close_of p.boxes u) (sym (end_open p u o) ∙ e)
    go (held {r = r} h) = by_again r h (is_closed r) refl (sym (end_again u h) ∙ e)

-- a record that repeats a refusal holds its rule
pub repeats_holds : (q : ContainerParser) (w : FileRefusal) → step_of q [] ≡ Step.refuses w q 0 → Holds q w.rule × (w ≡ refusal_of w.rule q)
repeats_holds q w e = go (stands q)
  where
    go : Stands q → Holds q w.rule × (w ≡ refusal_of w.rule q)
    go (open_still o) = let waits : step_of q [] ≡ wants q 0 = empty_feed q o in never cc
    go (held {r = r} h) =
        let told : refusal_of r q ≡ w = cc (step_again [] h) in
        let rule : r ≡ w.rule = ap (λ (x : FileRefusal). x.rule) told in
        (subst (Holds q) rule h, sym told ∙ ap (λ (x : BoxRefusal). refusal_of x q) rule)

pub end_repeats : EndRepeats
end_repeats p q s u w n e c =
    let kept = rw e at (every_step p s) in
    let h = repeats_holds q w (kept.1 []) in
    (held_answers h.0 c u).1 ∙ ap (λ (x : FileRefusal). refuses x q) (sym h.1)

pub cut_short_names : CutShortNames
cut_short_names p q u w o e = go (close_of p.boxes u) (sym (end_open p u o) ∙ e)
  where
    go : (c : Close) → closing p c ≡ refuses w q → (w.rule ≡ Rule.CutShort) × (w.total ≡ p.total) × (w.place ≡ p.total)
    go missing h =
        let told : refusal_of Rule.CutShort (stopped Rule.CutShort p) ≡ w = cc in
        (ap (λ (x : FileRefusal). x.rule) (sym told), ap (λ (x : FileRefusal). x.total) (sym told), ap (λ (x : FileRefusal). x.place) (sym told))
    go (owes x) h = never cc
    go nothing h = never cc

-- what a record owes
owed_by_state : (d : DetectState) {e : ParseEvent} → state_owes d ≡ owes e → Owable e
owed_by_state S.WaitingSignature h = never cc
owed_by_state S.WaitingBoxHeader h = never cc
owed_by_state (S.WaitingJxlpIndex l) h = never cc
owed_by_state (S.WaitingInnerType l) h = never cc
owed_by_state (S.InAuxBox t ToEnd) {e} h = let same : E.AuxBoxEnd t ≡ e = cc in subst Owable same side_ends
owed_by_state (S.InAuxBox t (Bytes n)) {e} h = go (eqb n 0) h
  where
    go : (b : Bool) → if b (owes (E.AuxBoxEnd t)) missing ≡ owes e → Owable e
    go true h = let same : E.AuxBoxEnd t ≡ e = cc in subst Owable same side_ends
    go false h = never cc
owed_by_state (S.InCodestream k ToEnd true) {e} h = let same : E.NoMoreAuxBox ≡ e = cc in subst Owable same no_more
owed_by_state (S.InCodestream k ToEnd false) h = never cc
owed_by_state (S.InCodestream k (Bytes n) pending) {e} h = go (eqb n 0) h
  where
    go : (b : Bool) → if b (owes (E.Codestream 0 0)) missing ≡ owes e → Owable e
    go true h = let same : E.Codestream 0 0 ≡ e = cc in subst Owable same empty_code
    go false h = never cc
owed_by_state (S.Refused k r) h = never cc

owed_by_record : (p : BoxParser) (u : List ℕ) {e : ParseEvent} → close_of p u ≡ owes e → Owable e
owed_by_record p [] {e} h = go (or (unknown (kind_of p)) (row_open p.jxlp)) h
  where
    go : (b : Bool) → if b missing (state_owes p.state) ≡ owes e → Owable e
    go true h = never cc
    go false h = owed_by_state p.state h
owed_by_record p (x ∷ u) h = never cc

pub end_keeps : EndKeeps
end_keeps p u = go (stands p)
  where
    by_close : (c : Close) → close_of p.boxes u ≡ c → Kept p (closing p c)
    by_close missing e = (refl, refl, refl)
    by_close (owes x) e = (one (owed_by_record p.boxes u e) refl, (refl, refl, refl))
    by_close nothing e = (none, (refl, refl, refl))

    by_again : (r : BoxRefusal) (t : Bool) → Kept p (if t (done [] p) (refuses (refusal_of r p) p))
    by_again r true = (none, (refl, refl, refl))
    by_again r false = (refl, refl, refl)

    go : Stands p → Kept p (end_of p u)
    go (open_still o) = subst (Kept p) (sym (end_open p u o)) (by_close (close_of p.boxes u) refl)
    go (held {r = r} h) = subst (Kept p) (sym (end_again u h)) (by_again r (is_closed r))

-- a record that no file leads to misses something
over_open : (j : JxlpIndexState) → over_index j ≡ true → row_open j ≡ true
over_open Initial e = never e
over_open SingleJxlc e = never e
over_open (Jxlp i) e = refl
over_open JxlpFinished e = never e

or_true : (t : Bool) → or t true ≡ true
or_true true = refl
or_true false = refl

if_missing : (t : Bool) → if t missing missing ≡ missing
if_missing true = refl
if_missing false = refl

close_impossible : (d : DetectState) (j : JxlpIndexState) (u : List ℕ) → impossible_in d j ≡ true → close_of (at d j) u ≡ missing
close_impossible d j (x ∷ u) e = refl
close_impossible S.WaitingSignature j [] e = refl
close_impossible S.WaitingBoxHeader j [] e = rw (over_open j e)
close_impossible (S.WaitingJxlpIndex l) j [] e = if_missing (row_open j)
close_impossible (S.WaitingInnerType l) j [] e = if_missing (row_open j)
close_impossible (S.InAuxBox t l) j [] e = rw (over_open j e)
close_impossible (S.InCodestream k l pending) j [] e = rw (over_open j e, or_true (unknown k))
close_impossible (S.Refused k r) j [] e = if_missing (or (unknown k) (row_open j))

impossible_open : (d : DetectState) (j : JxlpIndexState) → impossible_in d j ≡ true → refused_in d ≡ false
impossible_open S.WaitingSignature j e = refl
impossible_open S.WaitingBoxHeader j e = refl
impossible_open (S.WaitingJxlpIndex l) j e = refl
impossible_open (S.WaitingInnerType l) j e = refl
impossible_open (S.InAuxBox t l) j e = refl
impossible_open (S.InCodestream k l pending) j e = refl
impossible_open (S.Refused k r) j e = never e

pub impossible_is_cut_short : ImpossibleIsCutShort
impossible_is_cut_short p u e =
    let o = impossible_open p.boxes.state p.boxes.jxlp e in
    let gone : close_of p.boxes u ≡ missing = close_impossible p.boxes.state p.boxes.jxlp u e in
    (refusal_of Rule.CutShort (stopped Rule.CutShort p), refl, end_open p u o ∙ ap (closing p) gone)
