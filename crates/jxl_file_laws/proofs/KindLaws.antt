-- The kind told on request is unknown before KIND, then KIND's. One law for a step, carried through its rules: behind the
-- signature the kind stays, where a codestream payload that ends is a container's, as in each record that a file leads to.
use mathlib.Core.Path.{◌≡◌, refl, sym, ap, ◌∙◌, subst}
use mathlib.Core.Bool.{Bool, true, false}
use mathlib.Core.List.{List, [], ◌∷◌}
use Prim.Native.Nat.{ℕ, ◌+◌, ◌-◌, ◌%◌}
use native.Mathlib.Omega.{arith}
use lib.Dec.{ltb, leb, eqb}
use lib.ListN.{length, drop}
use borrow.Author.Tests.{ltb-true, ltb-false, eqb-true, eqb-false}
use Rattle.jxl_headers.specs.Bytes.{if, be32}
use Rattle.jxl_refusals.specs.declared.BoxRefusal.{BoxRefusal}
use Rattle.jxl_reach.specs.Reach.{under, less, to_end}
use Rattle.jxl_record.specs.Record.{at, kind_in, kind_of, is_refused}
use Rattle.jxl_impossible.specs.Impossible.{impossible}
use Rattle.jxl_record.specs.Record as Record
use Rattle.jxl_headers.specs.Header.{Header, short, bad, box, header_of}
use Rattle.jxl_signatures.specs.Signature.{signature_of}
use Rattle.jxl_headers.specs.Types.{jxlc, jxlp, brob, reserved}
use Rattle.jxl_grammar.specs.Step.{Told, shows, wants, refuses, refuse_box, ahead, in_code, code_part, code_step, aux_part, row, index_step, inner_step, jxlc_step, jxlp_next, box_step, header_step, signature_step, awaited, state_step, step_of}
use Rattle.jxl_grammar.proofs.Step.{code_wants, code_pending, code_shows, index_wants, index_right, index_wrong, inner_wants, inner_reserved, inner_shows, box_jxlc, box_jxlp, box_brob, box_aux, step_empty, step_state, step_impossible}
use Rattle.jxl_grammar.proofs.Laws.{stays}
use Rattle.jxl_signatures.specs.declared.Signature.{Signature}
use Rattle.jxl_signatures.specs.declared.Signature.TheVariants as G
use Rattle.jxl_record.specs.declared.BitstreamKind.{BitstreamKind}
use Rattle.jxl_record.specs.declared.BitstreamKind.TheVariants as K
use Rattle.jxl_reach.specs.declared.BytesLeft.{BytesLeft}
use Rattle.jxl_reach.specs.declared.BytesLeft.TheVariants.{ToEnd, Bytes}
use Rattle.jxl_record.specs.declared.JxlpIndexState.{JxlpIndexState}
use Rattle.jxl_record.specs.declared.JxlpIndexState.TheVariants.{Initial, SingleJxlc, Jxlp, JxlpFinished}
use Rattle.jxl_record.specs.declared.DetectState.{DetectState}
use Rattle.jxl_record.specs.declared.DetectState.TheVariants as S
use Rattle.jxl_record.specs.declared.BoxParser.{BoxParser}
use Rattle.jxl_events.specs.declared.ParseEvent.{ParseEvent}
use Rattle.jxl_events.specs.declared.ParseEvent.TheVariants as E
use Rattle.jxl_parts.specs.Joined.{code_at, aux_at, longer}
use Rattle.jxl_events.specs.Event.{shifted, length_of}
use Rattle.jxl_grammar.specs.Grammar.{Listing}
use Rattle.jxl_events.specs.Total.{without_totals}
use Rattle.jxl_events.specs.declared.FileEvent.{FileEvent}
use Rattle.jxl_parts.specs.Joined.{joins}
use Rattle.jxl_totals.specs.Step.{visible, fresh}
use Rattle.jxl_totals.specs.Step as Counted
use Rattle.jxl_totals.specs.Feeding.{before, joined, Seen, events, feeding, bytes_of, Takes, more, waits, ends}
use Rattle.jxl_totals.specs.declared.ContainerParser.{ContainerParser}
use Rattle.jxl_totals.specs.declared.FileRefusal.{FileRefusal}
use Rattle.jxl_totals.proofs.Counting.{shown_by}
use Rattle.jxl_files.proofs.Listed.{Refusing, by_the_rule, by_limit, wanted_by, refusing_by}
use Rattle.jxl_file_laws.specs.Theorems.{kind_told, KindIsTold, KindOfAFile, RefusalKeepsKind}
use Rattle.jxl_base.proofs.Never.{never}
use Rattle.jxl_totals.proofs.Taking.{takes}
use Rattle.jxl_files.proofs.Theorems.{whole_feed, every_cut, cut_file}

-- only a container's codestream payload ends
abbrev MayEnd : BitstreamKind → BytesLeft → Type 0
MayEnd k ToEnd = Unit {0}
MayEnd k (Bytes m) = K.Container ≡ k

-- a state behind the signature, of kind k
abbrev Of : BitstreamKind → DetectState → Type 0
Of k S.WaitingSignature = ⊥
Of k S.WaitingBoxHeader = K.Container ≡ k
Of k (S.WaitingJxlpIndex l) = K.Container ≡ k
Of k (S.WaitingInnerType l) = K.Container ≡ k
Of k (S.InAuxBox t l) = K.Container ≡ k
Of k (S.InCodestream x l pending) = (x ≡ k) × MayEnd k l
Of k (S.Refused x r) = x ≡ k

kind_is : {k : BitstreamKind} (d : DetectState) → Of k d → kind_in d ≡ k
kind_is S.WaitingBoxHeader e = e
kind_is (S.WaitingJxlpIndex l) e = e
kind_is (S.WaitingInnerType l) e = e
kind_is (S.InAuxBox t l) e = e
kind_is (S.InCodestream x l pending) e = e.0
kind_is (S.Refused x r) e = e
kind_is S.WaitingSignature e = absurd e

-- the record that a step leaves
abbrev left : Told → BoxParser
left (shows e q c) = q
left (wants q c) = q
left (refuses r q c) = q

abbrev Stays : BitstreamKind → Told → Type 0
Stays k t = Of k (left t).state

left_ahead : (n : ℕ) (t : Told) → left t ≡ left (ahead n t)
left_ahead n (shows e q c) = refl
left_ahead n (wants q c) = refl
left_ahead n (refuses r q c) = refl

stays_ahead : (n : ℕ) (t : Told) → Stays K.Container t → Stays K.Container (ahead n t)
stays_ahead n t i = subst (λ (q : BoxParser). Of K.Container q.state) (left_ahead n t) i

stays_part : (j : JxlpIndexState) (k : BitstreamKind) (l : BytesLeft) (n : ℕ) → MayEnd k l → Stays k (code_part j k l n)
stays_part j k ToEnd n f = (refl, tt)
stays_part j k (Bytes m) n f = go (leb m n) refl
  where
    go : (t : Bool) → leb m n ≡ t → Stays k (code_part j k (Bytes m) n)
    go true e = rw e f
    go false e = rw e (refl, f)

stays_code : (j : JxlpIndexState) (k : BitstreamKind) (l : BytesLeft) (pending : Bool) (s : List ℕ) → MayEnd k l → Stays k (code_step j k l pending s)
stays_code j k l pending [] f = rw (code_wants j k l [] pending (omega arith)) (refl, f)
stays_code j k l true (x ∷ s) f = rw (code_pending j k l (x ∷ s) (omega arith)) (refl, f)
stays_code j k l false (x ∷ s) f = rw (code_shows j k l (x ∷ s) (omega arith)) (stays_part j k l (length (x ∷ s)) f)

-- in a container every payload may end
may_end : (l : BytesLeft) → MayEnd K.Container l
may_end ToEnd = tt
may_end (Bytes m) = refl

stays_aux : (j : JxlpIndexState) (t : ℕ) (l : BytesLeft) (n : ℕ) → Stays K.Container (aux_part j t l n)
stays_aux j t ToEnd n = refl
stays_aux j t (Bytes m) n = go (eqb m 0) refl
  where
    go : (u : Bool) → eqb m 0 ≡ u → Stays K.Container (aux_part j t (Bytes m) n)
    go true e = rw e refl
    go false e = rw e refl

stays_index : (i : ℕ) (l : BytesLeft) (s : List ℕ) → Stays K.Container (index_step i l s)
stays_index i l s = go (ltb (length s) 4) refl (eqb (be32 s 0 % 0x80000000) i) refl
  where
    go : (t : Bool) → ltb (length s) 4 ≡ t → (u : Bool) → eqb (be32 s 0 % 0x80000000) i ≡ u → Stays K.Container (index_step i l s)
    go true e u f = rw (index_wants i l s (ltb-true (length s) 4 e)) refl
    go false e true f =
        rw (index_right i l s (ltb-false (length s) 4 e) (eqb-true (be32 s 0 % 0x80000000) i f))
        (stays_ahead 4 (code_step (row (be32 s 0) i) K.Container (less l 4) (to_end l) (drop 4 s)) (stays_code (row (be32 s 0) i) K.Container (less l 4) (to_end l) (drop 4 s) (may_end (less l 4))))
    go false e false f = rw (index_wrong i l s (ltb-false (length s) 4 e) (eqb-false (be32 s 0 % 0x80000000) i f)) refl

stays_inner : (j : JxlpIndexState) (l : BytesLeft) (s : List ℕ) → Stays K.Container (inner_step j l s)
stays_inner j l s = go (ltb (length s) 4) refl (reserved (be32 s 0)) refl
  where
    go : (t : Bool) → ltb (length s) 4 ≡ t → (u : Bool) → reserved (be32 s 0) ≡ u → Stays K.Container (inner_step j l s)
    go true e u f = rw (inner_wants j l s (ltb-true (length s) 4 e)) refl
    go false e true f = rw (inner_reserved j l s (ltb-false (length s) 4 e) f) refl
    go false e false f = rw (inner_shows j l s (ltb-false (length s) 4 e) f) refl

stays_jxlc : (j : JxlpIndexState) (l : BytesLeft) (s : List ℕ) → Stays K.Container (jxlc_step j l s)
stays_jxlc Initial l s = stays_code SingleJxlc K.Container l (to_end l) s (may_end l)
stays_jxlc SingleJxlc l s = refl
stays_jxlc (Jxlp i) l s = refl
stays_jxlc JxlpFinished l s = refl

stays_next : (j : JxlpIndexState) (l : BytesLeft) (s : List ℕ) → Stays K.Container (jxlp_next j l s)
stays_next Initial l s = stays_index 0 l s
stays_next SingleJxlc l s = refl
stays_next (Jxlp i) l s = stays_index (i + 1) l s
stays_next JxlpFinished l s = refl

-- a rule, or the refusal of a payload under 4
stays_sized : (u : Bool) (r : BoxRefusal) (j : JxlpIndexState) (t : Told) → Stays K.Container t → Stays K.Container (if u (refuse_box r j) t)
stays_sized true r j t i = refl
stays_sized false r j t i = i

stays_box : (j : JxlpIndexState) (t : ℕ) (l : BytesLeft) (s : List ℕ) → Stays K.Container (box_step j t l s)
stays_box j t l s = go (eqb t jxlc) refl (eqb t jxlp) refl (eqb t brob) refl
  where
    go : (u : Bool) → eqb t jxlc ≡ u → (v : Bool) → eqb t jxlp ≡ v → (w : Bool) → eqb t brob ≡ w → Stays K.Container (box_step j t l s)
    go true e v f w g = rw (box_jxlc j t l s (eqb-true t jxlc e)) (stays_jxlc j l s)
    go false e true f w g = rw (box_jxlp j t l s (eqb-true t jxlp f)) (stays_sized (under 4 l) _ j (jxlp_next j l s) (stays_next j l s))
    go false e false f true g = rw (box_brob j t l s (eqb-true t brob g)) (stays_sized (under 4 l) _ j (inner_step j l s) (stays_inner j l s))
    go false e false f false g = rw (box_aux j t l s (eqb-false t jxlc e) (eqb-false t jxlp f) (eqb-false t brob g)) refl

stays_header : (j : JxlpIndexState) (s : List ℕ) (h : Header) → Stays K.Container (header_step j s h)
stays_header j s short = refl
stays_header j s (bad r) = refl
stays_header j s (box t l n) = stays_ahead n (box_step j t l (drop n s)) (stays_box j t l (drop n s))

-- of a container, and of the kind it is
renamed : {k : BitstreamKind} (t : Told) → K.Container ≡ k → Stays K.Container t → Stays k t
renamed t e i = subst (λ (k : BitstreamKind). Stays k t) e i

stays_state : (k : BitstreamKind) (d : DetectState) (j : JxlpIndexState) (s : List ℕ) → Of k d → Stays k (state_step d j s)
stays_state k S.WaitingSignature j s e = absurd e
stays_state k S.WaitingBoxHeader j s e = renamed (header_step j s (header_of s)) e (stays_header j s (header_of s))
stays_state k (S.WaitingJxlpIndex l) j s e = renamed (index_step (awaited j) l s) e (stays_index (awaited j) l s)
stays_state k (S.WaitingInnerType l) j s e = renamed (inner_step j l s) e (stays_inner j l s)
stays_state k (S.InAuxBox t l) j s e = renamed (aux_part j t l (length s)) e (stays_aux j t l (length s))
stays_state k (S.InCodestream x l pending) j s (e, f) =
    subst (λ (y : BitstreamKind). Stays k (code_step j y l pending s)) (sym e) (stays_code j k l pending s f)
stays_state k (S.Refused x r) j s e = e

-- every record behind the signature, every input
kind_stays : (k : BitstreamKind) (p : BoxParser) (s : List ℕ) → Of k p.state → Stays k (step_of p s)
kind_stays k p s o = go s (is_refused p) refl (impossible p) refl
  where
    go : (s : List ℕ) (t : Bool) → is_refused p ≡ t → (u : Bool) → impossible p ≡ u → Stays k (step_of p s)
    go [] true r u i = rw ((stays p r).1 []) o
    go [] false r u i = rw (step_empty p r) o
    go (x ∷ s) t r true i = rw (step_impossible p (x ∷ s) (omega arith) i) (kind_is p.state o)
    go (x ∷ s) t r false i = rw (step_state p (x ∷ s) (omega arith) i) (stays_state k p.state p.jxlp (x ∷ s) o)

-- the record that is left where a step refuses, the limit's refusal too
module _ {k : BitstreamKind} {p : ContainerParser} {s : List ℕ} {w : FileRefusal} {q : ContainerParser} {c : ℕ} where
  refused_stays : ((t : Told) → step_of p.boxes (visible p s) ≡ t → Stays k t) → Refusing p s w q c → Of k q.boxes.state
  refused_stays all (by_the_rule {o = o} st next why) =
      subst (λ (x : ContainerParser). Of k x.boxes.state) (sym next) (all (refuses w.rule o c) st)
  refused_stays all (by_limit {o = o} st e next why) =
      subst (λ (x : ContainerParser). Of k x.boxes.state) (sym next) (kind_is o.state (all (wants o c) st))

taken_stays : (k : BitstreamKind) {p : ContainerParser} {at : ℕ} {s u : List ℕ} {r : Seen} → Takes p at s r u → Of k p.boxes.state → Of k r.next.boxes.state
taken_stays k {p} {s = s} (more e t) o = taken_stays k t (rw (shown_by p s e).0 at (kind_stays k p.boxes (visible p s) o))
taken_stays k {p} {s = s} (waits e) o = rw (wanted_by p s e).0 at (kind_stays k p.boxes (visible p s) o)
taken_stays k {p} {s = s} (ends e) o =
    refused_stays (λ t st. subst (Stays k) st (kind_stays k p.boxes (visible p s) o)) (refusing_by p s e)

-- the signature shows KIND, or waits
abbrev Begins : Told → Type 0
Begins (shows e q c) = (k : BitstreamKind) × (e ≡ E.BitstreamKind k) × Of k q.state
Begins (wants q c) = kind_of q ≡ K.Unknown
Begins (refuses r q c) = kind_of q ≡ K.Unknown

begins_signature : (j : JxlpIndexState) (g : Signature) → Begins (signature_step j g)
begins_signature j G.Bare = (K.BareCodestream, refl, (refl, tt))
begins_signature j G.Container = (K.Container, refl, refl)
begins_signature j G.TooShort = refl
begins_signature j G.Neither = (K.Invalid, refl, (refl, tt))

begins : (s : List ℕ) → Begins (step_of Record.fresh s)
begins [] = rw (step_empty Record.fresh refl) refl
begins (x ∷ s) = rw (step_state Record.fresh (x ∷ s) (omega arith) refl) (begins_signature Initial (signature_of (x ∷ s)))

-- of one feed
fresh_kind : {a : ℕ} {s u : List ℕ} {r : Seen} → Takes fresh a s r u → Counted.kind_of r.next ≡ kind_told (without_totals (events r))
fresh_kind {a} {s = s} (more {e = e} {r = r} k t) =
    let by = (shown_by fresh s k).0 in
    let first = rw by at (begins (visible fresh s)) in
    kind_is r.next.boxes.state (taken_stays first.0 t first.2) ∙ told e.event first.0 first.1 (without_totals (events r))
  where
    told : (d : ParseEvent) (k : BitstreamKind) → d ≡ E.BitstreamKind k → (es : List ParseEvent) → k ≡ kind_told (shifted a d ∷ es)
    told d k h es = rw h
fresh_kind {s = s} (waits k) = rw (wanted_by fresh s k).0 at (begins (visible fresh s))
fresh_kind {s = s} (ends {q = q} {c = c} {w = w} k) = go (refusing_by fresh s k)
  where
    go : Refusing fresh s w q c → Counted.kind_of q ≡ K.Unknown
    go (by_the_rule st next why) = ap Counted.kind_of next ∙ (rw st at (begins (visible fresh s)))
    go (by_limit st e next why) = ap Counted.kind_of next ∙ (rw st at (begins (visible fresh s)))

-- joining leaves the first KIND
code_quiet : (x : ℕ) (f : ParseEvent) (es : List ParseEvent) → code_at x f ≡ true → kind_told es ≡ kind_told (f ∷ es)
code_quiet x (E.BitstreamKind k) es j = never j
code_quiet x E.NoMoreAuxBox es j = refl
code_quiet x (E.Codestream a n) es j = refl
code_quiet x (E.AuxBoxStart t b e) es j = refl
code_quiet x (E.AuxBoxData t a n) es j = refl
code_quiet x (E.AuxBoxEnd t) es j = refl

aux_quiet : (u x : ℕ) (f : ParseEvent) (es : List ParseEvent) → aux_at u x f ≡ true → kind_told es ≡ kind_told (f ∷ es)
aux_quiet u x (E.BitstreamKind k) es j = never j
aux_quiet u x E.NoMoreAuxBox es j = refl
aux_quiet u x (E.Codestream a n) es j = refl
aux_quiet u x (E.AuxBoxStart t b e) es j = refl
aux_quiet u x (E.AuxBoxData t a n) es j = refl
aux_quiet u x (E.AuxBoxEnd t) es j = refl

longer_quiet : (d f : ParseEvent) (es : List ParseEvent) (m : ℕ) → joins d f ≡ true → kind_told (longer m d ∷ es) ≡ kind_told (d ∷ f ∷ es)
longer_quiet (E.BitstreamKind k) f es m j = never j
longer_quiet E.NoMoreAuxBox f es m j = never j
longer_quiet (E.Codestream a n) f es m j = code_quiet (a + n) f es j
longer_quiet (E.AuxBoxStart t b e) f es m j = never j
longer_quiet (E.AuxBoxData t a n) f es m j = aux_quiet t (a + n) f es j
longer_quiet (E.AuxBoxEnd t) f es m j = never j

before_kind : (e : FileEvent) (es : List FileEvent) → kind_told (without_totals (before e es)) ≡ kind_told (e.event ∷ without_totals es)
before_kind e [] = refl
before_kind e (f ∷ es) = go (joins e.event f.event) refl
  where
    go : (t : Bool) → joins e.event f.event ≡ t → kind_told (without_totals (before e (f ∷ es))) ≡ kind_told (e.event ∷ f.event ∷ without_totals es)
    go true j = rw j (longer_quiet e.event f.event (without_totals es) (length_of f.event) j)
    go false j = rw j

behind : (e : ParseEvent) (es fs : List ParseEvent) → kind_told es ≡ kind_told fs → kind_told (e ∷ es) ≡ kind_told (e ∷ fs)
behind (E.BitstreamKind k) es fs h = refl
behind E.NoMoreAuxBox es fs h = h
behind (E.Codestream a n) es fs h = h
behind (E.AuxBoxStart t b e) es fs h = h
behind (E.AuxBoxData t a n) es fs h = h
behind (E.AuxBoxEnd t) es fs h = h

joined_kind : (es : List FileEvent) → kind_told (without_totals (joined es)) ≡ kind_told (without_totals es)
joined_kind [] = refl
joined_kind (e ∷ es) = before_kind e (joined es) ∙ behind e.event (without_totals (joined es)) (without_totals es) (joined_kind es)

pub kind_is_told : KindIsTold
kind_is_told xs =
    let cut = every_cut fresh xs refl in
    let all = whole_feed fresh (bytes_of xs) in
    ap Counted.kind_of (cut.next_is ∙ ap (λ (r : Seen). r.next) all) ∙ fresh_kind (takes fresh 0 (bytes_of xs)).1
    ∙ ap (λ (es : List FileEvent). kind_told (without_totals es)) (sym (cut.events_are ∙ ap events all)) ∙ joined_kind (events (feeding fresh xs))

pub kind_of_a_file : KindOfAFile
kind_of_a_file xs =
    kind_is_told xs ∙ sym (joined_kind (events (feeding fresh xs))) ∙ ap (λ (l : Listing). kind_told l.events) (cut_file xs)

-- no codestream refuses
abbrev Calm : Told → Type 0
Calm (shows e q c) = Unit {0}
Calm (wants q c) = Unit {0}
Calm (refuses r q c) = ⊥

calm_part : (j : JxlpIndexState) (k : BitstreamKind) (l : BytesLeft) (n : ℕ) → Calm (code_part j k l n)
calm_part j k ToEnd n = tt
calm_part j k (Bytes m) n = go (leb m n)
  where
    go : (t : Bool) → Calm (if t (shows (E.Codestream 0 m) (at S.WaitingBoxHeader j) m) (shows (E.Codestream 0 n) (in_code k (Bytes (m - n)) false j) n))
    go true = tt
    go false = tt

calm_code : (j : JxlpIndexState) (k : BitstreamKind) (l : BytesLeft) (pending : Bool) (s : List ℕ) → Calm (code_step j k l pending s)
calm_code j k l pending [] = rw (code_wants j k l [] pending (omega arith)) tt
calm_code j k l true (x ∷ s) = rw (code_pending j k l (x ∷ s) (omega arith)) tt
calm_code j k l false (x ∷ s) = rw (code_shows j k l (x ∷ s) (omega arith)) (calm_part j k l (length (x ∷ s)))

calm_signature : (j : JxlpIndexState) (g : Signature) → Calm (signature_step j g)
calm_signature j G.Bare = tt
calm_signature j G.Container = tt
calm_signature j G.TooShort = tt
calm_signature j G.Neither = tt

-- a state that is not calm has a kind that stays
refusal_in : (d : DetectState) (j : JxlpIndexState) (s : List ℕ) {w : BoxRefusal} {q : BoxParser} {c : ℕ} → state_step d j s ≡ refuses w q c → kind_of q ≡ kind_in d
refusal_in S.WaitingSignature j s e = absurd (rw e at (calm_signature j (signature_of s)))
refusal_in S.WaitingBoxHeader j s {q = q} e = kind_is q.state (rw e at (stays_state K.Container S.WaitingBoxHeader j s refl))
refusal_in (S.WaitingJxlpIndex l) j s {q = q} e = kind_is q.state (rw e at (stays_state K.Container (S.WaitingJxlpIndex l) j s refl))
refusal_in (S.WaitingInnerType l) j s {q = q} e = kind_is q.state (rw e at (stays_state K.Container (S.WaitingInnerType l) j s refl))
refusal_in (S.InAuxBox t l) j s {q = q} e = kind_is q.state (rw e at (stays_state K.Container (S.InAuxBox t l) j s refl))
refusal_in (S.InCodestream k l pending) j s e = absurd (rw e at (calm_code j k l pending s))
refusal_in (S.Refused k r) j s e = ap (λ (t : Told). kind_of (left t)) (sym e)

-- where more is wanted the kind stays as well
abbrev Waits : BitstreamKind → Told → Type 0
Waits k (shows e q c) = Unit {0}
Waits k (wants q c) = kind_of q ≡ k
Waits k (refuses r q c) = Unit {0}

waits_calm : (k : BitstreamKind) (j : JxlpIndexState) (l : BytesLeft) (pending : Bool) (s : List ℕ) → Waits k (code_step j k l pending s)
waits_calm k j l pending [] = rw (code_wants j k l [] pending (omega arith))
waits_calm k j l true (x ∷ s) = rw (code_pending j k l (x ∷ s) (omega arith)) tt
waits_calm k j l false (x ∷ s) = rw (code_shows j k l (x ∷ s) (omega arith)) (go l)
  where
    part : (t : Bool) (m : ℕ) → Waits k (if t (shows (E.Codestream 0 m) (at S.WaitingBoxHeader j) m) (shows (E.Codestream 0 (length (x ∷ s))) (in_code k (Bytes (m - length (x ∷ s))) false j) (length (x ∷ s))))
    part true m = tt
    part false m = tt

    go : (l : BytesLeft) → Waits k (code_part j k l (length (x ∷ s)))
    go ToEnd = tt
    go (Bytes m) = part (leb m (length (x ∷ s))) m

waits_signature : (j : JxlpIndexState) (g : Signature) → Waits K.Unknown (signature_step j g)
waits_signature j G.Bare = tt
waits_signature j G.Container = tt
waits_signature j G.TooShort = refl
waits_signature j G.Neither = tt

wanting_in : (d : DetectState) (j : JxlpIndexState) (s : List ℕ) {q : BoxParser} {c : ℕ} → state_step d j s ≡ wants q c → kind_of q ≡ kind_in d
wanting_in S.WaitingSignature j s e = rw e at (waits_signature j (signature_of s))
wanting_in S.WaitingBoxHeader j s {q = q} e = kind_is q.state (rw e at (stays_state K.Container S.WaitingBoxHeader j s refl))
wanting_in (S.WaitingJxlpIndex l) j s {q = q} e = kind_is q.state (rw e at (stays_state K.Container (S.WaitingJxlpIndex l) j s refl))
wanting_in (S.WaitingInnerType l) j s {q = q} e = kind_is q.state (rw e at (stays_state K.Container (S.WaitingInnerType l) j s refl))
wanting_in (S.InAuxBox t l) j s {q = q} e = kind_is q.state (rw e at (stays_state K.Container (S.InAuxBox t l) j s refl))
wanting_in (S.InCodestream k l pending) j s e = rw e at (waits_calm k j l pending s)
wanting_in (S.Refused k r) j s e = never cc

-- the rules, by what they leave
rules_keep : (p : BoxParser) (s : List ℕ) (q : BoxParser) → ((w : BoxRefusal) (c : ℕ) → step_of p s ≡ refuses w q c → kind_of q ≡ kind_of p)
    × ((c : ℕ) → step_of p s ≡ wants q c → kind_of q ≡ kind_of p)
rules_keep p s q = ((λ w c e. refusing s w c e (is_refused p) refl (impossible p) refl), (λ c e. wanting s c e (is_refused p) refl (impossible p) refl))
  where
    refusing : (s : List ℕ) (w : BoxRefusal) (c : ℕ) → step_of p s ≡ refuses w q c → (t : Bool) → is_refused p ≡ t → (u : Bool) → impossible p ≡ u → kind_of q ≡ kind_of p
    refusing [] w c e true r u i = ap (λ (t : Told). kind_of (left t)) (sym e ∙ (stays p r).1 [])
    refusing [] w c e false r u i = never (cc (step_empty p r))
    refusing (x ∷ s) w c e t r true i = ap (λ (t : Told). kind_of (left t)) (sym e ∙ step_impossible p (x ∷ s) (omega arith) i)
    refusing (x ∷ s) w c e t r false i = refusal_in p.state p.jxlp (x ∷ s) (sym (step_state p (x ∷ s) (omega arith) i) ∙ e)

    wanting : (s : List ℕ) (c : ℕ) → step_of p s ≡ wants q c → (t : Bool) → is_refused p ≡ t → (u : Bool) → impossible p ≡ u → kind_of q ≡ kind_of p
    wanting [] c e true r u i = never (cc ((stays p r).1 []))
    wanting [] c e false r u i = ap (λ (t : Told). kind_of (left t)) (sym e ∙ step_empty p r)
    wanting (x ∷ s) c e t r true i = never (cc (step_impossible p (x ∷ s) (omega arith) i))
    wanting (x ∷ s) c e t r false i = wanting_in p.state p.jxlp (x ∷ s) (sym (step_state p (x ∷ s) (omega arith) i) ∙ e)

pub refusal_keeps_kind : RefusalKeepsKind
refusal_keeps_kind p s w q c e = go (refusing_by p s e)
  where
    go : Refusing p s w q c → Counted.kind_of q ≡ Counted.kind_of p
    go (by_the_rule {o = o} st next why) = ap Counted.kind_of next ∙ (rules_keep p.boxes (visible p s) o).0 w.rule c st
    go (by_limit {o = o} st lies next why) = ap Counted.kind_of next ∙ (rules_keep p.boxes (visible p s) o).1 c st
