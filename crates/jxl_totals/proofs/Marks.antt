-- What a step of the rules on boxes does to a count: its payload is the last that it consumes, and where it starts at a header that it
-- reads, something is consumed. And the rules never refuse for the limit.
use mathlib.Core.Path.{◌≡◌, refl, sym, ◌∙◌}
use mathlib.Core.Bool.{Bool, true, false}
use mathlib.Core.Logic.{◌⊎◌, inl, inr}
use mathlib.Core.List.{List, [], ◌∷◌}
use Prim.Native.Nat.{ℕ, ◌+◌, ◌-◌, ◌%◌, ◌<◌, min}
use native.Mathlib.Omega.{arith}
use lib.Dec.{ltb, leb, eqb}
use lib.ListN.{length, drop}
use borrow.Author.Tests.{ltb-true, ltb-false, eqb-true, eqb-false}
use Rattle.jxl_headers.specs.Bytes.{if, be32, be64}
use Rattle.jxl_headers.specs.Header.{Header, short, bad, box, extended, header_of}
use Rattle.jxl_headers.specs.Types.{jxlc, jxlp, brob, reserved}
use Rattle.jxl_headers.proofs.Header.{header_fits}
use Rattle.jxl_signatures.specs.Signature.{signature_of}
use Rattle.jxl_signatures.specs.declared.Signature.{Signature}
use Rattle.jxl_signatures.specs.declared.Signature.TheVariants as G
use Rattle.jxl_reach.specs.Reach.{under, less, to_end}
use Rattle.jxl_reach.specs.declared.BytesLeft.{BytesLeft}
use Rattle.jxl_reach.specs.declared.BytesLeft.TheVariants.{ToEnd, Bytes}
use Rattle.jxl_refusals.specs.declared.BoxRefusal.{BoxRefusal}
use Rattle.jxl_refusals.specs.declared.BoxRefusal.TheVariants as Rule
use Rattle.jxl_record.specs.Record.{at, is_refused}
use Rattle.jxl_impossible.specs.Impossible.{impossible}
use Rattle.jxl_record.specs.declared.BitstreamKind.{BitstreamKind}
use Rattle.jxl_record.specs.declared.BitstreamKind.TheVariants as K
use Rattle.jxl_record.specs.declared.JxlpIndexState.{JxlpIndexState}
use Rattle.jxl_record.specs.declared.JxlpIndexState.TheVariants.{Initial, SingleJxlc, Jxlp, JxlpFinished}
use Rattle.jxl_record.specs.declared.DetectState.{DetectState}
use Rattle.jxl_record.specs.declared.DetectState.TheVariants as S
use Rattle.jxl_record.specs.declared.BoxParser.{BoxParser}
use Rattle.jxl_events.specs.Event.{shifted}
use Rattle.jxl_events.specs.Total.{EndsAt}
use Rattle.jxl_events.specs.declared.ParseEvent.{ParseEvent}
use Rattle.jxl_events.specs.declared.ParseEvent.TheVariants as E
use Rattle.jxl_grammar.specs.Step.{Told, shows, wants, refuses, refuse, ahead, code_part, code_step, aux_part, row, index_step, inner_step, jxlc_step, jxlp_next, box_step, header_step, signature_step, awaited, state_step, step_of}
use Rattle.jxl_grammar.proofs.Step.{code_wants, code_pending, code_shows, index_wants, index_right, index_wrong, inner_wants, inner_reserved, inner_shows, box_jxlc, box_jxlp, box_brob, box_aux, step_empty, step_state, step_impossible}
use Rattle.jxl_grammar.proofs.Laws.{stays}
use Rattle.jxl_base.proofs.Never.{never}
use Rattle.jxl_totals.specs.Step.{at_header}

-- a refusal of the rules' own
abbrev pub Own : BoxRefusal → Type 0
Own Rule.ShortSize = Unit {0}
Own Rule.ExtendedSize = Unit {0}
Own Rule.SecondJxlc = Unit {0}
Own Rule.JxlcAfterJxlp = Unit {0}
Own Rule.JxlpTooSmall = Unit {0}
Own Rule.JxlpAfterJxlc = Unit {0}
Own Rule.JxlpAfterLast = Unit {0}
Own (Rule.WrongIndex found expected) = Unit {0}
Own Rule.BrobTooSmall = Unit {0}
Own Rule.ImpossibleRecord = Unit {0}
Own Rule.ValidationFailed = Unit {0}
Own Rule.StreamLimit = ⊥
Own Rule.CutShort = ⊥
Own Rule.Closed = ⊥

-- behind a header, or away from one: a payload ends where the step does, and where more is wanted no header is next
abbrev Behind : Told → Type 0
Behind (shows e q c) = EndsAt c e × (is_refused q ≡ false)
Behind (wants q c) = at_header q ≡ false
Behind (refuses r q c) = Own r

-- an event that shows nothing of the first byte
abbrev pub Late : ParseEvent → Type 0
Late (E.BitstreamKind k) = Unit {0}
Late E.NoMoreAuxBox = Unit {0}
Late (E.Codestream a n) = 0 < a
Late (E.AuxBoxStart t b e) = Unit {0}
Late (E.AuxBoxData t a n) = 0 < a
Late (E.AuxBoxEnd t) = Unit {0}

-- from the record p, which starts at a header or not
abbrev pub Marks : Bool → BoxParser → Told → Type 0
Marks h p (shows e q c) = EndsAt c e × (is_refused q ≡ false) × (h ≡ true → (0 < c) × Late e)
Marks h p (wants q c) = ((c ≡ 0) × (q ≡ p)) ⊎ ((at_header q ≡ false) × (h ≡ true → 0 < c))
Marks h p (refuses r q c) = is_refused p ≡ false → Own r

pub ends_ahead : (k c : ℕ) (e : ParseEvent) → EndsAt c e → EndsAt (k + c) (shifted k e)
ends_ahead k c (E.BitstreamKind x) h = tt
ends_ahead k c E.NoMoreAuxBox h = tt
ends_ahead k c (E.Codestream a n) h = omega arith
ends_ahead k c (E.AuxBoxStart t b e) h = tt
ends_ahead k c (E.AuxBoxData t a n) h = omega arith
ends_ahead k c (E.AuxBoxEnd t) h = tt

late_ahead : (k : ℕ) (e : ParseEvent) → 0 < k → Late (shifted k e)
late_ahead k (E.BitstreamKind x) h = tt
late_ahead k E.NoMoreAuxBox h = tt
late_ahead k (E.Codestream a n) h = omega arith
late_ahead k (E.AuxBoxStart t b e) h = tt
late_ahead k (E.AuxBoxData t a n) h = omega arith
late_ahead k (E.AuxBoxEnd t) h = tt

behind_ahead : (k : ℕ) (t : Told) → Behind t → Behind (ahead k t)
behind_ahead k (shows e q c) h = (ends_ahead k c e h.0, h.1)
behind_ahead k (wants q c) h = h
behind_ahead k (refuses r q c) h = h

behind_part : (j : JxlpIndexState) (k : BitstreamKind) (l : BytesLeft) (n : ℕ) → Behind (code_part j k l n)
behind_part j k ToEnd n = (omega arith, refl)
behind_part j k (Bytes m) n = go (leb m n)
  where
    go : (t : Bool) → Behind (if t (shows (E.Codestream 0 m) (at S.WaitingBoxHeader j) m) (shows (E.Codestream 0 n) (at (S.InCodestream k (Bytes (m - n)) false) j) n))
    go true = (omega arith, refl)
    go false = (omega arith, refl)

behind_code : (j : JxlpIndexState) (k : BitstreamKind) (l : BytesLeft) (pending : Bool) (s : List ℕ) → Behind (code_step j k l pending s)
behind_code j k l pending [] = rw (code_wants j k l [] pending (omega arith))
behind_code j k l true (x ∷ s) = rw (code_pending j k l (x ∷ s) (omega arith)) (tt, refl)
behind_code j k l false (x ∷ s) = rw (code_shows j k l (x ∷ s) (omega arith)) (behind_part j k l (length (x ∷ s)))

behind_aux : (j : JxlpIndexState) (t : ℕ) (l : BytesLeft) (n : ℕ) → Behind (aux_part j t l n)
behind_aux j t ToEnd n = (omega arith, refl)
behind_aux j t (Bytes m) n = go (eqb m 0)
  where
    go : (u : Bool) → Behind (if u (shows (E.AuxBoxEnd t) (at S.WaitingBoxHeader j) 0) (shows (E.AuxBoxData t 0 (min m n)) (at (S.InAuxBox t (Bytes (m - min m n))) j) (min m n)))
    go true = (tt, refl)
    go false = (omega arith, refl)

behind_index : (i : ℕ) (l : BytesLeft) (s : List ℕ) → Behind (index_step i l s)
behind_index i l s = go (ltb (length s) 4) refl (eqb (be32 s 0 % 0x80000000) i) refl
  where
    go : (t : Bool) → ltb (length s) 4 ≡ t → (u : Bool) → eqb (be32 s 0 % 0x80000000) i ≡ u → Behind (index_step i l s)
    go true e u f = rw (index_wants i l s (ltb-true (length s) 4 e))
    go false e true f =
        let after = code_step (row (be32 s 0) i) K.Container (less l 4) (to_end l) (drop 4 s) in
        rw (index_right i l s (ltb-false (length s) 4 e) (eqb-true (be32 s 0 % 0x80000000) i f))
        (behind_ahead 4 after (behind_code (row (be32 s 0) i) K.Container (less l 4) (to_end l) (drop 4 s)))
    go false e false f = rw (index_wrong i l s (ltb-false (length s) 4 e) (eqb-false (be32 s 0 % 0x80000000) i f)) tt

behind_inner : (j : JxlpIndexState) (l : BytesLeft) (s : List ℕ) → Behind (inner_step j l s)
behind_inner j l s = go (ltb (length s) 4) refl (reserved (be32 s 0)) refl
  where
    go : (t : Bool) → ltb (length s) 4 ≡ t → (u : Bool) → reserved (be32 s 0) ≡ u → Behind (inner_step j l s)
    go true e u f = rw (inner_wants j l s (ltb-true (length s) 4 e))
    go false e true f = rw (inner_reserved j l s (ltb-false (length s) 4 e) f) tt
    go false e false f = rw (inner_shows j l s (ltb-false (length s) 4 e) f) (tt, refl)

behind_jxlc : (j : JxlpIndexState) (l : BytesLeft) (s : List ℕ) → Behind (jxlc_step j l s)
behind_jxlc Initial l s = behind_code SingleJxlc K.Container l (to_end l) s
behind_jxlc SingleJxlc l s = tt
behind_jxlc (Jxlp i) l s = tt
behind_jxlc JxlpFinished l s = tt

behind_next : (j : JxlpIndexState) (l : BytesLeft) (s : List ℕ) → Behind (jxlp_next j l s)
behind_next Initial l s = behind_index 0 l s
behind_next SingleJxlc l s = tt
behind_next (Jxlp i) l s = behind_index (i + 1) l s
behind_next JxlpFinished l s = tt

-- a rule, or a refusal
behind_if : (u : Bool) (r : BoxRefusal) (p : BoxParser) (t : Told) → Own r → Behind t → Behind (if u (refuse r p 0) t)
behind_if true r p t o i = o
behind_if false r p t o i = i

behind_box : (j : JxlpIndexState) (t : ℕ) (l : BytesLeft) (s : List ℕ) → Behind (box_step j t l s)
behind_box j t l s = go (eqb t jxlc) refl (eqb t jxlp) refl (eqb t brob) refl
  where
    go : (u : Bool) → eqb t jxlc ≡ u → (v : Bool) → eqb t jxlp ≡ v → (w : Bool) → eqb t brob ≡ w → Behind (box_step j t l s)
    go true e v f w g = rw (box_jxlc j t l s (eqb-true t jxlc e)) (behind_jxlc j l s)
    go false e true f w g = rw (box_jxlp j t l s (eqb-true t jxlp f)) (behind_if (under 4 l) _ (at S.WaitingBoxHeader j) (jxlp_next j l s) tt (behind_next j l s))
    go false e false f true g = rw (box_brob j t l s (eqb-true t brob g)) (behind_if (under 4 l) _ (at S.WaitingBoxHeader j) (inner_step j l s) tt (behind_inner j l s))
    go false e false f false g = rw (box_aux j t l s (eqb-false t jxlc e) (eqb-false t jxlp f) (eqb-false t brob g)) (tt, refl)

behind_signature : (j : JxlpIndexState) (g : Signature) → Behind (signature_step j g)
behind_signature j G.Bare = (tt, refl)
behind_signature j G.Container = (tt, refl)
behind_signature j G.TooShort = refl
behind_signature j G.Neither = (tt, refl)

-- a state away from a header
marks_away : (p : BoxParser) (t : Told) → Behind t → Marks false p t
marks_away p (shows e q c) i = (i.0, i.1, λ h. never h)
marks_away p (wants q c) i = inr (i, λ h. never h)
marks_away p (refuses r q c) i = λ _. i

-- behind a header of n bytes
marks_behind : (p : BoxParser) (n : ℕ) (t : Told) → 0 < n → Behind t → Marks true p (ahead n t)
marks_behind p n (shows e q c) h i = (ends_ahead n c e i.0, i.1, λ _. (omega arith, late_ahead n e h))
marks_behind p n (wants q c) h i = inr (i, λ _. omega arith)
marks_behind p n (refuses r q c) h i = λ _. i

-- a header breaks no rule but its own two
abbrev OwnHeader : Header → Type 0
OwnHeader short = Unit {0}
OwnHeader (bad r) = Own r
OwnHeader (box t l n) = Unit {0}

own_if : (b : Bool) (g h : Header) → OwnHeader g → OwnHeader h → OwnHeader (if b g h)
own_if true g h i k = i
own_if false g h i k = k

own_extended : (s : List ℕ) → OwnHeader (extended s)
unfolding extended
own_extended s = own_if (ltb (length s) 16) short _ tt (own_if (ltb (be64 s 8) 16) (bad Rule.ExtendedSize) (box (be32 s 4) (Bytes (be64 s 8 - 16)) 16) tt tt)

own_header : (s : List ℕ) → OwnHeader (header_of s)
unfolding header_of
own_header s =
    own_if (ltb (length s) 8) short _ tt
    (own_if (eqb (be32 s 0) 1) (extended s) _ (own_extended s)
    (own_if (eqb (be32 s 0) 0) (box (be32 s 4) ToEnd 8) _ tt (own_if (ltb (be32 s 0) 8) (bad Rule.ShortSize) (box (be32 s 4) (Bytes (be32 s 0 - 8)) 8) tt tt)))

bad_own : (s : List ℕ) (r : BoxRefusal) → header_of s ≡ bad r → Own r
bad_own s r e = rw e at (own_header s)

marks_header : (j : JxlpIndexState) (s : List ℕ) (g : Header) → header_of s ≡ g → Marks true (at S.WaitingBoxHeader j) (header_step j s g)
marks_header j s short e = inl (refl, refl)
marks_header j s (bad r) e = λ _. bad_own s r e
marks_header j s (box t l n) e =
    marks_behind (at S.WaitingBoxHeader j) n (box_step j t l (drop n s)) (omega (arith, (header_fits s e).0)) (behind_box j t l (drop n s))

marks_state : (d : DetectState) (j : JxlpIndexState) (s : List ℕ) → Marks (at_header (at d j)) (at d j) (state_step d j s)
marks_state S.WaitingSignature j s = marks_away (at S.WaitingSignature j) (signature_step j (signature_of s)) (behind_signature j (signature_of s))
marks_state S.WaitingBoxHeader j s = marks_header j s (header_of s) refl
marks_state (S.WaitingJxlpIndex l) j s = marks_away (at (S.WaitingJxlpIndex l) j) (index_step (awaited j) l s) (behind_index (awaited j) l s)
marks_state (S.WaitingInnerType l) j s = marks_away (at (S.WaitingInnerType l) j) (inner_step j l s) (behind_inner j l s)
marks_state (S.InAuxBox t l) j s = marks_away (at (S.InAuxBox t l) j) (aux_part j t l (length s)) (behind_aux j t l (length s))
marks_state (S.InCodestream k l pending) j s = marks_away (at (S.InCodestream k l pending) j) (code_step j k l pending s) (behind_code j k l pending s)
marks_state (S.Refused k r) j s = λ h. never (sym h)

-- every record and every input
pub marks : (p : BoxParser) (s : List ℕ) → Marks (at_header p) p (step_of p s)
marks p s = go s (is_refused p) refl (impossible p) refl
  where
    go : (s : List ℕ) (t : Bool) → is_refused p ≡ t → (u : Bool) → impossible p ≡ u → Marks (at_header p) p (step_of p s)
    go [] true r u i = rw ((stays p r).1 []) (λ h. never (sym h ∙ r))
    go [] false r u i = rw (step_empty p r) (inl (refl, refl))
    go (x ∷ s) t r true i = rw (step_impossible p (x ∷ s) (omega arith) i) (λ _. tt)
    go (x ∷ s) t r false i = rw (step_state p (x ∷ s) (omega arith) i) (marks_state p.state p.jxlp (x ∷ s))
