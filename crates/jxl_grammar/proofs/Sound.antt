-- What an event costs, and that two events of one input never join. One law for a step, carried through its rules:
-- an event pays 3 out of the bytes it consumes and the weight that its state gives up.
use mathlib.Core.Path.{◌≡◌, refl, sym, ap, ◌∙◌}
use mathlib.Core.Bool.{Bool, true, false}
use mathlib.Core.Logic.{◌⊎◌, inl, inr}
use mathlib.Core.List.{List, [], ◌∷◌}
use Prim.Native.Nat.{ℕ, ◌+◌, ◌-◌, ◌%◌, ◌<◌, ◌≤◌, min}
use native.Mathlib.Omega.{arith}
use lib.Dec.{ltb, leb, eqb}
use lib.ListN.{length, drop, length-drop, drop_of_length-le}
use borrow.Author.Tests.{ltb-true, ltb-false, leb-true, leb-false, eqb-true, eqb-false, ne_eqb}
use Rattle.jxl_headers.specs.Bytes.{if, be32}
use Rattle.jxl_refusals.specs.declared.BoxRefusal.{BoxRefusal}
use Rattle.jxl_reach.specs.Reach.{under, less, to_end}
use Rattle.jxl_record.specs.Record.{at, is_refused}
use Rattle.jxl_impossible.specs.Impossible.{impossible}
use Rattle.jxl_headers.specs.Header.{Header, short, bad, box, header_of}
use Rattle.jxl_signatures.specs.Signature.{signature_of}
use Rattle.jxl_headers.specs.Types.{jxlc, jxlp, brob, reserved}
use Rattle.jxl_grammar.specs.Step.{Told, shows, wants, refuses, ahead, code_part, code_step, aux_part, row, index_step, inner_step, jxlc_step, jxlp_next, box_step, header_step, signature_step, awaited, state_step, step_of}
use Rattle.jxl_events.specs.Event.{shifted}
use Rattle.jxl_grammar.proofs.Step.{code_wants, code_pending, code_shows, index_wants, index_right, index_wrong, inner_wants, inner_reserved, inner_shows, box_jxlc, box_jxlp, box_brob, box_aux, step_empty, step_state, step_impossible}
use Rattle.jxl_grammar.proofs.Laws.{stays}
use Rattle.jxl_headers.proofs.Header.{header_fits}
use Rattle.jxl_signatures.specs.declared.Signature.{Signature}
use Rattle.jxl_signatures.specs.declared.Signature.TheVariants as G
use Rattle.jxl_record.specs.declared.BitstreamKind.{BitstreamKind}
use Rattle.jxl_record.specs.declared.BitstreamKind.TheVariants as K
use Rattle.jxl_reach.specs.declared.BytesLeft.{BytesLeft}
use Rattle.jxl_reach.specs.declared.BytesLeft.TheVariants.{ToEnd, Bytes}
use Rattle.jxl_record.specs.declared.JxlpIndexState.{JxlpIndexState}
use Rattle.jxl_record.specs.declared.JxlpIndexState.TheVariants.{Initial, SingleJxlc, Jxlp, JxlpFinished}
use Rattle.jxl_record.specs.declared.DetectState.{DetectState}
use Rattle.jxl_record.specs.declared.DetectState.TheVariants as S
use Rattle.jxl_record.specs.declared.BoxParser.{BoxParser}
use Rattle.jxl_events.specs.declared.ParseEvent.{ParseEvent}
use Rattle.jxl_events.specs.declared.ParseEvent.TheVariants as E
use Rattle.jxl_cuts.specs.Lawful.{Paid}
use Rattle.jxl_cuts.proofs.Ahead.{paid_ahead, paid_more}
use Rattle.jxl_parts.specs.Joined.{code_at, joins}
use Rattle.jxl_grammar.specs.Parser.{parser}
use Rattle.jxl_base.proofs.Never.{never}

-- what a state can still give up, in thirds of an event
abbrev pub code_weight : Bool → ℕ
code_weight true = 6
code_weight false = 3

abbrev pub aux_weight : BytesLeft → ℕ
aux_weight ToEnd = 5
aux_weight (Bytes m) = if (eqb m 0) 3 5

abbrev pub weight_in : DetectState → ℕ
weight_in S.WaitingSignature = 9
weight_in S.WaitingBoxHeader = 0
weight_in (S.WaitingJxlpIndex l) = 2
weight_in (S.WaitingInnerType l) = 4
weight_in (S.InAuxBox t l) = aux_weight l
weight_in (S.InCodestream k l pending) = code_weight pending
weight_in (S.Refused k r) = 0

abbrev pub weight : BoxParser → ℕ
weight p = weight_in p.state

aux_weight_lem : (l : BytesLeft) → aux_weight l ≤ 5
aux_weight_lem ToEnd = omega arith
aux_weight_lem (Bytes m) = go (eqb m 0)
  where
    go : (t : Bool) → if t 3 5 ≤ 5
    go true = omega arith
    go false = omega arith

-- an event, the record behind it, and the bytes consumed of n: where input is left, the event's payload is over
abbrev Loose : ℕ → ParseEvent → BoxParser → ℕ → Type 0
Loose n (E.BitstreamKind k) q c = Unit {0}
Loose n E.NoMoreAuxBox q c = Unit {0}
Loose n (E.Codestream x l) q c = (x + l ≡ c) × ((n ≤ c) ⊎ (q.state ≡ S.WaitingBoxHeader))
Loose n (E.AuxBoxStart t b e) q c = Unit {0}
Loose n (E.AuxBoxData t x l) q c = (n ≤ c) ⊎ (q.state ≡ S.InAuxBox t (Bytes 0))
Loose n (E.AuxBoxEnd t) q c = Unit {0}

-- what a step tells of n bytes
abbrev Over : ℕ → Told → Type 0
Over n (shows e q c) = Loose n e q c
Over n (wants q c) = Unit {0}
Over n (refuses r q c) = Unit {0}

-- in a state of weight w
abbrev Sound : ℕ → ℕ → Told → Type 0
Sound w n t = Paid parser weight w n t × Over n t

loose_ahead : (k n : ℕ) (e : ParseEvent) (q : BoxParser) (c : ℕ) → k ≤ n → Loose (n - k) e q c → Loose n (shifted k e) q (k + c)
loose_ahead k n (E.BitstreamKind x) q c h i = tt
loose_ahead k n E.NoMoreAuxBox q c h i = tt
loose_ahead k n (E.Codestream x l) q c h (e, inl d) = (omega arith, inl (omega arith))
loose_ahead k n (E.Codestream x l) q c h (e, inr d) = (omega arith, inr d)
loose_ahead k n (E.AuxBoxStart t b e) q c h i = tt
loose_ahead k n (E.AuxBoxData t x l) q c h (inl d) = inl (omega arith)
loose_ahead k n (E.AuxBoxData t x l) q c h (inr d) = inr d
loose_ahead k n (E.AuxBoxEnd t) q c h i = tt

over_ahead : (k : ℕ) (s : List ℕ) (t : Told) → k ≤ length s → Over (length (drop k s)) t → Over (length s) (ahead k t)
over_ahead k s (shows e q c) h i = loose_ahead k (length s) e q c h (rw (length-drop k s) at i)
over_ahead k s (wants q c) h i = tt
over_ahead k s (refuses r q c) h i = tt

-- behind k bytes a state may weigh k more
sound_ahead : (k w v : ℕ) (s : List ℕ) (t : Told) → k ≤ length s → w ≤ k + v → Sound w (length (drop k s)) t → Sound v (length s) (ahead k t)
sound_ahead k w v s t h m (a, i) = (paid_ahead parser weight k w v s t h m a, over_ahead k s t h i)

sound_more : (w v n : ℕ) (t : Told) → w ≤ v → Sound w n t → Sound v n t
sound_more w v n t m (a, i) = (paid_more parser weight w v n t m a, i)

sound_part : (j : JxlpIndexState) (k : BitstreamKind) (l : BytesLeft) (n : ℕ) → 0 < n → Sound 3 n (code_part j k l n)
sound_part j k ToEnd n h = ((omega arith, λ l. absurd (omega arith)), (omega arith, inl (omega arith)))
sound_part j k (Bytes m) n h = go (leb m n) refl
  where
    go : (t : Bool) → leb m n ≡ t → Sound 3 n (code_part j k (Bytes m) n)
    go true e = rw e ((omega arith, λ l. omega arith), (omega arith, inr refl))
    go false e = rw e ((omega arith, λ l. absurd (omega arith)), (omega arith, inl (omega arith)))

sound_code : (j : JxlpIndexState) (k : BitstreamKind) (l : BytesLeft) (pending : Bool) (s : List ℕ) → Sound (code_weight pending) (length s) (code_step j k l pending s)
sound_code j k l pending [] = rw (code_wants j k l [] pending (omega arith)) (tt, tt)
sound_code j k l true (x ∷ s) = rw (code_pending j k l (x ∷ s) (omega arith)) ((omega arith, λ l. omega arith), tt)
sound_code j k l false (x ∷ s) = rw (code_shows j k l (x ∷ s) (omega arith)) (sound_part j k l (length (x ∷ s)) (omega arith))

code_weight_lem : (t : Bool) → code_weight t ≤ 6
code_weight_lem true = omega arith
code_weight_lem false = omega arith

sound_aux : (j : JxlpIndexState) (t : ℕ) (l : BytesLeft) (n : ℕ) → 0 < n → Sound (aux_weight l) n (aux_part j t l n)
sound_aux j t ToEnd n h = ((omega arith, λ l. absurd (omega arith)), inl (omega arith))
sound_aux j t (Bytes m) n h = go (eqb m 0) refl
  where
    -- the payload ends inside the input, or goes on behind it
    size : (m ≡ 0 → ⊥) → (u : Bool) → leb m n ≡ u
        → Sound 5 n (shows (E.AuxBoxData t 0 (min m n)) (at (S.InAuxBox t (Bytes (m - min m n))) j) (min m n))
    size z true e =
        let all : min m n ≡ m = omega (arith, leb-true m n e) in
        let over : m - m ≡ 0 = omega arith in
        rw (all, over) ((omega (arith, z), λ l. omega (arith, z)), inr refl)
    size z false e =
        let full : min m n ≡ n = omega (arith, leb-false m n e) in
        rw full ((omega arith, λ l. absurd (omega arith)), inl (omega arith))

    go : (u : Bool) → eqb m 0 ≡ u → Sound (aux_weight (Bytes m)) n (aux_part j t (Bytes m) n)
    go true e = rw e ((omega arith, λ l. omega arith), tt)
    go false e = rw e (size (eqb-false m 0 e) (leb m n) refl)

sound_index : (i : ℕ) (l : BytesLeft) (s : List ℕ) → Sound 2 (length s) (index_step i l s)
sound_index i l s = go (ltb (length s) 4) refl (eqb (be32 s 0 % 0x80000000) i) refl
  where
    go : (t : Bool) → ltb (length s) 4 ≡ t → (u : Bool) → eqb (be32 s 0 % 0x80000000) i ≡ u → Sound 2 (length s) (index_step i l s)
    go true e u f = rw (index_wants i l s (ltb-true (length s) 4 e)) (tt, tt)
    go false e true f =
        let h = ltb-false (length s) 4 e in
        let after = code_step (row (be32 s 0) i) K.Container (less l 4) (to_end l) (drop 4 s) in
        rw (index_right i l s h (eqb-true (be32 s 0 % 0x80000000) i f))
        (sound_ahead 4 (code_weight (to_end l)) 2 s after h (omega (arith, code_weight_lem (to_end l))) (sound_code (row (be32 s 0) i) K.Container (less l 4) (to_end l) (drop 4 s)))
    go false e false f = rw (index_wrong i l s (ltb-false (length s) 4 e) (eqb-false (be32 s 0 % 0x80000000) i f)) (tt, tt)

sound_inner : (j : JxlpIndexState) (l : BytesLeft) (s : List ℕ) → Sound 4 (length s) (inner_step j l s)
sound_inner j l s = go (ltb (length s) 4) refl (reserved (be32 s 0)) refl
  where
    go : (t : Bool) → ltb (length s) 4 ≡ t → (u : Bool) → reserved (be32 s 0) ≡ u → Sound 4 (length s) (inner_step j l s)
    go true e u f = rw (inner_wants j l s (ltb-true (length s) 4 e)) (tt, tt)
    go false e true f = rw (inner_reserved j l s (ltb-false (length s) 4 e) f) (tt, tt)
    go false e false f = rw (inner_shows j l s (ltb-false (length s) 4 e) f) ((omega arith, λ h. omega (arith, aux_weight_lem (less l 4))), tt)

sound_jxlc : (j : JxlpIndexState) (l : BytesLeft) (s : List ℕ) → Sound 8 (length s) (jxlc_step j l s)
sound_jxlc Initial l s =
    sound_more (code_weight (to_end l)) 8 (length s) (code_step SingleJxlc K.Container l (to_end l) s) (omega (arith, code_weight_lem (to_end l))) (sound_code SingleJxlc K.Container l (to_end l) s)
sound_jxlc SingleJxlc l s = (tt, tt)
sound_jxlc (Jxlp i) l s = (tt, tt)
sound_jxlc JxlpFinished l s = (tt, tt)

sound_next : (j : JxlpIndexState) (l : BytesLeft) (s : List ℕ) → Sound 8 (length s) (jxlp_next j l s)
sound_next Initial l s = sound_more 2 8 (length s) (index_step 0 l s) (omega arith) (sound_index 0 l s)
sound_next SingleJxlc l s = (tt, tt)
sound_next (Jxlp i) l s = sound_more 2 8 (length s) (index_step (i + 1) l s) (omega arith) (sound_index (i + 1) l s)
sound_next JxlpFinished l s = (tt, tt)

-- a rule, or a refusal
sound_if : (w n : ℕ) (u : Bool) (r : BoxRefusal) (p : BoxParser) (c : ℕ) (t : Told) → Sound w n t → Sound w n (if u (refuses r p c) t)
sound_if w n true r p c t i = (tt, tt)
sound_if w n false r p c t i = i

sound_box : (j : JxlpIndexState) (t : ℕ) (l : BytesLeft) (s : List ℕ) → Sound 8 (length s) (box_step j t l s)
sound_box j t l s = go (eqb t jxlc) refl (eqb t jxlp) refl (eqb t brob) refl
  where
    go : (u : Bool) → eqb t jxlc ≡ u → (v : Bool) → eqb t jxlp ≡ v → (w : Bool) → eqb t brob ≡ w → Sound 8 (length s) (box_step j t l s)
    go true e v f w g = rw (box_jxlc j t l s (eqb-true t jxlc e)) (sound_jxlc j l s)
    go false e true f w g =
        rw (box_jxlp j t l s (eqb-true t jxlp f)) (sound_if 8 (length s) (under 4 l) _ _ _ (jxlp_next j l s) (sound_next j l s))
    go false e false f true g =
        rw (box_brob j t l s (eqb-true t brob g))
        (sound_if 8 (length s) (under 4 l) _ _ _ (inner_step j l s) (sound_more 4 8 (length s) (inner_step j l s) (omega arith) (sound_inner j l s)))
    go false e false f false g =
        rw (box_aux j t l s (eqb-false t jxlc e) (eqb-false t jxlp f) (eqb-false t brob g)) ((omega arith, λ h. omega (arith, aux_weight_lem l)), tt)

sound_header : (j : JxlpIndexState) (s : List ℕ) (h : Header) → header_of s ≡ h → Sound 0 (length s) (header_step j s h)
sound_header j s short e = (tt, tt)
sound_header j s (bad r) e = (tt, tt)
sound_header j s (box t l n) e =
    let fits = header_fits s e in
    sound_ahead n 8 0 s (box_step j t l (drop n s)) fits.1 (omega arith) (sound_box j t l (drop n s))

sound_signature : (j : JxlpIndexState) (s : List ℕ) (g : Signature) → signature_of s ≡ g → Sound 9 (length s) (signature_step j g)
sound_signature j s G.Bare e = ((omega arith, λ l. omega arith), tt)
sound_signature j s G.Container e = ((omega arith, λ l. omega arith), tt)
sound_signature j s G.TooShort e = (tt, tt)
sound_signature j s G.Neither e = ((omega arith, λ l. omega arith), tt)

sound_state : (d : DetectState) (j : JxlpIndexState) (s : List ℕ) → 0 < length s → Sound (weight_in d) (length s) (state_step d j s)
sound_state S.WaitingSignature j s h = sound_signature j s (signature_of s) refl
sound_state S.WaitingBoxHeader j s h = sound_header j s (header_of s) refl
sound_state (S.WaitingJxlpIndex l) j s h = sound_index (awaited j) l s
sound_state (S.WaitingInnerType l) j s h = sound_inner j l s
sound_state (S.InAuxBox t l) j s h = sound_aux j t l (length s) h
sound_state (S.InCodestream k l pending) j s h = sound_code j k l pending s
sound_state (S.Refused k r) j s h = (tt, tt)

-- every record and every input
pub sound : (p : BoxParser) (s : List ℕ) → Sound (weight p) (length s) (step_of p s)
sound p s = go s (is_refused p) refl (impossible p) refl
  where
    go : (s : List ℕ) (t : Bool) → is_refused p ≡ t → (u : Bool) → impossible p ≡ u → Sound (weight p) (length s) (step_of p s)
    go [] true r u i = rw ((stays p r).1 []) (tt, tt)
    go [] false r u i = rw (step_empty p r) (tt, tt)
    go (x ∷ s) t r true i = rw (step_impossible p (x ∷ s) (omega arith) i) (tt, tt)
    go (x ∷ s) t r false i = rw (step_state p (x ∷ s) (omega arith) i) (sound_state p.state p.jxlp (x ∷ s) (omega arith))

-- no event comes of an empty input
none_of_none : (p : BoxParser) {e : ParseEvent} {q : BoxParser} {c : ℕ} → step_of p [] ≡ shows e q c → ⊥
none_of_none p h = go (is_refused p) refl
  where
    go : (t : Bool) → is_refused p ≡ t → ⊥
    go true r = never (cc ((stays p r).1 []))
    go false r = never (cc (step_empty p r))

pub weight_most : (p : BoxParser) → weight p ≤ 9
weight_most p = go p.state
  where
    go : (d : DetectState) → weight_in d ≤ 9
    go S.WaitingSignature = omega arith
    go S.WaitingBoxHeader = omega arith
    go (S.WaitingJxlpIndex l) = omega arith
    go (S.WaitingInnerType l) = omega arith
    go (S.InAuxBox t l) = omega (arith, aux_weight_lem l)
    go (S.InCodestream k l pending) = omega (arith, code_weight_lem pending)
    go (S.Refused k r) = omega arith

abbrev FarEvent : ParseEvent → Type 0
FarEvent (E.BitstreamKind k) = Unit {0}
FarEvent E.NoMoreAuxBox = Unit {0}
FarEvent (E.Codestream x l) = 0 < x
FarEvent (E.AuxBoxStart t b e) = Unit {0}
FarEvent (E.AuxBoxData t x l) = Unit {0}
FarEvent (E.AuxBoxEnd t) = Unit {0}

far_shifted : (k : ℕ) (e : ParseEvent) → 0 < k → FarEvent (shifted k e)
far_shifted k (E.BitstreamKind x) h = tt
far_shifted k E.NoMoreAuxBox h = tt
far_shifted k (E.Codestream x l) h = omega arith
far_shifted k (E.AuxBoxStart t b e) h = tt
far_shifted k (E.AuxBoxData t x l) h = tt
far_shifted k (E.AuxBoxEnd t) h = tt

-- a codestream payload behind a header does not stand where the header does
abbrev Far : Told → Type 0
Far (shows e q c) = FarEvent e
Far (wants q c) = Unit {0}
Far (refuses r q c) = Unit {0}

far_ahead : (k : ℕ) (t : Told) → 0 < k → Far (ahead k t)
far_ahead k (shows e q c) h = far_shifted k e h
far_ahead k (wants q c) h = tt
far_ahead k (refuses r q c) h = tt

far_header : (j : JxlpIndexState) (s : List ℕ) (h : Header) → header_of s ≡ h → Far (header_step j s h)
far_header j s short e = tt
far_header j s (bad r) e = tt
far_header j s (box t l n) e = far_ahead n (box_step j t l (drop n s)) (omega (arith, (header_fits s e).0))

far_step : (j : JxlpIndexState) (s : List ℕ) → Far (step_of (at S.WaitingBoxHeader j) s)
far_step j [] = rw (step_empty (at S.WaitingBoxHeader j) refl) tt
far_step j (x ∷ s) = go (impossible (at S.WaitingBoxHeader j)) refl
  where
    go : (t : Bool) → impossible (at S.WaitingBoxHeader j) ≡ t → Far (step_of (at S.WaitingBoxHeader j) (x ∷ s))
    go true i = rw (step_impossible (at S.WaitingBoxHeader j) (x ∷ s) (omega arith) i) tt
    go false i = rw (step_state (at S.WaitingBoxHeader j) (x ∷ s) (omega arith) i) (far_header j (x ∷ s) (header_of (x ∷ s)) refl)

-- a side box with nothing left shows its end
end_step : (j : JxlpIndexState) (t : ℕ) (s : List ℕ) {f : ParseEvent} {q : BoxParser} {d : ℕ} → step_of (at (S.InAuxBox t (Bytes 0)) j) s ≡ shows f q d → f ≡ E.AuxBoxEnd t
end_step j t [] h = absurd (none_of_none (at (S.InAuxBox t (Bytes 0)) j) h)
end_step j t (x ∷ s) {f} h = go (impossible (at (S.InAuxBox t (Bytes 0)) j)) refl
  where
    go : (u : Bool) → impossible (at (S.InAuxBox t (Bytes 0)) j) ≡ u → f ≡ E.AuxBoxEnd t
    go true i = cc (step_impossible (at (S.InAuxBox t (Bytes 0)) j) (x ∷ s) (omega arith) i)
    go false i = cc (step_state (at (S.InAuxBox t (Bytes 0)) j) (x ∷ s) (omega arith) i)

-- two events of one input never join
module _ (q : BoxParser) (c : ℕ) (s : List ℕ) where
  code_apart : (x l : ℕ) → x + l ≡ c → (f : ParseEvent) → FarEvent f → code_at (x + l) (shifted c f) ≡ false
  code_apart x l e (E.BitstreamKind k) h = refl
  code_apart x l e E.NoMoreAuxBox h = refl
  code_apart x l e (E.Codestream y m) h = ne_eqb (x + l) (c + y) (λ z. omega arith)
  code_apart x l e (E.AuxBoxStart t b i) h = refl
  code_apart x l e (E.AuxBoxData t y m) h = refl
  code_apart x l e (E.AuxBoxEnd t) h = refl

  loose_apart : (e : ParseEvent) → Loose (length s) e q c → {f : ParseEvent} {r : BoxParser} {d : ℕ} → step_of q (drop c s) ≡ shows f r d
      → joins e (shifted c f) ≡ false
  loose_apart (E.BitstreamKind k) i h = refl
  loose_apart E.NoMoreAuxBox i h = refl
  loose_apart (E.Codestream x l) (e, inl n) h = absurd (none_of_none q (rw (drop_of_length-le s n) at h))
  loose_apart (E.Codestream x l) (e, inr n) {f} h =
      let behind : BoxParser = at S.WaitingBoxHeader q.jxlp in
      let same : q ≡ behind = ap (λ (d : DetectState). at d q.jxlp) n in
      code_apart x l e f (rw (ap (λ (p : BoxParser). step_of p (drop c s)) (sym same) ∙ h) at (far_step q.jxlp (drop c s)))
  loose_apart (E.AuxBoxStart t b e) i h = refl
  loose_apart (E.AuxBoxData t x l) (inl n) h = absurd (none_of_none q (rw (drop_of_length-le s n) at h))
  loose_apart (E.AuxBoxData t x l) (inr n) h =
      let over : BoxParser = at (S.InAuxBox t (Bytes 0)) q.jxlp in
      let same : q ≡ over = ap (λ (d : DetectState). at d q.jxlp) n in
      rw (end_step q.jxlp t (drop c s) (ap (λ (p : BoxParser). step_of p (drop c s)) (sym same) ∙ h))
  loose_apart (E.AuxBoxEnd t) i h = refl

pub apart : (p : BoxParser) (s : List ℕ) {e f : ParseEvent} {q r : BoxParser} {c d : ℕ} → step_of p s ≡ shows e q c → step_of q (drop c s) ≡ shows f r d
    → joins e (shifted c f) ≡ false
apart p s {e} {q = q} {c = c} h k = loose_apart q c s e (rw h at (sound p s)).1 k
