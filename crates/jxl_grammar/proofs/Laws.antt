-- What every step keeps, carried through its rules.
use mathlib.Core.Path.{◌≡◌, refl, sym, ap, ◌∙◌}
use mathlib.Core.Bool.{Bool, true, false}
use mathlib.Core.List.{List, [], ◌∷◌}
use Prim.Native.Nat.{ℕ, suc, ◌+◌, ◌-◌, ◌%◌, ◌<◌, ◌≤◌, min}
use native.Mathlib.Omega.{arith}
use lib.Dec.{ltb, leb, eqb}
use lib.ListN.{length, drop, length-drop}
use borrow.Author.Tests.{ltb-true, ltb-false, leb-true, leb-false, eqb-true, eqb-false}
use Rattle.jxl_headers.specs.Bytes.{if, be32}
use Rattle.jxl_signatures.specs.Signature.{signature_of}
use Rattle.jxl_reach.specs.Reach.{under, less, to_end}
use Rattle.jxl_record.specs.Record.{at, refused_in, is_refused}
use Rattle.jxl_impossible.specs.Impossible.{impossible}
use Rattle.jxl_headers.specs.Types.{jxlc, jxlp, brob, reserved}
use Rattle.jxl_headers.specs.Header.{Header, short, bad, box, header_of}
use Rattle.jxl_grammar.specs.Step.{Told, shows, wants, refuses, refuse, ahead, code_part, code_step, aux_part, row, index_step, inner_step, jxlc_step, jxlp_next, box_step, header_step, signature_step, awaited, state_step, step_of}
use Rattle.jxl_events.specs.Event.{shifted}
use Rattle.jxl_grammar.specs.Naming.{numbered}
use Rattle.jxl_grammar.specs.Laws.{RefusedStays, Repeats, Inside, Kept, EveryStep}
use Rattle.jxl_headers.proofs.Header.{header_fits, header_under}
use Rattle.jxl_signatures.proofs.Which.{signature_under, signature_there}
use Rattle.jxl_grammar.proofs.Step.{code_wants, code_pending, code_shows, index_wants, index_right, index_wrong, inner_wants, inner_reserved, inner_shows, box_jxlc, box_jxlp, box_brob, box_aux, step_empty, step_empty_refused, step_state, step_impossible}
use Rattle.jxl_signatures.specs.declared.Signature.{Signature}
use Rattle.jxl_signatures.specs.declared.Signature.TheVariants as G
use Rattle.jxl_record.specs.declared.BitstreamKind.{BitstreamKind}
use Rattle.jxl_record.specs.declared.BitstreamKind.TheVariants as K
use Rattle.jxl_reach.specs.declared.BytesLeft.{BytesLeft}
use Rattle.jxl_reach.specs.declared.BytesLeft.TheVariants.{ToEnd, Bytes}
use Rattle.jxl_record.specs.declared.JxlpIndexState.{JxlpIndexState}
use Rattle.jxl_record.specs.declared.JxlpIndexState.TheVariants.{Initial, SingleJxlc, Jxlp, JxlpFinished}
use Rattle.jxl_record.specs.declared.DetectState.{DetectState}
use Rattle.jxl_record.specs.declared.DetectState.TheVariants as S
use Rattle.jxl_record.specs.declared.BoxParser.{BoxParser}
use Rattle.jxl_refusals.specs.declared.BoxRefusal.{BoxRefusal}
use Rattle.jxl_events.specs.declared.ParseEvent.{ParseEvent}
use Rattle.jxl_events.specs.declared.ParseEvent.TheVariants as E

pub refused_repeats : (k : BitstreamKind) (r : BoxRefusal) (j : JxlpIndexState) → Repeats r (at (S.Refused k r) j)
refused_repeats k r j [] = step_empty_refused (at (S.Refused k r) j) refl
refused_repeats k r j (x ∷ s) = step_state (at (S.Refused k r) j) (x ∷ s) (omega arith) refl

pub refused_stays : RefusedStays
refused_stays k r j s = ap numbered (refused_repeats k r j s)

stays_in : (d : DetectState) (j : JxlpIndexState) → refused_in d ≡ true → (w : BoxRefusal) × Repeats w (at d j)
stays_in S.WaitingSignature j e = absurd (let z : ◌≡◌ {A = ℕ} 0 1 = cc in omega arith)
stays_in S.WaitingBoxHeader j e = absurd (let z : ◌≡◌ {A = ℕ} 0 1 = cc in omega arith)
stays_in (S.WaitingJxlpIndex l) j e = absurd (let z : ◌≡◌ {A = ℕ} 0 1 = cc in omega arith)
stays_in (S.WaitingInnerType l) j e = absurd (let z : ◌≡◌ {A = ℕ} 0 1 = cc in omega arith)
stays_in (S.InAuxBox t l) j e = absurd (let z : ◌≡◌ {A = ℕ} 0 1 = cc in omega arith)
stays_in (S.InCodestream k l pending) j e = absurd (let z : ◌≡◌ {A = ℕ} 0 1 = cc in omega arith)
stays_in (S.Refused k r) j e = (r, refused_repeats k r j)

pub stays : (p : BoxParser) → is_refused p ≡ true → (w : BoxRefusal) × Repeats w p
stays p e = stays_in p.state p.jxlp e

inside_ahead : (k n : ℕ) (e : ParseEvent) → k ≤ n → Inside e (n - k) → Inside (shifted k e) n
inside_ahead k n (E.BitstreamKind x) h i = tt
inside_ahead k n E.NoMoreAuxBox h i = tt
inside_ahead k n (E.Codestream a l) h i = omega arith
inside_ahead k n (E.AuxBoxStart t b e) h i = tt
inside_ahead k n (E.AuxBoxData t a l) h i = omega arith
inside_ahead k n (E.AuxBoxEnd t) h i = tt

kept_ahead : (k : ℕ) (s : List ℕ) (t : Told) → k ≤ length s → Kept (length (drop k s)) t → Kept (length s) (ahead k t)
kept_ahead k s (shows e p c) h i =
    (omega (arith, length-drop k s), inside_ahead k (length s) e h (rw (length-drop k s) at i.1))
kept_ahead k s (wants p c) h i = (omega (arith, length-drop k s), omega (arith, length-drop k s))
kept_ahead k s (refuses r p c) h i = (omega (arith, length-drop k s), i.1)

kept_refuse : (r : BoxRefusal) (p : BoxParser) (c n : ℕ) → c ≤ n → Kept n (refuse r p c)
kept_refuse r p c n h = (h, refused_repeats _ r p.jxlp)

kept_part : (j : JxlpIndexState) (k : BitstreamKind) (l : BytesLeft) (n : ℕ) → Kept n (code_part j k l n)
kept_part j k ToEnd n = (omega arith, omega arith)
kept_part j k (Bytes m) n = go (leb m n) refl
  where
    go : (t : Bool) → leb m n ≡ t → Kept n (code_part j k (Bytes m) n)
    go true e = rw e (leb-true m n e, omega (arith, leb-true m n e))
    go false e = rw e (omega arith, omega arith)

kept_code : (j : JxlpIndexState) (k : BitstreamKind) (l : BytesLeft) (pending : Bool) (s : List ℕ) → Kept (length s) (code_step j k l pending s)
kept_code j k l pending [] = rw (code_wants j k l [] pending (omega arith)) (omega arith, omega arith)
kept_code j k l true (x ∷ s) = rw (code_pending j k l (x ∷ s) (omega arith)) (omega arith, tt)
kept_code j k l false (x ∷ s) = rw (code_shows j k l (x ∷ s) (omega arith)) (kept_part j k l (length (x ∷ s)))

kept_aux : (j : JxlpIndexState) (t : ℕ) (l : BytesLeft) (n : ℕ) → Kept n (aux_part j t l n)
kept_aux j t ToEnd n = (omega arith, omega arith)
kept_aux j t (Bytes m) n = go (eqb m 0) refl
  where
    go : (u : Bool) → eqb m 0 ≡ u → Kept n (aux_part j t (Bytes m) n)
    go true e = rw e (omega arith, tt)
    go false e = rw e (omega arith, omega arith)

kept_index : (i : ℕ) (l : BytesLeft) (s : List ℕ) → Kept (length s) (index_step i l s)
kept_index i l s = go (ltb (length s) 4) refl (eqb (be32 s 0 % 0x80000000) i) refl
  where
    go : (t : Bool) → ltb (length s) 4 ≡ t → (u : Bool) → eqb (be32 s 0 % 0x80000000) i ≡ u → Kept (length s) (index_step i l s)
    go true e u f = rw (index_wants i l s (ltb-true (length s) 4 e)) (omega arith, omega (arith, ltb-true (length s) 4 e))
    go false e true f =
        let h = ltb-false (length s) 4 e in
        rw (index_right i l s h (eqb-true (be32 s 0 % 0x80000000) i f))
        (kept_ahead 4 s (code_step (row (be32 s 0) i) K.Container (less l 4) (to_end l) (drop 4 s)) h (kept_code (row (be32 s 0) i) K.Container (less l 4) (to_end l) (drop 4 s)))
    go false e false f =
        let h = ltb-false (length s) 4 e in
        rw (index_wrong i l s h (eqb-false (be32 s 0 % 0x80000000) i f)) (kept_refuse _ (at (S.WaitingJxlpIndex l) (Jxlp i)) 4 (length s) h)

kept_inner : (j : JxlpIndexState) (l : BytesLeft) (s : List ℕ) → Kept (length s) (inner_step j l s)
kept_inner j l s = go (ltb (length s) 4) refl (reserved (be32 s 0)) refl
  where
    go : (t : Bool) → ltb (length s) 4 ≡ t → (u : Bool) → reserved (be32 s 0) ≡ u → Kept (length s) (inner_step j l s)
    go true e u f = rw (inner_wants j l s (ltb-true (length s) 4 e)) (omega arith, omega (arith, ltb-true (length s) 4 e))
    go false e true f =
        let h = ltb-false (length s) 4 e in
        rw (inner_reserved j l s h f) (kept_refuse _ (at (S.WaitingInnerType l) j) 4 (length s) h)
    go false e false f = rw (inner_shows j l s (ltb-false (length s) 4 e) f) (ltb-false (length s) 4 e, tt)

kept_none : (r : BoxRefusal) (p : BoxParser) (s : List ℕ) → Kept (length s) (refuse r p 0)
kept_none r p s = kept_refuse r p 0 (length s) (omega arith)

kept_jxlc : (j : JxlpIndexState) (l : BytesLeft) (s : List ℕ) → Kept (length s) (jxlc_step j l s)
kept_jxlc Initial l s = kept_code SingleJxlc K.Container l (to_end l) s
kept_jxlc SingleJxlc l s = kept_none _ (at S.WaitingBoxHeader SingleJxlc) s
kept_jxlc (Jxlp i) l s = kept_none _ (at S.WaitingBoxHeader (Jxlp i)) s
kept_jxlc JxlpFinished l s = kept_none _ (at S.WaitingBoxHeader JxlpFinished) s

kept_next : (j : JxlpIndexState) (l : BytesLeft) (s : List ℕ) → Kept (length s) (jxlp_next j l s)
kept_next Initial l s = kept_index 0 l s
kept_next SingleJxlc l s = kept_none _ (at S.WaitingBoxHeader SingleJxlc) s
kept_next (Jxlp i) l s = kept_index (i + 1) l s
kept_next JxlpFinished l s = kept_none _ (at S.WaitingBoxHeader JxlpFinished) s

-- a rule, or the refusal of a payload under 4
kept_sized : (r : BoxRefusal) (j : JxlpIndexState) (l : BytesLeft) (s : List ℕ) (t : Told) → Kept (length s) t
    → Kept (length s) (if (under 4 l) (refuse r (at S.WaitingBoxHeader j) 0) t)
kept_sized r j l s t i = go (under 4 l)
  where
    go : (u : Bool) → Kept (length s) (if u (refuse r (at S.WaitingBoxHeader j) 0) t)
    go true = kept_none r (at S.WaitingBoxHeader j) s
    go false = i

kept_box : (j : JxlpIndexState) (t : ℕ) (l : BytesLeft) (s : List ℕ) → Kept (length s) (box_step j t l s)
kept_box j t l s = go (eqb t jxlc) refl (eqb t jxlp) refl (eqb t brob) refl
  where
    go : (u : Bool) → eqb t jxlc ≡ u → (v : Bool) → eqb t jxlp ≡ v → (w : Bool) → eqb t brob ≡ w → Kept (length s) (box_step j t l s)
    go true e v f w g = rw (box_jxlc j t l s (eqb-true t jxlc e)) (kept_jxlc j l s)
    go false e true f w g = rw (box_jxlp j t l s (eqb-true t jxlp f)) (kept_sized _ j l s (jxlp_next j l s) (kept_next j l s))
    go false e false f true g = rw (box_brob j t l s (eqb-true t brob g)) (kept_sized _ j l s (inner_step j l s) (kept_inner j l s))
    go false e false f false g = rw (box_aux j t l s (eqb-false t jxlc e) (eqb-false t jxlp f) (eqb-false t brob g)) (omega arith, tt)

kept_header : (j : JxlpIndexState) (s : List ℕ) (h : Header) → header_of s ≡ h → Kept (length s) (header_step j s h)
kept_header j s short e = (omega arith, omega (arith, header_under s e))
kept_header j s (bad r) e = kept_none r (at S.WaitingBoxHeader j) s
kept_header j s (box t l n) e = kept_ahead n s (box_step j t l (drop n s)) (header_fits s e).1 (kept_box j t l (drop n s))

kept_signature : (j : JxlpIndexState) (s : List ℕ) (g : Signature) → signature_of s ≡ g → Kept (length s) (signature_step j g)
kept_signature j s G.Bare e = (omega arith, tt)
kept_signature j s G.Container e = (signature_there s e, tt)
kept_signature j s G.TooShort e = (omega arith, omega (arith, signature_under s e))
kept_signature j s G.Neither e = (omega arith, tt)

kept_state : (d : DetectState) (j : JxlpIndexState) (s : List ℕ) → Kept (length s) (state_step d j s)
kept_state S.WaitingSignature j s = kept_signature j s (signature_of s) refl
kept_state S.WaitingBoxHeader j s = kept_header j s (header_of s) refl
kept_state (S.WaitingJxlpIndex l) j s = kept_index (awaited j) l s
kept_state (S.WaitingInnerType l) j s = kept_inner j l s
kept_state (S.InAuxBox t l) j s = kept_aux j t l (length s)
kept_state (S.InCodestream k l pending) j s = kept_code j k l pending s
kept_state (S.Refused k r) j s = (omega arith, refused_repeats k r j)

pub every_step : EveryStep
every_step p s = go s (is_refused p) refl (impossible p) refl
  where
    go : (s : List ℕ) (t : Bool) → is_refused p ≡ t → (u : Bool) → impossible p ≡ u → Kept (length s) (step_of p s)
    go [] true r u i = rw (step_empty_refused p r) (kept_state p.state p.jxlp [])
    go [] false r u i = rw (step_empty p r) (omega arith, omega arith)
    go (x ∷ s) t r true i = rw (step_impossible p (x ∷ s) (omega arith) i) (kept_none _ p (x ∷ s))
    go (x ∷ s) t r false i = rw (step_state p (x ∷ s) (omega arith) i) (kept_state p.state p.jxlp (x ∷ s))
