-- A step and the grammar: what a step tells of the bytes to come is what the grammar, entered in the middle, lists of them.
use mathlib.Core.Path.{◌≡◌, refl, sym, ap, ◌∙◌}
use mathlib.Core.Bool.{Bool, true, false}
use mathlib.Core.List.{List, [], ◌∷◌}
use Prim.Native.Nat.{ℕ, zero, suc, ◌+◌, ◌-◌, ◌%◌, ◌<◌, ◌≤◌, min}
use native.Mathlib.Nat.{add_assoc, add-zero}
use native.Mathlib.Omega.{arith}
use lib.Dec.{ltb, leb, eqb}
use lib.ListN.{length, drop, length-drop}
use lib.Seq.{drop-drop, drop-length}
use borrow.Author.Tests.{ne_eqb, ltb-true, ltb-false, leb-true, leb-false, eqb-true, eqb-false}
use Rattle.jxl_headers.specs.Bytes.{if, or, be32}
use Rattle.jxl_reach.specs.Reach.{under, less, to_end}
use Rattle.jxl_record.specs.Record.{at, refused_in, is_refused}
use Rattle.jxl_impossible.specs.Impossible.{over_index, impossible_in, impossible}
use Rattle.jxl_headers.specs.Header.{Header, short, bad, box, header_of}
use Rattle.jxl_signatures.specs.Signature.{signature_of}
use Rattle.jxl_headers.specs.Types.{jxlc, jxlp, brob, reserved}
use Rattle.jxl_grammar.specs.Step as T
use Rattle.jxl_grammar.specs.Step.{Told, shows, wants, refuses, ahead, code_part, code_step, aux_part, index_step, inner_step, jxlc_step, jxlp_next, box_step, header_step, signature_step, awaited, state_step, step_of}
use Rattle.jxl_events.specs.Event.{shifted}
use Rattle.jxl_grammar.proofs.Step.{code_wants, code_pending, code_shows, index_wants, index_right, index_wrong, inner_wants, inner_reserved, inner_shows, box_jxlc, box_jxlp, box_brob, box_aux, step_empty, step_state}
use Rattle.jxl_grammar.proofs.Laws.{refused_repeats, every_step}
use Rattle.jxl_events.proofs.Shifted.{shifted_shifted}
use Rattle.jxl_headers.proofs.Header.{header_fits, header_short}
use Rattle.jxl_signatures.proofs.Which.{is_short_bare}
use Rattle.jxl_signatures.specs.declared.Signature.{Signature}
use Rattle.jxl_signatures.specs.declared.Signature.TheVariants as G
use Rattle.jxl_record.specs.declared.BitstreamKind.{BitstreamKind}
use Rattle.jxl_record.specs.declared.BitstreamKind.TheVariants as K
use Rattle.jxl_reach.specs.declared.BytesLeft.{BytesLeft}
use Rattle.jxl_reach.specs.declared.BytesLeft.TheVariants.{ToEnd, Bytes}
use Rattle.jxl_record.specs.declared.JxlpIndexState.{JxlpIndexState}
use Rattle.jxl_record.specs.declared.JxlpIndexState.TheVariants.{Initial, SingleJxlc, Jxlp, JxlpFinished}
use Rattle.jxl_record.specs.declared.DetectState.{DetectState}
use Rattle.jxl_record.specs.declared.DetectState.TheVariants as S
use Rattle.jxl_record.specs.declared.BoxParser.{BoxParser}
use Rattle.jxl_refusals.specs.declared.BoxRefusal.{BoxRefusal}
use Rattle.jxl_events.specs.declared.ParseEvent.TheVariants as E
use Rattle.jxl_grammar.specs.Grammar.{Listing, wanted, breaks, then, unless_open, between_boxes, Codestreams, none, single, up_to, whole, coded, no_code, code, closed, no_aux, aux, row, indexed, inner, jxlc_box, jxlp_box, boxed, boxes, bare, signed}
use Rattle.jxl_grammar.specs.End.{Close, missing, owes, nothing, close_at, aux_owes, code_owes, unknown, row_open, close_of}
use Rattle.jxl_grammar.specs.Laws.{Repeats}
use Rattle.jxl_grammar.specs.Feeding.{Seen, Takes, more, waits}
use Rattle.jxl_grammar.specs.Feeding as Feeding
use Rattle.jxl_grammar.specs.Theorems.{listing}
use Rattle.jxl_grammar.proofs.Cut.{row_right, or_false}
use Rattle.jxl_base.proofs.Never.{never}

-- the codestream boxes that a record knows of
abbrev sofar : JxlpIndexState → Codestreams
sofar Initial = none
sofar SingleJxlc = single
sofar (Jxlp i) = up_to i
sofar JxlpFinished = whole

-- the grammar, entered in the middle
abbrev rest_in : ℕ → DetectState → JxlpIndexState → ℕ → List ℕ → Listing
rest_in turns S.WaitingSignature j at s = signed (signature_of s) turns (sofar j) at s
rest_in turns S.WaitingBoxHeader j at s = boxes turns (sofar j) at s
rest_in turns (S.WaitingJxlpIndex l) j at s = indexed (awaited j) l at s (boxes turns)
rest_in turns (S.WaitingInnerType l) j at s = inner (sofar j) l at s (boxes turns)
rest_in turns (S.InAuxBox t l) j at s = aux (sofar j) t l at s (boxes turns)
rest_in turns (S.InCodestream k l pending) j at s = code (sofar j) pending l at s (boxes turns)
rest_in turns (S.Refused k r) j at s = breaks r at

-- the listing of all the bytes that are still to come
abbrev pub rest : ℕ → BoxParser → ℕ → List ℕ → Listing
rest turns p at s = rest_in turns p.state p.jxlp at s

-- a codestream whose kind is unknown is in no file; an end there is cut short, which the grammar does not say
abbrev Known : DetectState → Type 0
Known S.WaitingSignature = Unit {0}
Known S.WaitingBoxHeader = Unit {0}
Known (S.WaitingJxlpIndex l) = Unit {0}
Known (S.WaitingInnerType l) = Unit {0}
Known (S.InAuxBox t l) = Unit {0}
Known (S.InCodestream k l pending) = unknown k ≡ false
Known (S.Refused k r) = Unit {0}

-- a record that the grammar speaks of
abbrev pub Led : BoxParser → Type 0
Led p = (impossible p ≡ false) × Known p.state

-- a step on `s`, which stands at `a`, and the listing of `s`
abbrev Lists : ℕ → List ℕ → Listing → Told → Type 0
Lists a s l (shows e q c) = (m : ℕ) × (length s ≤ c + m) × Led q × (l ≡ then (shifted a e) (rest m q (a + c) (drop c s)))
Lists a s l (wants q c) = l ≡ wanted (close_at (a + c) (close_of q (drop c s))) (a + c)
Lists a s l (refuses w q c) = l ≡ breaks w (a + c)

-- what an end comes to, by the row: the record's, and the grammar's
unless_open_lem : (j : JxlpIndexState) (w : Close) → unless_open (sofar j) w ≡ if (row_open j) missing w
unless_open_lem Initial w = refl
unless_open_lem SingleJxlc w = refl
unless_open_lem (Jxlp i) w = refl
unless_open_lem JxlpFinished w = refl

unless_missing : (c : Codestreams) → unless_open c missing ≡ missing
unless_missing none = refl
unless_missing single = refl
unless_missing (up_to i) = refl
unless_missing whole = refl

if_missing : (t : Bool) → if t missing missing ≡ missing
if_missing true = refl
if_missing false = refl

-- what the record owes, said behind a bytes, is what the grammar says there
aux_at_lem : (a t : ℕ) (l : BytesLeft) → close_at a (aux_owes t l) ≡ no_aux t l
aux_at_lem a t ToEnd = refl
aux_at_lem a t (Bytes n) = go (eqb n 0)
  where
    go : (u : Bool) → close_at a (if u (owes (E.AuxBoxEnd t)) missing) ≡ if u (owes (E.AuxBoxEnd t)) missing
    go true = refl
    go false = refl

code_at : (a : ℕ) (l : BytesLeft) (pending : Bool) → close_at a (code_owes l pending 0) ≡ no_code pending l a
code_at a ToEnd true = refl
code_at a ToEnd false = refl
code_at a (Bytes n) pending = go (eqb n 0)
  where
    go : (u : Bool) → close_at a (if u (owes (E.Codestream 0 0)) missing) ≡ if u (owes (E.Codestream a 0)) missing
    go true = rw (add-zero a)
    go false = refl

closes_by : (a : ℕ) (t : Bool) (w : Close) → close_at a (if t missing w) ≡ if t missing (close_at a w)
closes_by a true w = refl
closes_by a false w = refl

-- where nothing is there
close_code : (a : ℕ) (j : JxlpIndexState) (k : BitstreamKind) (l : BytesLeft) (pending : Bool) → unknown k ≡ false
    → close_at a (close_of (T.in_code k l pending j) []) ≡ unless_open (sofar j) (no_code pending l a)
close_code a j k l pending u =
    rw u (closes_by a (row_open j) (code_owes l pending 0) ∙ ap (if (row_open j) missing) (code_at a l pending) ∙ sym (unless_open_lem j (no_code pending l a)))

close_aux : (a : ℕ) (j : JxlpIndexState) (t : ℕ) (l : BytesLeft) → close_at a (close_of (at (S.InAuxBox t l) j) []) ≡ unless_open (sofar j) (no_aux t l)
close_aux a j t l = closes_by a (row_open j) (aux_owes t l) ∙ ap (if (row_open j) missing) (aux_at_lem a t l) ∙ sym (unless_open_lem j (no_aux t l))

close_header : (a : ℕ) (j : JxlpIndexState) (s : List ℕ) → close_at a (close_of (at S.WaitingBoxHeader j) s) ≡ between_boxes (sofar j) s
close_header a j [] = closes_by a (row_open j) nothing ∙ sym (unless_open_lem j nothing)
close_header a j (x ∷ s) = refl

close_index : (a : ℕ) (j : JxlpIndexState) (l : BytesLeft) (s : List ℕ) → close_at a (close_of (at (S.WaitingJxlpIndex l) j) s) ≡ missing
close_index a j l [] = rw (if_missing (row_open j))
close_index a j l (x ∷ s) = refl

close_inner : (a : ℕ) (j : JxlpIndexState) (l : BytesLeft) (s : List ℕ) → close_at a (close_of (at (S.WaitingInnerType l) j) s) ≡ missing
close_inner a j l [] = rw (if_missing (row_open j))
close_inner a j l (x ∷ s) = refl

close_signature : (a : ℕ) (j : JxlpIndexState) (s : List ℕ) → close_at a (close_of (at S.WaitingSignature j) s) ≡ missing
close_signature a j [] = refl
close_signature a j (x ∷ s) = refl

-- nothing is consumed, and more is wanted
still : (a : ℕ) (q : BoxParser) (s : List ℕ) {w : Close} → close_at a (close_of q s) ≡ w → wanted w a ≡ wanted (close_at (a + 0) (close_of q s)) (a + 0)
still a q s e = rw (add-zero a) (ap (λ (v : Close). wanted v a) (sym e))

lists_ahead : (k a : ℕ) (s : List ℕ) (l : Listing) (t : Told) → k ≤ length s → Lists (a + k) (drop k s) l t → Lists a s l (ahead k t)
lists_ahead k a s l (shows e q c) h (m, n, i, d) =
    (m, omega (arith, length-drop k s), i, d ∙ rw (shifted_shifted a k e, add_assoc a k c, drop-drop c k s))
lists_ahead k a s l (wants q c) h d = d ∙ rw (add_assoc a k c, drop-drop c k s)
lists_ahead k a s l (refuses n q c) h d = d ∙ rw (add_assoc a k c)

-- inside a codestream
module _ (j : JxlpIndexState) (o : over_index j ≡ false) (k : BitstreamKind) (known : unknown k ≡ false) (m a : ℕ) where
  lists_part : (l : BytesLeft) (s : List ℕ) → 0 < length s → length s ≤ m → Lists a s (coded (sofar j) l a s (boxes m)) (code_part j k l (length s))
  lists_part ToEnd s p h = (m, omega arith, (o, known), rw (add-zero a, drop-length s))
  lists_part (Bytes n) s p h = go (leb n (length s)) refl
    where
      go : (t : Bool) → leb n (length s) ≡ t → Lists a s (coded (sofar j) (Bytes n) a s (boxes m)) (code_part j k (Bytes n) (length s))
      go true e = rw (coded, e) (m, omega arith, (o, tt), rw (add-zero a))
      go false e =
          let some : eqb (n - length s) 0 ≡ false = ne_eqb (n - length s) 0 (λ z. absurd (omega (arith, leb-false n (length s) e, z))) in
          rw (coded, e) (m, omega arith, (o, known), rw (add-zero a, drop-length s, some, unless_missing (sofar j)))

  lists_code : (l : BytesLeft) (pending : Bool) (s : List ℕ) → length s ≤ m → Lists a s (code (sofar j) pending l a s (boxes m)) (code_step j k l pending s)
  lists_code l pending [] h = rw (code_wants j k l [] pending (omega arith)) (still a (T.in_code k l pending j) [] (close_code a j k l pending known))
  lists_code l true (x ∷ s) h = rw (code_pending j k l (x ∷ s) (omega arith)) (m, omega arith, (o, known), rw (add-zero a))
  lists_code l false (x ∷ s) h = rw (code_shows j k l (x ∷ s) (omega arith)) (lists_part l (x ∷ s) (omega arith) h)

-- inside a side box, with a byte there
module _ (j : JxlpIndexState) (o : over_index j ≡ false) (t m a : ℕ) where
  -- the end of a payload: the grammar closes the box, the record has nothing left of it
  closing : (b : ℕ) (s : List ℕ) → closed (sofar j) t b s (boxes m) ≡ aux (sofar j) t (Bytes 0) b s (boxes m)
  closing b [] = refl
  closing b (x ∷ s) = refl

  side_sized : (n x : ℕ) (s : List ℕ) → (n ≡ 0 → ⊥) → length (x ∷ s) ≤ m → (u : Bool) → leb n (length (x ∷ s)) ≡ u
      → Lists a (x ∷ s) (aux (sofar j) t (Bytes n) a (x ∷ s) (boxes m)) (aux_part j t (Bytes n) (length (x ∷ s)))
  side_sized n x s z h true e =
      let all : min n (length (x ∷ s)) ≡ n = omega (arith, leb-true n (length (x ∷ s)) e) in
      let over : n - n ≡ 0 = omega arith in
      let part : aux_part j t (Bytes n) (length (x ∷ s)) ≡ shows (E.AuxBoxData t 0 n) (at (S.InAuxBox t (Bytes 0)) j) n = rw (ne_eqb n 0 z, all, over) in
      rw (part, aux, ne_eqb n 0 z, e) (m, omega arith, (o, tt), rw (add-zero a, closing (a + n) (drop n (x ∷ s))))
  side_sized n x s z h false e =
      let full : min n (length (x ∷ s)) ≡ length (x ∷ s) = omega (arith, leb-false n (length (x ∷ s)) e) in
      let some : eqb (n - length (x ∷ s)) 0 ≡ false = ne_eqb (n - length (x ∷ s)) 0 (λ z. absurd (omega (arith, leb-false n (length (x ∷ s)) e, z))) in
      let part : aux_part j t (Bytes n) (length (x ∷ s)) ≡ shows (E.AuxBoxData t 0 (length (x ∷ s))) (at (S.InAuxBox t (Bytes (n - length (x ∷ s)))) j) (length (x ∷ s)) = rw (ne_eqb n 0 z, full) in
      rw (part, aux, ne_eqb n 0 z, e) (m, omega arith, (o, tt), rw (add-zero a, drop-length (x ∷ s), some, unless_missing (sofar j)))

  lists_side : (l : BytesLeft) (x : ℕ) (s : List ℕ) → length (x ∷ s) ≤ m → Lists a (x ∷ s) (aux (sofar j) t l a (x ∷ s) (boxes m)) (aux_part j t l (length (x ∷ s)))
  lists_side ToEnd x s h = (m, omega arith, (o, tt), rw (add-zero a, drop-length (x ∷ s)))
  lists_side (Bytes n) x s h = go (eqb n 0) refl
    where
      go : (u : Bool) → eqb n 0 ≡ u → Lists a (x ∷ s) (aux (sofar j) t (Bytes n) a (x ∷ s) (boxes m)) (aux_part j t (Bytes n) (length (x ∷ s)))
      go true e = rw (aux, e) (m, omega arith, (o, tt), rw (add-zero a))
      go false e = side_sized n x s (eqb-false n 0 e) h (leb n (length (x ∷ s))) refl

row_is : (w i : ℕ) → sofar (T.row w i) ≡ row (leb 0x80000000 w) i
row_is w i = go (leb 0x80000000 w)
  where
    go : (t : Bool) → sofar (if t JxlpFinished (Jxlp i)) ≡ row t i
    go true = refl
    go false = refl

-- a `jxlp` index
lists_index : (m a i : ℕ) (l : BytesLeft) (s : List ℕ) → length s ≤ m → Lists a s (indexed i l a s (boxes m)) (index_step i l s)
lists_index m a i l s h = go (ltb (length s) 4) refl (eqb (be32 s 0 % 0x80000000) i) refl
  where
    go : (t : Bool) → ltb (length s) 4 ≡ t → (u : Bool) → eqb (be32 s 0 % 0x80000000) i ≡ u → Lists a s (indexed i l a s (boxes m)) (index_step i l s)
    go true e u f = rw (index_wants i l s (ltb-true (length s) 4 e), indexed, e) (still a (at (S.WaitingJxlpIndex l) (Jxlp i)) s (close_index a (Jxlp i) l s))
    go false e true f =
        let four : 4 ≤ length s = ltb-false (length s) 4 e in
        let same : be32 s 0 % 0x80000000 ≡ i = eqb-true (be32 s 0 % 0x80000000) i f in
        let right : over_index (T.row (be32 s 0) i) ≡ false = row_right (be32 s 0) i (omega arith) in
        rw (index_right i l s four same, indexed, e, f, ← row_is (be32 s 0) i)
        (lists_ahead 4 a s _ (code_step (T.row (be32 s 0) i) K.Container (less l 4) (to_end l) (drop 4 s)) four
        (lists_code (T.row (be32 s 0) i) right K.Container refl m (a + 4) (less l 4) (to_end l) (drop 4 s) (omega (arith, length-drop 4 s))))
    go false e false f = rw (index_wrong i l s (ltb-false (length s) 4 e) (eqb-false (be32 s 0 % 0x80000000) i f), indexed, e, f)

-- a `brob` inner type
lists_inner : (m a : ℕ) (j : JxlpIndexState) → over_index j ≡ false → (l : BytesLeft) (s : List ℕ) → length s ≤ m → Lists a s (inner (sofar j) l a s (boxes m)) (inner_step j l s)
lists_inner m a j o l s h = go (ltb (length s) 4) refl (reserved (be32 s 0)) refl
  where
    go : (t : Bool) → ltb (length s) 4 ≡ t → (u : Bool) → reserved (be32 s 0) ≡ u → Lists a s (inner (sofar j) l a s (boxes m)) (inner_step j l s)
    go true e u f = rw (inner_wants j l s (ltb-true (length s) 4 e), inner, e) (still a (at (S.WaitingInnerType l) j) s (close_inner a j l s))
    go false e true f = rw (inner_reserved j l s (ltb-false (length s) 4 e) f, inner, e, f)
    go false e false f = rw (inner_shows j l s (ltb-false (length s) 4 e) f, inner, e, f) (m, omega arith, (o, tt), refl)

-- a box behind its header
module _ (m a : ℕ) (j : JxlpIndexState) (o : over_index j ≡ false) (l : BytesLeft) (s : List ℕ) (h : length s ≤ m) where
  lists_jxlc : (i : JxlpIndexState) → Lists a s (jxlc_box (sofar i) l a s (boxes m)) (jxlc_step i l s)
  lists_jxlc Initial = lists_code SingleJxlc refl K.Container refl m a l (to_end l) s h
  lists_jxlc SingleJxlc = rw (add-zero a)
  lists_jxlc (Jxlp i) = rw (add-zero a)
  lists_jxlc JxlpFinished = rw (add-zero a)

  lists_next : (i : JxlpIndexState) → Lists a s (jxlp_box (sofar i) l a s (boxes m)) (jxlp_next i l s)
  lists_next Initial = lists_index m a 0 l s h
  lists_next SingleJxlc = rw (add-zero a)
  lists_next (Jxlp i) = lists_index m a (i + 1) l s h
  lists_next JxlpFinished = rw (add-zero a)

  lists_box : (t : ℕ) → Lists a s (boxed (sofar j) t l a s (boxes m)) (box_step j t l s)
  lists_box t = go (eqb t jxlc) refl (eqb t jxlp) refl (eqb t brob) refl (under 4 l) refl
    where
      go : (u : Bool) → eqb t jxlc ≡ u → (v : Bool) → eqb t jxlp ≡ v → (w : Bool) → eqb t brob ≡ w → (x : Bool) → under 4 l ≡ x
          → Lists a s (boxed (sofar j) t l a s (boxes m)) (box_step j t l s)
      go true e v f w g x k = rw (box_jxlc j t l s (eqb-true t jxlc e), boxed, e) (lists_jxlc j)
      go false e true f w g true k = rw (box_jxlp j t l s (eqb-true t jxlp f), boxed, e, f, k, add-zero a)
      go false e true f w g false k = rw (box_jxlp j t l s (eqb-true t jxlp f), boxed, e, f, k) (lists_next j)
      go false e false f true g true k = rw (box_brob j t l s (eqb-true t brob g), boxed, e, f, g, k, add-zero a)
      go false e false f true g false k = rw (box_brob j t l s (eqb-true t brob g), boxed, e, f, g, k) (lists_inner m a j o l s h)
      go false e false f false g x k =
          rw (box_aux j t l s (eqb-false t jxlc e) (eqb-false t jxlp f) (eqb-false t brob g), boxed, e, f, g) (m, omega arith, (o, tt), rw (add-zero a))

-- a header
lists_header : (m a : ℕ) (j : JxlpIndexState) → over_index j ≡ false → (s : List ℕ) → length s ≤ m → (g : Header) → header_of s ≡ g
    → Lists a s (boxes m (sofar j) a s) (header_step j s g)
unfolding boxes
lists_header zero a j o s h g e = rw (sym e ∙ header_short s (omega arith)) (still a (at S.WaitingBoxHeader j) s (close_header a j s))
lists_header (suc m) a j o s h short e = rw e (still a (at S.WaitingBoxHeader j) s (close_header a j s))
lists_header (suc m) a j o s h (bad r) e = rw (e, add-zero a)
lists_header (suc m) a j o s h (box t l n) e =
    let fits = header_fits s e in
    rw e (lists_ahead n a s _ (box_step j t l (drop n s)) fits.1 (lists_box m (a + n) j o l (drop n s) (omega (arith, length-drop n s)) t))

-- the signature
lists_bare : (m a : ℕ) (j : JxlpIndexState) → over_index j ≡ false → (k : BitstreamKind) → unknown k ≡ false → (s : List ℕ)
    → Lists a s (bare (sofar j) k a s) (T.bare_step k j)
lists_bare m a j o k u [] = (m, omega arith, (o, u), rw (add-zero a))
lists_bare m a j o k u (x ∷ s) = (length (x ∷ s), omega arith, (o, u), rw (add-zero a))

lists_signature : (m a : ℕ) (j : JxlpIndexState) → over_index j ≡ false → (s : List ℕ) → length s ≤ m → (g : Signature)
    → Lists a s (signed g m (sofar j) a s) (signature_step j g)
lists_signature m a j o s h G.Bare = lists_bare m a j o K.BareCodestream refl s
lists_signature m a j o s h G.Container = (m, omega arith, (o, tt), refl)
lists_signature m a j o s h G.TooShort = still a (at S.WaitingSignature j) s (close_signature a j s)
lists_signature m a j o s h G.Neither = lists_bare m a j o K.Invalid refl s

-- every record that a file leads to, with a byte there
lists_state : (m a : ℕ) (d : DetectState) (j : JxlpIndexState) → impossible_in d j ≡ false → Known d → (x : ℕ) (s : List ℕ) → length (x ∷ s) ≤ m
    → Lists a (x ∷ s) (rest_in m d j a (x ∷ s)) (state_step d j (x ∷ s))
lists_state m a S.WaitingSignature j o u x s h = lists_signature m a j o (x ∷ s) h (signature_of (x ∷ s))
lists_state m a S.WaitingBoxHeader j o u x s h = lists_header m a j o (x ∷ s) h (header_of (x ∷ s)) refl
lists_state m a (S.WaitingJxlpIndex l) j o u x s h = lists_index m a (awaited j) l (x ∷ s) h
lists_state m a (S.WaitingInnerType l) j o u x s h = lists_inner m a j (or_false (over_index j) o).0 l (x ∷ s) h
lists_state m a (S.InAuxBox t l) j o u x s h = lists_side j o t m a l x s h
lists_state m a (S.InCodestream k l pending) j o u x s h = lists_code j o k u m a l pending (x ∷ s) h
lists_state m a (S.Refused k r) j o u x s h = rw (add-zero a)

boxes_none : (m a : ℕ) (c : Codestreams) → boxes m c a [] ≡ wanted (between_boxes c []) a
unfolding boxes
boxes_none zero a c = refl
boxes_none (suc m) a c = rw (header_short [] (omega arith))

-- nothing to come lists nothing, and an end comes to what the record says
rest_none : (m a : ℕ) (d : DetectState) (j : JxlpIndexState) → Known d → refused_in d ≡ false → rest_in m d j a [] ≡ wanted (close_at a (close_of (at d j) [])) a
rest_none m a S.WaitingSignature j u r = rw (is_short_bare [] refl refl refl)
rest_none m a S.WaitingBoxHeader j u r = boxes_none m a (sofar j) ∙ ap (λ (w : Close). wanted w a) (sym (close_header a j []))
rest_none m a (S.WaitingJxlpIndex l) j u r = ap (λ (w : Close). wanted w a) (sym (close_index a j l []))
rest_none m a (S.WaitingInnerType l) j u r = ap (λ (w : Close). wanted w a) (sym (close_inner a j l []))
rest_none m a (S.InAuxBox t l) j u r = ap (λ (w : Close). wanted w a) (sym (close_aux a j t l))
rest_none m a (S.InCodestream k l pending) j u r = ap (λ (w : Close). wanted w a) (sym (close_code a j k l pending u))
rest_none m a (S.Refused k n) j u r = never (sym r)

lists_refused : (m a : ℕ) (d : DetectState) (j : JxlpIndexState) → refused_in d ≡ true → (s : List ℕ) → Lists a s (rest_in m d j a s) (step_of (at d j) s)
lists_refused m a S.WaitingSignature j r s = never r
lists_refused m a S.WaitingBoxHeader j r s = never r
lists_refused m a (S.WaitingJxlpIndex l) j r s = never r
lists_refused m a (S.WaitingInnerType l) j r s = never r
lists_refused m a (S.InAuxBox t l) j r s = never r
lists_refused m a (S.InCodestream k l pending) j r s = never r
lists_refused m a (S.Refused k n) j r s = rw (refused_repeats k n j s, add-zero a)

lists_step : (m a : ℕ) (p : BoxParser) (s : List ℕ) → Led p → length s ≤ m → Lists a s (rest m p a s) (step_of p s)
lists_step m a p [] (i, u) h = go (is_refused p) refl
  where
    go : (t : Bool) → is_refused p ≡ t → Lists a [] (rest m p a []) (step_of p [])
    go true r = lists_refused m a p.state p.jxlp r []
    go false r = rw (step_empty p r) (rest_none m a p.state p.jxlp u r ∙ still a p [] refl)
lists_step m a p (x ∷ s) (i, u) h = rw (step_state p (x ∷ s) (omega arith) i) (lists_state m a p.state p.jxlp i u x s h)

-- a record that refuses every input owes nothing that could be given
pub refused_close : (w : BoxRefusal) (q : BoxParser) (u : List ℕ) → Repeats w q → close_of q u ≡ missing
refused_close w q (x ∷ u) again = refl
refused_close w q [] again = go q.state refl
  where
    waiting : is_refused q ≡ false → ⊥
    waiting e = let waits = step_empty q e in never (cc (again []))

    go : (d : DetectState) → q.state ≡ d → close_of (at d q.jxlp) [] ≡ missing
    go S.WaitingSignature e = absurd (waiting (ap refused_in e))
    go S.WaitingBoxHeader e = absurd (waiting (ap refused_in e))
    go (S.WaitingJxlpIndex l) e = absurd (waiting (ap refused_in e))
    go (S.WaitingInnerType l) e = absurd (waiting (ap refused_in e))
    go (S.InAuxBox t l) e = absurd (waiting (ap refused_in e))
    go (S.InCodestream k l pending) e = absurd (waiting (ap refused_in e))
    go (S.Refused k r) e = if_missing (or (unknown k) (row_open q.jxlp))

-- what is taken of an input is what the grammar lists of it, its end too
pub listed : (m : ℕ) (p : BoxParser) (a : ℕ) (s : List ℕ) {r : Seen} {u : List ℕ} → Led p → length s ≤ m → Takes p a s r u
    → rest m p a s ≡ listing u r
listed m p a s i h (more {q = q} {c = c} {e = e} k t) =
    let step = rw k at (lists_step m a p s i h) in
    step.3 ∙ ap (then (shifted a e)) (listed step.0 q (a + c) (drop c s) step.2 (omega (arith, length-drop c s, step.1)) t)
listed m p a s i h (waits k) = rw k at (lists_step m a p s i h)
listed m p a s i h (Feeding.ends {q = q} {c = c} {w = w} k) =
    let gone : close_of q (drop c s) ≡ missing = refused_close w q (drop c s) (rw k at (every_step p s)).1 in
    (rw k at (lists_step m a p s i h)) ∙ rw gone
