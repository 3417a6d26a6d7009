-- Where the parser stands in a file, in the words of specs/Places.antt: a predicate on a state, a total and the newest header, carried
-- through all rules of a step on boxes.
use mathlib.Core.Path.{◌≡◌, refl, sym, ap, ◌∙◌, subst}
use mathlib.Core.Bool.{Bool, true, false}
use mathlib.Core.Logic.{inl, inr}
use mathlib.Core.List.{List, [], ◌∷◌}
use Prim.Native.Nat.{ℕ, ◌+◌, ◌-◌, ◌%◌, min}
use native.Mathlib.Nat.{add-zero, add_assoc}
use native.Mathlib.Omega.{arith}
use lib.Dec.{ltb, leb, eqb}
use lib.ListN.{length, drop}
use lib.Seq.{drop-drop}
use borrow.Author.Tests.{ltb-true, ltb-false, leb-false, eqb-true, eqb-false}
use Rattle.jxl_headers.specs.Bytes.{if, and, starts, be32, be64}
use Rattle.jxl_headers.specs.Header.{Header, short, bad, box, header_of, extended}
use Rattle.jxl_headers.specs.Types.{jxlc, jxlp, brob, reserved}
use Rattle.jxl_signatures.specs.Signature.{signature_of, codestream_sig, container_sig}
use Rattle.jxl_signatures.specs.declared.Signature.{Signature}
use Rattle.jxl_signatures.specs.declared.Signature.TheVariants as G
use Rattle.jxl_signatures.proofs.Which.{is_bare, is_short_bare, is_short_container, is_neither}
use Rattle.jxl_reach.specs.Reach.{under, less, to_end}
use Rattle.jxl_reach.specs.declared.BytesLeft.{BytesLeft}
use Rattle.jxl_reach.specs.declared.BytesLeft.TheVariants.{ToEnd, Bytes}
use Rattle.jxl_refusals.specs.declared.BoxRefusal.{BoxRefusal}
use Rattle.jxl_refusals.specs.declared.BoxRefusal.TheVariants as Rule
use Rattle.jxl_record.specs.Record.{at, refused_in}
use Rattle.jxl_impossible.specs.Impossible.{impossible}
use Rattle.jxl_record.specs.declared.BitstreamKind.{BitstreamKind}
use Rattle.jxl_record.specs.declared.BitstreamKind.TheVariants as K
use Rattle.jxl_record.specs.declared.JxlpIndexState.{JxlpIndexState}
use Rattle.jxl_record.specs.declared.JxlpIndexState.TheVariants.{Initial, SingleJxlc, Jxlp, JxlpFinished}
use Rattle.jxl_record.specs.declared.DetectState.{DetectState}
use Rattle.jxl_record.specs.declared.DetectState.TheVariants as S
use Rattle.jxl_record.specs.declared.BoxParser.{BoxParser}
use Rattle.jxl_events.specs.Event.{shifted}
use Rattle.jxl_events.specs.declared.ParseEvent.TheVariants as E
use Rattle.jxl_events.proofs.Shifted.{shifted_shifted}
use Rattle.jxl_grammar.specs.Step.{Told, shows, wants, refuses, refuse, ahead, code_part, code_step, aux_part, row, index_step, inner_step, jxlc_step, jxlp_next, box_step, header_step, signature_step, awaited, state_step, step_of}
use Rattle.jxl_grammar.proofs.Step.{code_wants, code_pending, code_shows, index_wants, index_right, index_wrong, inner_wants, inner_reserved, inner_shows, box_jxlc, box_jxlp, box_brob, box_aux, step_empty, step_state, step_impossible}
use Rattle.jxl_base.proofs.Never.{never}
use Rattle.jxl_totals.specs.Step.{counted, header_next, refusal_of}
use Rattle.jxl_places.specs.Places.{Starts, first, next, Box, GivenAt, Names}

-- the rules that a header breaks are two
pub data HeaderRule : BoxRefusal → Type 0 where
  short_size : HeaderRule Rule.ShortSize
  extended_size : HeaderRule Rule.ExtendedSize

abbrev Ruled : Header → Type 0
Ruled short = Unit {0}
Ruled (bad r) = HeaderRule r
Ruled (box t l n) = Unit {0}

-- a test of a header
ruled_if : (t : Bool) (g h : Header) → Ruled g → Ruled h → Ruled (if t g h)
ruled_if true g h a b = a
ruled_if false g h a b = b

extended_ruled : (s : List ℕ) → Ruled (extended s)
unfolding extended
extended_ruled s =
    let sized : Header = box (be32 s 4) (Bytes (be64 s 8 - 16)) 16 in
    let tested : Header = if (ltb (be64 s 8) 16) (bad Rule.ExtendedSize) sized in
    ruled_if (ltb (length s) 16) short tested tt (ruled_if (ltb (be64 s 8) 16) (bad Rule.ExtendedSize) sized extended_size tt)

header_ruled : (s : List ℕ) → Ruled (header_of s)
unfolding header_of
header_ruled s =
    let sized : Header = box (be32 s 4) (Bytes (be32 s 0 - 8)) 8 in
    let tested : Header = if (ltb (be32 s 0) 8) (bad Rule.ShortSize) sized in
    let ended : Header = if (eqb (be32 s 0) 0) (box (be32 s 4) ToEnd 8) tested in
    ruled_if (ltb (length s) 8) short (if (eqb (be32 s 0) 1) (extended s) ended) tt
    (ruled_if (eqb (be32 s 0) 1) (extended s) ended (extended_ruled s)
    (ruled_if (eqb (be32 s 0) 0) (box (be32 s 4) ToEnd 8) tested tt
    (ruled_if (ltb (be32 s 0) 8) (bad Rule.ShortSize) sized short_size tt)))

header_rule : (s : List ℕ) {r : BoxRefusal} → header_of s ≡ bad r → HeaderRule r
header_rule s e = rw e at (header_ruled s)

-- a container's signature is there
signature_starts : (s : List ℕ) → signature_of s ≡ G.Container → starts container_sig s ≡ true
signature_starts s e =
    go (starts codestream_sig s) refl (starts container_sig s) refl (starts s codestream_sig) refl (starts s container_sig) refl
  where
    go : (t : Bool) → starts codestream_sig s ≡ t → (u : Bool) → starts container_sig s ≡ u
        → (v : Bool) → starts s codestream_sig ≡ v → (w : Bool) → starts s container_sig ≡ w → starts container_sig s ≡ true
    go true a u b v c w d = let one = is_bare s a in cc
    go false a true b v c w d = b
    go false a false b true c w d = let one = is_short_bare s a b c in cc
    go false a false b false c true d = let one = is_short_container s a b c d in cc
    go false a false b false c false d = let one = is_neither s a b c d in cc

-- the newest header behind a step that reads or refuses one: the one that it starts at, or the one before
abbrev pub newer : DetectState → ℕ → ℕ → ℕ
newer d a h = if (and (header_next d) true) a h

module _ (f : List ℕ) where
  -- where what is left of a payload ends, if it does, the next box starts
  abbrev pub Ends : BytesLeft → ℕ → Type 0
  Ends ToEnd a = Unit {0}
  Ends (Bytes m) a = Starts f (a + m)

  -- a state, the bytes consumed and the newest header
  abbrev pub Stands : DetectState → ℕ → ℕ → Type 0
  Stands S.WaitingSignature a h = a ≡ 0
  Stands S.WaitingBoxHeader a h = Starts f a
  Stands (S.WaitingJxlpIndex l) a h = (n : ℕ) × Box f jxlp l h n × (a ≡ h + n) × (under 4 l ≡ false)
  Stands (S.WaitingInnerType l) a h = (n : ℕ) × Box f brob l h n × (a ≡ h + n) × (under 4 l ≡ false)
  Stands (S.InAuxBox t l) a h = Ends l a
  Stands (S.InCodestream k l pending) a h = Ends l a × (pending ≡ true → GivenAt f a E.NoMoreAuxBox)
  Stands (S.Refused k r) a h = ⊥

  -- what a step tells of the input at a, where the newest header, if the step reads or refuses one, is at h
  abbrev pub Tells : ℕ → ℕ → Told → Type 0
  Tells a h (shows e q c) = GivenAt f (a + c) (shifted a e) × Stands q.state (a + c) h
  Tells a h (wants q c) = Stands q.state (a + c) h
  Tells a h (refuses r q c) = Names f (refusal_of r (counted q (a + c) h))

  -- at a header the newest one does not matter
  pub stands_next : (d : DetectState) (a h k : ℕ) → header_next d ≡ true → Stands d a h → Stands d a k
  stands_next S.WaitingSignature a h k e i = never e
  stands_next S.WaitingBoxHeader a h k e i = i
  stands_next (S.WaitingJxlpIndex l) a h k e i = never e
  stands_next (S.WaitingInnerType l) a h k e i = never e
  stands_next (S.InAuxBox t l) a h k e i = never e
  stands_next (S.InCodestream x l pending) a h k e i = never e
  stands_next (S.Refused x r) a h k e i = never e

  -- nothing consumed
  stands_still : (d : DetectState) (a h : ℕ) → Stands d a h → Stands d (a + 0) h
  stands_still d a h i = subst (λ (x : ℕ). Stands d x h) (sym (add-zero a)) i

  tells_ahead : (a n h : ℕ) (t : Told) → Tells (a + n) h t → Tells a h (ahead n t)
  tells_ahead a n h (shows e q c) (g, i) = (
    subst (GivenAt f (a + (n + c))) (sym (shifted_shifted a n e)) (subst (λ (x : ℕ). GivenAt f x (shifted (a + n) e)) (add_assoc a n c) g),
    subst (λ (x : ℕ). Stands q.state x h) (add_assoc a n c) i,
  )
  tells_ahead a n h (wants q c) i = subst (λ (x : ℕ). Stands q.state x h) (add_assoc a n c) i
  tells_ahead a n h (refuses r q c) i = subst (λ (x : ℕ). Names f (refusal_of r (counted q x h))) (add_assoc a n c) i

  -- where a payload ends, behind the header and behind four bytes more
  module _ {t h n a : ℕ} where
    ends_box : (l : BytesLeft) → Box f t l h n → a ≡ h + n → Ends l a
    ends_box ToEnd b e = tt
    ends_box (Bytes m) b e =
        let sum : h + n + m ≡ a + m = omega arith in
        subst (Starts f) sum (next b.0 b.1)

    ends_four : (l : BytesLeft) → Box f t l h n → a ≡ h + n → under 4 l ≡ false → Ends (less l 4) (a + 4)
    ends_four ToEnd b e u = tt
    ends_four (Bytes m) b e u =
        let sum : h + n + m ≡ a + 4 + (m - 4) = omega (arith, ltb-false m 4 u) in
        subst (Starts f) sum (next b.0 b.1)

  -- a codestream to the end
  module _ {h n a : ℕ} where
    last_box : (l : BytesLeft) → Box f jxlc l h n → a ≡ h + n → to_end l ≡ true → GivenAt f a E.NoMoreAuxBox
    last_box ToEnd b e k = inr (inl (h, n, b, e))
    last_box (Bytes m) b e k = never k

    last_four : (l : BytesLeft) → Box f jxlp l h n → a ≡ h + n → to_end l ≡ true → GivenAt f (a + 4) E.NoMoreAuxBox
    last_four ToEnd b e k = inr (inr (h, n, b, omega arith))
    last_four (Bytes m) b e k = never k

  module _ (a h : ℕ) where
    tells_part : (j : JxlpIndexState) (k : BitstreamKind) (l : BytesLeft) (n : ℕ) → Ends l a → Tells a h (code_part j k l n)
    tells_part j k ToEnd n i = (omega arith, (tt, λ e. never e))
    tells_part j k (Bytes m) n i = go (leb m n) refl
      where
        go : (t : Bool) → leb m n ≡ t → Tells a h (if t (shows (E.Codestream 0 m) (at S.WaitingBoxHeader j) m) (shows (E.Codestream 0 n) (at (S.InCodestream k (Bytes (m - n)) false) j) n))
        go true e = (omega arith, i)
        go false e =
            let sum : a + m ≡ a + n + (m - n) = omega (arith, leb-false m n e) in
            (omega arith, (subst (Starts f) sum i, λ e. never e))

    tells_code : (j : JxlpIndexState) (k : BitstreamKind) (l : BytesLeft) (pending : Bool) (s : List ℕ) → Ends l a
        → (pending ≡ true → GivenAt f a E.NoMoreAuxBox) → Tells a h (code_step j k l pending s)
    tells_code j k l pending [] i o = rw (code_wants j k l [] pending (omega arith)) (stands_still (S.InCodestream k l pending) a h (i, o))
    tells_code j k l true (x ∷ s) i o =
        rw (code_pending j k l (x ∷ s) (omega arith))
        (subst (λ (x : ℕ). GivenAt f x E.NoMoreAuxBox) (sym (add-zero a)) (o refl), stands_still (S.InCodestream k l false) a h (i, λ e. never e))
    tells_code j k l false (x ∷ s) i o = rw (code_shows j k l (x ∷ s) (omega arith)) (tells_part j k l (length (x ∷ s)) i)

    tells_aux : (j : JxlpIndexState) (t : ℕ) (l : BytesLeft) (n : ℕ) → Ends l a → Tells a h (aux_part j t l n)
    tells_aux j t ToEnd n i = (omega arith, tt)
    tells_aux j t (Bytes m) n i = go (eqb m 0) refl
      where
        go : (u : Bool) → eqb m 0 ≡ u → Tells a h (if u (shows (E.AuxBoxEnd t) (at S.WaitingBoxHeader j) 0) (shows (E.AuxBoxData t 0 (min m n)) (at (S.InAuxBox t (Bytes (m - min m n))) j) (min m n)))
        go true e = let there = subst (λ (x : ℕ). Starts f (a + x)) (eqb-true m 0 e) i in (there, there)
        go false e =
            let sum : a + m ≡ a + min m n + (m - min m n) = omega arith in
            (omega arith, subst (Starts f) sum i)

  -- behind four bytes of a payload, that are there or not
  module _ (a h n : ℕ) (l : BytesLeft) (e : a ≡ h + n) (u : under 4 l ≡ false) where
    tells_index : Box f jxlp l h n → (i : ℕ) (s : List ℕ) → Tells a h (index_step i l s)
    tells_index b i s = go (ltb (length s) 4) refl (eqb (be32 s 0 % 0x80000000) i) refl
      where
        go : (t : Bool) → ltb (length s) 4 ≡ t → (v : Bool) → eqb (be32 s 0 % 0x80000000) i ≡ v → Tells a h (index_step i l s)
        go true x v y = rw (index_wants i l s (ltb-true (length s) 4 x)) (stands_still (S.WaitingJxlpIndex l) a h (n, b, e, u))
        go false x true y =
            let j = row (be32 s 0) i in
            rw (index_right i l s (ltb-false (length s) 4 x) (eqb-true (be32 s 0 % 0x80000000) i y))
            (tells_ahead a 4 h (code_step j K.Container (less l 4) (to_end l) (drop 4 s))
            (tells_code (a + 4) h j K.Container (less l 4) (to_end l) (drop 4 s) (ends_four l b e u) (last_four l b e)))
        go false x false y =
            rw (index_wrong i l s (ltb-false (length s) 4 x) (eqb-false (be32 s 0 % 0x80000000) i y)) (l, n, b, omega arith)

    tells_inner : Box f brob l h n → (j : JxlpIndexState) (s : List ℕ) → s ≡ drop a f → Tells a h (inner_step j l s)
    tells_inner b j s there = go (ltb (length s) 4) refl (reserved (be32 s 0)) refl
      where
        word : be32 (drop (h + n) f) 0 ≡ be32 s 0
        word = ap (λ (x : ℕ). be32 (drop x f) 0) (sym e) ∙ ap (λ (x : List ℕ). be32 x 0) (sym there)

        go : (t : Bool) → ltb (length s) 4 ≡ t → (v : Bool) → reserved (be32 s 0) ≡ v → Tells a h (inner_step j l s)
        go true x v y = rw (inner_wants j l s (ltb-true (length s) 4 x)) (stands_still (S.WaitingInnerType l) a h (n, b, e, u))
        go false x true y = rw (inner_reserved j l s (ltb-false (length s) 4 x) y) (l, n, b, omega arith)
        go false x false y =
            rw (inner_shows j l s (ltb-false (length s) 4 x) y)
            ((l, h, n, b, omega arith, word, refl), ends_four l b e u)

  -- a box, behind its header
  module _ (a h n : ℕ) (l : BytesLeft) (e : a ≡ h + n) where
    tells_jxlc : Box f jxlc l h n → (j : JxlpIndexState) (s : List ℕ) → Tells a h (jxlc_step j l s)
    tells_jxlc b Initial s = tells_code a h SingleJxlc K.Container l (to_end l) s (ends_box l b e) (last_box l b e)
    tells_jxlc b SingleJxlc s = (l, n, b, omega arith)
    tells_jxlc b (Jxlp i) s = (l, n, b, omega arith)
    tells_jxlc b JxlpFinished s = (l, n, b, omega arith)

    tells_jxlp : Box f jxlp l h n → under 4 l ≡ false → (j : JxlpIndexState) (s : List ℕ) → Tells a h (jxlp_next j l s)
    tells_jxlp b u Initial s = tells_index a h n l e u b 0 s
    tells_jxlp b u SingleJxlc s = (l, n, b, omega arith)
    tells_jxlp b u (Jxlp i) s = tells_index a h n l e u b (i + 1) s
    tells_jxlp b u JxlpFinished s = (l, n, b, omega arith)

    tells_box : (j : JxlpIndexState) (t : ℕ) (s : List ℕ) → Box f t l h n → s ≡ drop a f → Tells a h (box_step j t l s)
    tells_box j t s b there = go (eqb t jxlc) refl (eqb t jxlp) refl (eqb t brob) refl
      where
        small_jxlp : Box f jxlp l h n → (x : Bool) → under 4 l ≡ x → Tells a h (if x (refuse Rule.JxlpTooSmall (at S.WaitingBoxHeader j) 0) (jxlp_next j l s))
        small_jxlp c true x = (l, n, c, omega arith)
        small_jxlp c false x = tells_jxlp c x j s

        small_brob : Box f brob l h n → (x : Bool) → under 4 l ≡ x → Tells a h (if x (refuse Rule.BrobTooSmall (at S.WaitingBoxHeader j) 0) (inner_step j l s))
        small_brob c true x = (l, n, c, omega arith)
        small_brob c false x = tells_inner a h n l e x c j s there

        typed : (x : ℕ) → t ≡ x → Box f x l h n
        typed x y = subst (λ (z : ℕ). Box f z l h n) y b

        go : (u : Bool) → eqb t jxlc ≡ u → (v : Bool) → eqb t jxlp ≡ v → (w : Bool) → eqb t brob ≡ w → Tells a h (box_step j t l s)
        go true x v y w z = let same = eqb-true t jxlc x in rw (box_jxlc j t l s same) (tells_jxlc (typed jxlc same) j s)
        go false x true y w z = let same = eqb-true t jxlp y in rw (box_jxlp j t l s same) (small_jxlp (typed jxlp same) (under 4 l) refl)
        go false x false y true z = let same = eqb-true t brob z in rw (box_brob j t l s same) (small_brob (typed brob same) (under 4 l) refl)
        go false x false y false z =
            rw (box_aux j t l s (eqb-false t jxlc x) (eqb-false t jxlp y) (eqb-false t brob z))
            ((l, (h, n, b, omega arith), refl), ends_box l b (omega arith))

  module _ (a : ℕ) (s : List ℕ) (there : s ≡ drop a f) where
    tells_header : Starts f a → (j : JxlpIndexState) (g : Header) → header_of s ≡ g → Tells a a (header_step j s g)
    tells_header i j short e = stands_still S.WaitingBoxHeader a a i
    tells_header i j (bad r) e = go r (header_rule s e) (ap header_of (sym there) ∙ e)
      where
        go : (r : BoxRefusal) → HeaderRule r → header_of (drop a f) ≡ bad r → Tells a a (refuse r (at S.WaitingBoxHeader j) 0)
        go Rule.ShortSize short_size k = (i, k, omega arith)
        go Rule.ExtendedSize extended_size k = (i, k, omega arith)
        go Rule.SecondJxlc r k = elim r [ ]
        go Rule.JxlcAfterJxlp r k = elim r [ ]
        go Rule.JxlpTooSmall r k = elim r [ ]
        go Rule.JxlpAfterJxlc r k = elim r [ ]
        go Rule.JxlpAfterLast r k = elim r [ ]
        go (Rule.WrongIndex _ _) r k = elim r [ ]
        go Rule.BrobTooSmall r k = elim r [ ]
        go Rule.ImpossibleRecord r k = elim r [ ]
        go Rule.ValidationFailed r k = elim r [ ]
        go Rule.StreamLimit r k = elim r [ ]
        go Rule.CutShort r k = elim r [ ]
        go Rule.Closed r k = elim r [ ]
    tells_header i j (box t l n) e =
        let behind : drop n s ≡ drop (a + n) f = ap (drop n) there ∙ drop-drop n a f in
        tells_ahead a n a (box_step j t l (drop n s)) (tells_box (a + n) a n l refl j t (drop n s) (i, ap header_of (sym there) ∙ e) behind)

    tells_signature : (h : ℕ) → a ≡ 0 → (j : JxlpIndexState) (g : Signature) → signature_of s ≡ g → Tells a h (signature_step j g)
    tells_signature h z j G.Bare e = (omega arith, (tt, λ _. inl (omega arith)))
    tells_signature h z j G.Container e =
        let whole : s ≡ f = there ∙ ap (λ (x : ℕ). drop x f) z in
        let sum : 12 ≡ a + 12 = omega arith in
        (omega arith, subst (Starts f) sum (first (ap (starts container_sig) (sym whole) ∙ signature_starts s e)))
    tells_signature h z j G.TooShort e = omega arith
    tells_signature h z j G.Neither e = (omega arith, (tt, λ _. inl (omega arith)))

    tells_state : (d : DetectState) (j : JxlpIndexState) (h : ℕ) → Stands d a h → Tells a (newer d a h) (state_step d j s)
    tells_state S.WaitingSignature j h i = tells_signature h i j (signature_of s) refl
    tells_state S.WaitingBoxHeader j h i = tells_header i j (header_of s) refl
    tells_state (S.WaitingJxlpIndex l) j h (n, b, e, u) = tells_index a h n l e u b (awaited j) s
    tells_state (S.WaitingInnerType l) j h (n, b, e, u) = tells_inner a h n l e u b j s there
    tells_state (S.InAuxBox t l) j h i = tells_aux a h j t l (length s) i
    tells_state (S.InCodestream k l pending) j h (i, o) = tells_code a h j k l pending s i o
    tells_state (S.Refused k r) j h i = absurd i

  -- no file leads to a refused record but by a refusal
  stands_open : (d : DetectState) (a h : ℕ) → Stands d a h → refused_in d ≡ false
  stands_open S.WaitingSignature a h i = refl
  stands_open S.WaitingBoxHeader a h i = refl
  stands_open (S.WaitingJxlpIndex l) a h i = refl
  stands_open (S.WaitingInnerType l) a h i = refl
  stands_open (S.InAuxBox t l) a h i = refl
  stands_open (S.InCodestream k l pending) a h i = refl
  stands_open (S.Refused k r) a h i = absurd i

  -- every step
  pub tells : (p : BoxParser) (a h : ℕ) (s : List ℕ) → s ≡ drop a f → Stands p.state a h → Tells a (newer p.state a h) (step_of p s)
  tells p a h s there i = go s there (impossible p) refl
    where
      still : (t : Bool) → header_next p.state ≡ t → Stands p.state a (newer p.state a h)
      still true e = stands_next p.state a h (newer p.state a h) e i
      still false e = rw e i

      go : (s : List ℕ) → s ≡ drop a f → (u : Bool) → impossible p ≡ u → Tells a (newer p.state a h) (step_of p s)
      go [] there u e = rw (step_empty p (stands_open p.state a h i)) (stands_still p.state a (newer p.state a h) (still (header_next p.state) refl))
      go (x ∷ s) there true e = rw (step_impossible p (x ∷ s) (omega arith) e) refl
      go (x ∷ s) there false e = rw (step_state p (x ∷ s) (omega arith) e) (tells_state a (x ∷ s) there p.state p.jxlp h i)
