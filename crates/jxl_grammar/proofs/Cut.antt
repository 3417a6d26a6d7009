-- A step on an input and the same step on a longer one: it is the same, or it waits and goes on from where it stands,
-- or it shows a part of a payload that goes on.
use mathlib.Core.Path.{◌≡◌, refl, sym, ap, ◌∙◌}
use mathlib.Core.Bool.{Bool, true, false}
use mathlib.Core.Logic.{◌⊎◌, inl, inr}
use mathlib.Core.List.{List, [], ◌∷◌, ◌++◌, append-nil}
use Prim.Native.Nat.{ℕ, ◌+◌, ◌-◌, ◌%◌, ◌<◌, ◌≤◌, min}
use native.Mathlib.Omega.{arith}
use lib.Dec.{ltb, leb, eqb}
use lib.ListN.{length, drop, length-append}
use lib.Seq.{drop-append-le}
use borrow.Author.Tests.{le-ltb, le-leb, lt-leb, eq-eqb, ne_eqb, ltb-true, ltb-false, leb-true, leb-false, eqb-true, eqb-false}
use Rattle.jxl_headers.specs.Bytes.{if, and, or, be32}
use Rattle.jxl_reach.specs.Reach.{under, less, to_end}
use Rattle.jxl_record.specs.Record.{at, is_refused}
use Rattle.jxl_impossible.specs.Impossible.{over_index, impossible_in, impossible}
use Rattle.jxl_headers.specs.Header.{Header, short, bad, box, header_of}
use Rattle.jxl_signatures.specs.Signature.{signature_of}
use Rattle.jxl_headers.specs.Types.{jxlc, jxlp, brob, reserved}
use Rattle.jxl_grammar.specs.Step.{Told, shows, wants, in_code, code_part, code_step, aux_part, row, index_step, inner_step, jxlc_step, jxlp_next, jxlp_step, brob_step, box_step, header_step, signature_step, state_step, step_of}
use Rattle.jxl_grammar.proofs.Step.{ahead_zero, code_wants, code_pending, code_shows, index_wants, index_right, index_wrong, inner_wants, inner_reserved, inner_shows, box_jxlc, box_jxlp, box_brob, box_aux, step_empty, step_state, step_impossible}
use Rattle.jxl_grammar.proofs.Laws.{stays}
use Rattle.jxl_headers.proofs.Header.{header_fits, header_short}
use Rattle.jxl_signatures.proofs.Which.{is_short_bare}
use Rattle.jxl_signatures.specs.declared.Signature.{Signature}
use Rattle.jxl_signatures.specs.declared.Signature.TheVariants as G
use Rattle.jxl_record.specs.declared.BitstreamKind.{BitstreamKind}
use Rattle.jxl_record.specs.declared.BitstreamKind.TheVariants as K
use Rattle.jxl_reach.specs.declared.BytesLeft.{BytesLeft}
use Rattle.jxl_reach.specs.declared.BytesLeft.TheVariants.{ToEnd, Bytes}
use Rattle.jxl_record.specs.declared.JxlpIndexState.{JxlpIndexState}
use Rattle.jxl_record.specs.declared.JxlpIndexState.TheVariants.{Initial, SingleJxlc, Jxlp, JxlpFinished}
use Rattle.jxl_record.specs.declared.DetectState.{DetectState}
use Rattle.jxl_record.specs.declared.DetectState.TheVariants as S
use Rattle.jxl_record.specs.declared.BoxParser.{BoxParser}
use Rattle.jxl_events.specs.declared.ParseEvent.TheVariants as E
use Rattle.jxl_cuts.specs.Lawful.{Cut as AnyCut, same, grows, later, final}
use Rattle.jxl_cuts.proofs.Ahead.{cut_ahead}
use Rattle.jxl_grammar.specs.Parser.{parser}
use Rattle.jxl_grammar.proofs.Moving.{moves}
use Rattle.jxl_grammar.proofs.MoreInput.{be32_more, header_whole, signature_more}
use Rattle.jxl_base.proofs.Never.{never}

-- what a step told of `a`, and what it tells of a ++ b
abbrev Cut : List ℕ → List ℕ → Told → Told → Type 0
Cut = AnyCut parser

-- a part of n bytes at the front joins what stands at the front of the bytes behind it
code_joins : (n : ℕ) → eqb (0 + n) (n + 0) ≡ true
code_joins n = eq-eqb (0 + n) (n + 0) (omega arith)

aux_joins : (t n : ℕ) → and (eqb t t) (eqb (0 + n) (n + 0)) ≡ true
aux_joins t n = rw (eq-eqb t t refl, code_joins n)

-- a record that a file leads to and that is not refused steps by its state, where its rule wants more of an empty input
step_any : (p : BoxParser) (s : List ℕ) → impossible p ≡ false → is_refused p ≡ false
    → state_step p.state p.jxlp [] ≡ wants p 0 → step_of p s ≡ state_step p.state p.jxlp s
step_any p [] i r e = step_empty p r ∙ sym e
step_any p (x ∷ s) i r e = step_state p (x ∷ s) (omega arith) i

module _ (j : JxlpIndexState) (o : over_index j ≡ false) where
  pub step_code : (k : BitstreamKind) (l : BytesLeft) (pending : Bool) (s : List ℕ) → step_of (in_code k l pending j) s ≡ code_step j k l pending s
  step_code k l pending s = step_any (in_code k l pending j) s o refl (code_wants j k l [] pending (omega arith))

  pub step_header : (s : List ℕ) → step_of (at S.WaitingBoxHeader j) s ≡ header_step j s (header_of s)
  step_header s = step_any (at S.WaitingBoxHeader j) s o refl (rw (header_short [] (omega arith)))

  pub step_signature : (s : List ℕ) → step_of (at S.WaitingSignature j) s ≡ signature_step j (signature_of s)
  step_signature s = step_any (at S.WaitingSignature j) s o refl (rw (is_short_bare [] refl refl refl))

  pub step_inner : (l : BytesLeft) (s : List ℕ) → under 4 l ≡ false → step_of (at (S.WaitingInnerType l) j) s ≡ inner_step j l s
  step_inner l s u = step_any (at (S.WaitingInnerType l) j) s (rw (o, u)) refl (inner_wants j l [] (omega arith))

  pub step_aux : (t : ℕ) (l : BytesLeft) (s : List ℕ) → 0 < length s → step_of (at (S.InAuxBox t l) j) s ≡ aux_part j t l (length s)
  step_aux t l s h = step_state (at (S.InAuxBox t l) j) s h o

pub step_index : (i : ℕ) (l : BytesLeft) (s : List ℕ) → i ≤ 0x80000000 → under 4 l ≡ false → step_of (at (S.WaitingJxlpIndex l) (Jxlp i)) s ≡ index_step i l s
step_index i l s h u = step_any (at (S.WaitingJxlpIndex l) (Jxlp i)) s (rw (le-ltb 0x80000000 i h, u)) refl (index_wants i l [] (omega arith))

-- inside a codestream, with a byte there
module _ (j : JxlpIndexState) (o : over_index j ≡ false) (k : BitstreamKind) where
  -- what a codestream shows of what comes then
  code_on : (l : BytesLeft) (b : List ℕ) → 0 < length b → step_of (in_code k l false j) b ≡ code_part j k l (length b)
  code_on l b h = step_code j o k l false b ∙ code_shows j k l b h

  part_to_end : (a b : List ℕ) → Cut a b (code_part j k ToEnd (length (a ++ b))) (code_part j k ToEnd (length a))
  part_to_end a [] = rw (append-nil a) (same refl)
  part_to_end a (z ∷ b) =
      rw (length-append a (z ∷ b)) (grows refl (code_joins (length a)) (code_on ToEnd (z ∷ b) (omega arith)) refl)

  part_bounded : (m : ℕ) (a b : List ℕ) (t : Bool) → leb m (length a) ≡ t → Cut a b (code_part j k (Bytes m) (length (a ++ b))) (code_part j k (Bytes m) (length a))
  part_bounded m a b true e =
      let fits : m ≤ length (a ++ b) = omega (arith, leb-true m (length a) e, length-append a b) in
      rw (e, le-leb m (length (a ++ b)) fits) (same refl)
  part_bounded m a [] false e = rw (append-nil a, e) (same refl)
  part_bounded m a (z ∷ b) false e = go (leb m (length (a ++ z ∷ b))) refl
    where
      over : length a < m
      over = leb-false m (length a) e

      long : length (a ++ z ∷ b) ≡ length a + length (z ∷ b)
      long = length-append a (z ∷ b)

      go : (t : Bool) → leb m (length (a ++ z ∷ b)) ≡ t → Cut a (z ∷ b) (code_part j k (Bytes m) (length (a ++ z ∷ b))) (code_part j k (Bytes m) (length a))
      go true q =
          let fits : m - length a ≤ length (z ∷ b) = omega (arith, long, leb-true m (length (a ++ z ∷ b)) q) in
          let all : m ≡ length a + (m - length a) = omega (arith, over) in
          let on : step_of (in_code k (Bytes (m - length a)) false j) (z ∷ b) ≡ shows (E.Codestream 0 (m - length a)) (at S.WaitingBoxHeader j) (m - length a) =
          code_on (Bytes (m - length a)) (z ∷ b) (omega arith) ∙ rw (le-leb (m - length a) (length (z ∷ b)) fits) in
          rw (e, q) (grows refl (code_joins (length a)) on (ap (λ (n : ℕ). shows (E.Codestream 0 n) (at S.WaitingBoxHeader j) n) all))
      go false q =
          let more : length (z ∷ b) < m - length a = omega (arith, long, leb-false m (length (a ++ z ∷ b)) q) in
          let left : m - length (a ++ z ∷ b) ≡ m - length a - length (z ∷ b) = omega (arith, long) in
          let on : step_of (in_code k (Bytes (m - length a)) false j) (z ∷ b)
          ≡ shows (E.Codestream 0 (length (z ∷ b))) (in_code k (Bytes (m - length a - length (z ∷ b))) false j) (length (z ∷ b)) =
          code_on (Bytes (m - length a)) (z ∷ b) (omega arith) ∙ rw (lt-leb (m - length a) (length (z ∷ b)) more) in
          rw (e, q, left, long) (grows refl (code_joins (length a)) on refl)

  cut_part : (l : BytesLeft) (a b : List ℕ) → Cut a b (code_part j k l (length (a ++ b))) (code_part j k l (length a))
  cut_part ToEnd a b = part_to_end a b
  cut_part (Bytes m) a b = part_bounded m a b (leb m (length a)) refl

  cut_code : (l : BytesLeft) (pending : Bool) (a b : List ℕ) → Cut a b (code_step j k l pending (a ++ b)) (code_step j k l pending a)
  cut_code l pending [] b =
      rw (code_wants j k l [] pending (omega arith))
      (later (sym (ahead_zero (step_of (in_code k l pending j) b) ∙ step_code j o k l pending b)))
  cut_code l true (x ∷ a) b =
      rw (code_pending j k l (x ∷ a) (omega arith), code_pending j k l (x ∷ (a ++ b)) (omega arith)) (same refl)
  cut_code l false (x ∷ a) b =
      rw (code_shows j k l (x ∷ a) (omega arith), code_shows j k l (x ∷ (a ++ b)) (omega arith)) (cut_part l (x ∷ a) b)

min_split : (m n k : ℕ) → n ≤ m → min m (n + k) ≡ n + min (m - n) k
min_split m n k h = omega arith

sub_split : (m n k : ℕ) → m - (n + k) ≡ m - n - k
sub_split m n k = omega arith

-- inside a side box, with a byte there
module _ (j : JxlpIndexState) (o : over_index j ≡ false) (t : ℕ) where
  side_to_end : (a b : List ℕ) → Cut a b (aux_part j t ToEnd (length (a ++ b))) (aux_part j t ToEnd (length a))
  side_to_end a [] = rw (append-nil a) (same refl)
  side_to_end a (z ∷ b) =
      rw (length-append a (z ∷ b)) (grows refl (aux_joins t (length a)) (step_aux j o t ToEnd (z ∷ b) (omega arith)) refl)

  side_bounded : (m : ℕ) (a b : List ℕ) → (m ≡ 0 → ⊥) → (u : Bool) → leb m (length a) ≡ u
      → Cut a b (aux_part j t (Bytes m) (length (a ++ b))) (aux_part j t (Bytes m) (length a))
  side_bounded m a b z true e =
      let here : min m (length a) ≡ m = omega (arith, leb-true m (length a) e) in
      let there : min m (length (a ++ b)) ≡ m = omega (arith, leb-true m (length a) e, length-append a b) in
      rw (ne_eqb m 0 z, here, there) (same refl)
  side_bounded m a [] z false e = rw (append-nil a, ne_eqb m 0 z) (same refl)
  side_bounded m a (y ∷ b) z false e =
      let over : length a < m = leb-false m (length a) e in
      let long : length (a ++ y ∷ b) ≡ length a + length (y ∷ b) = length-append a (y ∷ b) in
      let here : min m (length a) ≡ length a = omega arith in
      let some : m - length a ≡ 0 → ⊥ = λ e. omega arith in
      let on : step_of (at (S.InAuxBox t (Bytes (m - length a))) j) (y ∷ b)
      ≡ shows (E.AuxBoxData t 0 (min (m - length a) (length (y ∷ b)))) (at (S.InAuxBox t (Bytes (m - length a - min (m - length a) (length (y ∷ b))))) j) (min (m - length a) (length (y ∷ b))) =
      step_aux j o t (Bytes (m - length a)) (y ∷ b) (omega arith) ∙ rw (ne_eqb (m - length a) 0 some) in
      rw (ne_eqb m 0 z, here, long, min_split m (length a) (length (y ∷ b)) (omega arith), sub_split m (length a) (min (m - length a) (length (y ∷ b))))
      (grows refl (aux_joins t (length a)) on refl)

  side_size : (m : ℕ) (a b : List ℕ) (u : Bool) → eqb m 0 ≡ u → Cut a b (aux_part j t (Bytes m) (length (a ++ b))) (aux_part j t (Bytes m) (length a))
  side_size m a b true e = rw e (same refl)
  side_size m a b false e = side_bounded m a b (eqb-false m 0 e) (leb m (length a)) refl

  cut_side : (l : BytesLeft) (a b : List ℕ) → Cut a b (aux_part j t l (length (a ++ b))) (aux_part j t l (length a))
  cut_side ToEnd a b = side_to_end a b
  cut_side (Bytes m) a b = side_size m a b (eqb m 0) refl

-- a list in front of another, behind its first k bytes
behind : (k : ℕ) (a b : List ℕ) → k ≤ length a → drop k (a ++ b) ≡ drop k a ++ b
behind k a b h = drop-append-le k a b h

pub row_right : (w i : ℕ) → i < 0x80000000 → over_index (row w i) ≡ false
row_right w i h = go (leb 0x80000000 w)
  where
    go : (t : Bool) → over_index (if t JxlpFinished (Jxlp i)) ≡ false
    go true = refl
    go false = lt-leb 0x80000000 i h

-- a `jxlp` index
module _ (i : ℕ) (l : BytesLeft) (h : i ≤ 0x80000000) (u : under 4 l ≡ false) where
  index_whole : (a b : List ℕ) → 4 ≤ length a → (t : Bool) → eqb (be32 a 0 % 0x80000000) i ≡ t → Cut a b (index_step i l (a ++ b)) (index_step i l a)
  index_whole a b f true e =
      let word : be32 (a ++ b) 0 ≡ be32 a 0 = be32_more a b 0 (omega arith) in
      let found : be32 a 0 % 0x80000000 ≡ i = eqb-true (be32 a 0 % 0x80000000) i e in
      let long : 4 ≤ length (a ++ b) = omega (arith, length-append a b) in
      let low : i < 0x80000000 = omega arith in
      rw (index_right i l a f found, index_right i l (a ++ b) long (ap (λ (w : ℕ). w % 0x80000000) word ∙ found), word, behind 4 a b f)
      (cut_ahead parser moves 4 a b f (cut_code (row (be32 a 0) i) (row_right (be32 a 0) i low) K.Container (less l 4) (to_end l) (drop 4 a) b))
  index_whole a b f false e =
      let word : be32 (a ++ b) 0 ≡ be32 a 0 = be32_more a b 0 (omega arith) in
      let other = eqb-false (be32 a 0 % 0x80000000) i e in
      let long : 4 ≤ length (a ++ b) = omega (arith, length-append a b) in
      rw (index_wrong i l a f other, index_wrong i l (a ++ b) long (λ q. other (sym (ap (λ (w : ℕ). w % 0x80000000) word) ∙ q)), word) (final refl)

  cut_index : (a b : List ℕ) → Cut a b (index_step i l (a ++ b)) (index_step i l a)
  cut_index a b = go (ltb (length a) 4) refl
    where
      go : (t : Bool) → ltb (length a) 4 ≡ t → Cut a b (index_step i l (a ++ b)) (index_step i l a)
      go true e =
          rw (index_wants i l a (ltb-true (length a) 4 e))
          (later (sym (ahead_zero (step_of (at (S.WaitingJxlpIndex l) (Jxlp i)) (a ++ b)) ∙ step_index i l (a ++ b) h u)))
      go false e = index_whole a b (ltb-false (length a) 4 e) (eqb (be32 a 0 % 0x80000000) i) refl

-- a `brob` inner type
module _ (j : JxlpIndexState) (o : over_index j ≡ false) (l : BytesLeft) (u : under 4 l ≡ false) where
  inner_whole : (a b : List ℕ) → 4 ≤ length a → (t : Bool) → reserved (be32 a 0) ≡ t → Cut a b (inner_step j l (a ++ b)) (inner_step j l a)
  inner_whole a b f true e =
      let word : be32 (a ++ b) 0 ≡ be32 a 0 = be32_more a b 0 (omega arith) in
      let long : 4 ≤ length (a ++ b) = omega (arith, length-append a b) in
      rw (inner_reserved j l a f e, inner_reserved j l (a ++ b) long (ap reserved word ∙ e)) (final refl)
  inner_whole a b f false e =
      let word : be32 (a ++ b) 0 ≡ be32 a 0 = be32_more a b 0 (omega arith) in
      let long : 4 ≤ length (a ++ b) = omega (arith, length-append a b) in
      rw (inner_shows j l a f e, inner_shows j l (a ++ b) long (ap reserved word ∙ e), word) (same refl)

  cut_inner : (a b : List ℕ) → Cut a b (inner_step j l (a ++ b)) (inner_step j l a)
  cut_inner a b = go (ltb (length a) 4) refl
    where
      go : (t : Bool) → ltb (length a) 4 ≡ t → Cut a b (inner_step j l (a ++ b)) (inner_step j l a)
      go true e =
          rw (inner_wants j l a (ltb-true (length a) 4 e))
          (later (sym (ahead_zero (step_of (at (S.WaitingInnerType l) j) (a ++ b)) ∙ step_inner j o l (a ++ b) u)))
      go false e = inner_whole a b (ltb-false (length a) 4 e) (reserved (be32 a 0)) refl

-- a box behind its header
module _ (j : JxlpIndexState) (o : over_index j ≡ false) (l : BytesLeft) where
  cut_jxlc : (i : JxlpIndexState) → i ≡ j → (a b : List ℕ) → Cut a b (jxlc_step i l (a ++ b)) (jxlc_step i l a)
  cut_jxlc Initial q a b = cut_code SingleJxlc refl K.Container l (to_end l) a b
  cut_jxlc SingleJxlc q a b = final refl
  cut_jxlc (Jxlp i) q a b = final refl
  cut_jxlc JxlpFinished q a b = final refl

  cut_next : (i : JxlpIndexState) → i ≡ j → under 4 l ≡ false → (a b : List ℕ) → Cut a b (jxlp_next i l (a ++ b)) (jxlp_next i l a)
  cut_next Initial q u a b = cut_index 0 l (omega arith) u a b
  cut_next SingleJxlc q u a b = final refl
  cut_next (Jxlp i) q u a b = cut_index (i + 1) l (omega (arith, leb-false 0x80000000 i (ap over_index q ∙ o))) u a b
  cut_next JxlpFinished q u a b = final refl

  cut_jxlp : (t : Bool) → under 4 l ≡ t → (a b : List ℕ) → Cut a b (jxlp_step j l (a ++ b)) (jxlp_step j l a)
  cut_jxlp true u a b = rw u (final refl)
  cut_jxlp false u a b = rw u (cut_next j refl u a b)

  cut_brob : (t : Bool) → under 4 l ≡ t → (a b : List ℕ) → Cut a b (brob_step j l (a ++ b)) (brob_step j l a)
  cut_brob true u a b = rw u (final refl)
  cut_brob false u a b = rw u (cut_inner j o l u a b)

  cut_box : (t : ℕ) (a b : List ℕ) → Cut a b (box_step j t l (a ++ b)) (box_step j t l a)
  cut_box t a b = go (eqb t jxlc) refl (eqb t jxlp) refl (eqb t brob) refl
    where
      go : (u : Bool) → eqb t jxlc ≡ u → (v : Bool) → eqb t jxlp ≡ v → (w : Bool) → eqb t brob ≡ w → Cut a b (box_step j t l (a ++ b)) (box_step j t l a)
      go true e v f w g =
          let c = eqb-true t jxlc e in
          rw (box_jxlc j t l a c, box_jxlc j t l (a ++ b) c) (cut_jxlc j refl a b)
      go false e true f w g =
          let c = eqb-true t jxlp f in
          rw (box_jxlp j t l a c, box_jxlp j t l (a ++ b) c) (cut_jxlp (under 4 l) refl a b)
      go false e false f true g =
          let c = eqb-true t brob g in
          rw (box_brob j t l a c, box_brob j t l (a ++ b) c) (cut_brob (under 4 l) refl a b)
      go false e false f false g =
          let c = eqb-false t jxlc e in
          let d = eqb-false t jxlp f in
          let k = eqb-false t brob g in
          rw (box_aux j t l a c d k, box_aux j t l (a ++ b) c d k) (same refl)

-- a header, and the signature
module _ (j : JxlpIndexState) (o : over_index j ≡ false) (a b : List ℕ) where
  cut_header : (h : Header) → header_of a ≡ h → Cut a b (header_step j (a ++ b) (header_of (a ++ b))) (header_step j a h)
  cut_header short e = later (sym (ahead_zero (step_of (at S.WaitingBoxHeader j) (a ++ b)) ∙ step_header j o (a ++ b)))
  cut_header (bad r) e = rw (header_whole a b (λ q. never cc), e) (final refl)
  cut_header (box t l n) e =
      let fits = header_fits a e in
      rw (header_whole a b (λ q. never cc), e, behind n a b fits.1)
      (cut_ahead parser moves n a b fits.1 (cut_box j o l t (drop n a) b))

  cut_signature : (g : Signature) → signature_of a ≡ g → (signature_of a ≡ G.TooShort) ⊎ (signature_of (a ++ b) ≡ signature_of a)
      → Cut a b (signature_step j (signature_of (a ++ b))) (signature_step j g)
  cut_signature G.TooShort e m = later (sym (ahead_zero (step_of (at S.WaitingSignature j) (a ++ b)) ∙ step_signature j o (a ++ b)))
  cut_signature G.Bare e (inl s) = never cc
  cut_signature G.Bare e (inr s) = rw (s, e) (same refl)
  cut_signature G.Container e (inl s) = never cc
  cut_signature G.Container e (inr s) = rw (s, e) (same refl)
  cut_signature G.Neither e (inl s) = never cc
  cut_signature G.Neither e (inr s) = rw (s, e) (same refl)

pub or_false : (t : Bool) {u : Bool} → or t u ≡ false → (t ≡ false) × (u ≡ false)
or_false true e = never (sym e)
or_false false e = (refl, e)

-- a record that a file leads to, with a byte there
cut_state : (d : DetectState) (j : JxlpIndexState) (a b : List ℕ) → impossible_in d j ≡ false → Cut a b (state_step d j (a ++ b)) (state_step d j a)
cut_state S.WaitingSignature j a b o = cut_signature j o a b (signature_of a) refl (signature_more a b)
cut_state S.WaitingBoxHeader j a b o = cut_header j o a b (header_of a) refl
cut_state (S.WaitingJxlpIndex l) Initial a b o = never (sym o)
cut_state (S.WaitingJxlpIndex l) SingleJxlc a b o = never (sym o)
cut_state (S.WaitingJxlpIndex l) (Jxlp i) a b o =
    let both = or_false (ltb 0x80000000 i) o in
    cut_index i l (ltb-false 0x80000000 i both.0) both.1 a b
cut_state (S.WaitingJxlpIndex l) JxlpFinished a b o = never (sym o)
cut_state (S.WaitingInnerType l) j a b o = cut_inner j (or_false (over_index j) o).0 l (or_false (over_index j) o).1 a b
cut_state (S.InAuxBox t l) j a b o = cut_side j o t l a b
cut_state (S.InCodestream k l pending) j a b o = cut_code j o k l pending a b
cut_state (S.Refused k r) j a b o = final refl

-- every record and every input
pub cut_step : (p : BoxParser) (a b : List ℕ) → Cut a b (step_of p (a ++ b)) (step_of p a)
cut_step p a b = go (is_refused p) refl a
  where
    some : (a : List ℕ) → 0 < length a → (t : Bool) → impossible p ≡ t → Cut a b (step_of p (a ++ b)) (step_of p a)
    some a h true i =
        let long : 0 < length (a ++ b) = omega (arith, length-append a b) in
        rw (step_impossible p a h i, step_impossible p (a ++ b) long i) (final refl)
    some a h false i =
        let long : 0 < length (a ++ b) = omega (arith, length-append a b) in
        rw (step_state p a h i, step_state p (a ++ b) long i) (cut_state p.state p.jxlp a b i)

    go : (t : Bool) → is_refused p ≡ t → (a : List ℕ) → Cut a b (step_of p (a ++ b)) (step_of p a)
    go true r a = let again = stays p r in rw (again.1 a, again.1 (a ++ b)) (final refl)
    go false r [] = rw (step_empty p r) (later (sym (ahead_zero (step_of p b))))
    go false r (x ∷ a) = some (x ∷ a) (omega arith) (impossible p) refl
