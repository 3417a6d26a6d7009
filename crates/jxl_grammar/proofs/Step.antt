-- What each way through a step says: first of the rules themselves, then of input that stands at `at`.
use mathlib.Core.Path.{◌≡◌, refl, sym, ap, ◌∙◌}
use mathlib.Core.Bool.{Bool, true, false}
use mathlib.Core.List.{List, [], ◌∷◌}
use Prim.Native.Nat.{ℕ, suc, ◌+◌, ◌-◌, ◌%◌, ◌<◌, ◌≤◌}
use native.Mathlib.Nat.{add-zero, zero-add, add_assoc}
use native.Mathlib.Omega.{arith}
use lib.Dec.{ltb, leb, eqb}
use lib.ListN.{length, get_or, take, drop, length-drop}
use lib.Seq.{get_or-drop, drop-drop}
use borrow.Author.Tests.{lt-ltb, le-ltb, le-leb, lt-leb, eq-eqb, ne_eqb}
use Rattle.jxl_cuts.proofs.Ahead.{ahead_twice}
use Rattle.jxl_events.proofs.Shifted.{shifted_zero, shifted_shifted}
use Rattle.jxl_headers.specs.Bytes.{be32, empty}
use Rattle.jxl_reach.specs.Reach.{less, to_end}
use Rattle.jxl_record.specs.Record.{at, refused_in, is_refused}
use Rattle.jxl_impossible.specs.Impossible.{impossible_in, impossible}
use Rattle.jxl_headers.specs.Types.{jxlc, jxlp, brob, reserved}
use Rattle.jxl_grammar.specs.Step.{Told, shows, wants, refuses, refuse, ahead, in_code, code_part, code_step, row, index_step, inner_step, jxlc_step, jxlp_step, brob_step, box_step, state_step, step_of}
use Rattle.jxl_events.specs.Event.{shifted}
use Rattle.jxl_record.specs.declared.BitstreamKind.{BitstreamKind}
use Rattle.jxl_record.specs.declared.BitstreamKind.TheVariants as K
use Rattle.jxl_reach.specs.declared.BytesLeft.{BytesLeft}
use Rattle.jxl_record.specs.declared.JxlpIndexState.{JxlpIndexState}
use Rattle.jxl_record.specs.declared.JxlpIndexState.TheVariants.{Jxlp}
use Rattle.jxl_record.specs.declared.DetectState.{DetectState}
use Rattle.jxl_record.specs.declared.DetectState.TheVariants as S
use Rattle.jxl_record.specs.declared.BoxParser.{BoxParser}
use Rattle.jxl_refusals.specs.declared.BoxRefusal.TheVariants.{WrongIndex, ImpossibleRecord, ValidationFailed}
use Rattle.jxl_events.specs.declared.ParseEvent.TheVariants as E

pub ahead_zero : (t : Told) → ahead 0 t ≡ t
ahead_zero (shows e p c) = rw (shifted_zero e, zero-add c)
ahead_zero (wants p c) = rw (zero-add c)
ahead_zero (refuses r p c) = rw (zero-add c)

pub ahead_ahead : (n m : ℕ) (t : Told) → ahead n (ahead m t) ≡ ahead (n + m) t
ahead_ahead = ahead_twice shifted shifted_shifted

pub empty_yes : (s : List ℕ) → length s ≤ 0 → empty s ≡ true
empty_yes [] h = refl
empty_yes (x ∷ s) h = absurd (omega arith)

pub empty_no : (s : List ℕ) → 0 < length s → empty s ≡ false
empty_no [] h = absurd (omega arith)
empty_no (x ∷ s) h = refl

pub be32_drop : (s : List ℕ) (n : ℕ) → be32 (drop n s) 0 ≡ be32 s n
be32_drop s n = simp (get_or-drop, add-zero)

-- the rules
module _ (j : JxlpIndexState) (k : BitstreamKind) (l : BytesLeft) (s : List ℕ) where
  pub code_wants : (pending : Bool) → length s ≤ 0 → code_step j k l pending s ≡ wants (in_code k l pending j) 0
  unfolding code_step
  code_wants pending h = rw (empty_yes s h)

  pub code_pending : 0 < length s → code_step j k l true s ≡ shows E.NoMoreAuxBox (in_code k l false j) 0
  unfolding code_step
  code_pending h = rw (empty_no s h)

  pub code_shows : 0 < length s → code_step j k l false s ≡ code_part j k l (length s)
  unfolding code_step
  code_shows h = rw (empty_no s h)

module _ (i : ℕ) (l : BytesLeft) (s : List ℕ) where
  pub index_wants : length s < 4 → index_step i l s ≡ wants (at (S.WaitingJxlpIndex l) (Jxlp i)) 0
  unfolding index_step
  index_wants h = rw (lt-ltb (length s) 4 h)

  pub index_right : 4 ≤ length s → be32 s 0 % 0x80000000 ≡ i
      → index_step i l s ≡ ahead 4 (code_step (row (be32 s 0) i) K.Container (less l 4) (to_end l) (drop 4 s))
  unfolding index_step
  index_right h e = rw (le-ltb (length s) 4 h, eq-eqb (be32 s 0 % 0x80000000) i e)

  pub index_wrong : 4 ≤ length s → (be32 s 0 % 0x80000000 ≡ i → ⊥) → index_step i l s ≡ refuse (WrongIndex (be32 s 0 % 0x80000000) i) (at (S.WaitingJxlpIndex l) (Jxlp i)) 4
  unfolding index_step
  index_wrong h n = rw (le-ltb (length s) 4 h, ne_eqb (be32 s 0 % 0x80000000) i n)

module _ (j : JxlpIndexState) (l : BytesLeft) (s : List ℕ) where
  pub inner_wants : length s < 4 → inner_step j l s ≡ wants (at (S.WaitingInnerType l) j) 0
  unfolding inner_step
  inner_wants h = rw (lt-ltb (length s) 4 h)

  pub inner_reserved : 4 ≤ length s → reserved (be32 s 0) ≡ true → inner_step j l s ≡ refuse ValidationFailed (at (S.WaitingInnerType l) j) 4
  unfolding inner_step
  inner_reserved h e = rw (le-ltb (length s) 4 h, e)

  pub inner_shows : 4 ≤ length s → reserved (be32 s 0) ≡ false
      → inner_step j l s ≡ shows (E.AuxBoxStart (be32 s 0) true (to_end l)) (at (S.InAuxBox (be32 s 0) (less l 4)) j) 4
  unfolding inner_step
  inner_shows h e = rw (le-ltb (length s) 4 h, e)

-- the same of input that stands n bytes further on
module _ (s : List ℕ) (n : ℕ) where
  rest_is : length (drop n s) ≡ length s - n
  rest_is = length-drop n s

  pub far_code_wants : (j : JxlpIndexState) (k : BitstreamKind) (l : BytesLeft) (pending : Bool) → length s ≤ n
      → ahead n (code_step j k l pending (drop n s)) ≡ wants (in_code k l pending j) n
  far_code_wants j k l pending h = rw (code_wants j k l (drop n s) pending (omega (arith, rest_is)), add-zero n)

  pub far_code_pending : (j : JxlpIndexState) (k : BitstreamKind) (l : BytesLeft) (pending : Bool) → n < length s → pending ≡ true
      → ahead n (code_step j k l pending (drop n s)) ≡ shows E.NoMoreAuxBox (in_code k l false j) n
  far_code_pending j k l pending h e = rw (e, code_pending j k l (drop n s) (omega (arith, rest_is)), add-zero n)

  pub far_code_shows : (j : JxlpIndexState) (k : BitstreamKind) (l : BytesLeft) (pending : Bool) → n < length s → pending ≡ false
      → ahead n (code_step j k l pending (drop n s)) ≡ ahead n (code_part j k l (length s - n))
  far_code_shows j k l pending h e = rw (e, code_shows j k l (drop n s) (omega (arith, rest_is)), rest_is)

  pub far_index_wants : (i : ℕ) (l : BytesLeft) → length s - n < 4 → ahead n (index_step i l (drop n s)) ≡ wants (at (S.WaitingJxlpIndex l) (Jxlp i)) n
  far_index_wants i l h = rw (index_wants i l (drop n s) (omega (arith, rest_is)), add-zero n)

  pub far_index_right : (i : ℕ) (l : BytesLeft) → 4 ≤ length s - n → be32 s n % 0x80000000 ≡ i
      → ahead n (index_step i l (drop n s)) ≡ ahead (n + 4) (code_step (row (be32 s n) i) K.Container (less l 4) (to_end l) (drop (n + 4) s))
  far_index_right i l h e =
      rw (index_right i l (drop n s) (omega (arith, rest_is)) (ap (λ (w : ℕ). w % 0x80000000) (be32_drop s n) ∙ e), be32_drop s n, drop-drop 4 n s)
      (ahead_ahead n 4 (code_step (row (be32 s n) i) K.Container (less l 4) (to_end l) (drop (n + 4) s)))

  pub far_index_wrong : (i : ℕ) (l : BytesLeft) → 4 ≤ length s - n → (be32 s n % 0x80000000 ≡ i → ⊥)
      → ahead n (index_step i l (drop n s)) ≡ refuse (WrongIndex (be32 s n % 0x80000000) i) (at (S.WaitingJxlpIndex l) (Jxlp i)) (n + 4)
  far_index_wrong i l h d =
      rw (index_wrong i l (drop n s) (omega (arith, rest_is)) (λ e. d (sym (ap (λ (w : ℕ). w % 0x80000000) (be32_drop s n)) ∙ e)), be32_drop s n)

  pub far_inner_wants : (j : JxlpIndexState) (l : BytesLeft) → length s - n < 4 → ahead n (inner_step j l (drop n s)) ≡ wants (at (S.WaitingInnerType l) j) n
  far_inner_wants j l h = rw (inner_wants j l (drop n s) (omega (arith, rest_is)), add-zero n)

  pub far_inner_reserved : (j : JxlpIndexState) (l : BytesLeft) → 4 ≤ length s - n → reserved (be32 s n) ≡ true
      → ahead n (inner_step j l (drop n s)) ≡ refuse ValidationFailed (at (S.WaitingInnerType l) j) (n + 4)
  far_inner_reserved j l h e = rw (inner_reserved j l (drop n s) (omega (arith, rest_is)) (ap reserved (be32_drop s n) ∙ e))

  pub far_inner_shows : (j : JxlpIndexState) (l : BytesLeft) → 4 ≤ length s - n → reserved (be32 s n) ≡ false
      → ahead n (inner_step j l (drop n s)) ≡ shows (E.AuxBoxStart (be32 s n) true (to_end l)) (at (S.InAuxBox (be32 s n) (less l 4)) j) (n + 4)
  far_inner_shows j l h e =
      rw (inner_shows j l (drop n s) (omega (arith, rest_is)) (ap reserved (be32_drop s n) ∙ e), be32_drop s n)

-- a box of each type
module _ (j : JxlpIndexState) (t : ℕ) (l : BytesLeft) (s : List ℕ) where
  pub box_jxlc : t ≡ jxlc → box_step j t l s ≡ jxlc_step j l s
  unfolding box_step
  box_jxlc e = rw e

  pub box_jxlp : t ≡ jxlp → box_step j t l s ≡ jxlp_step j l s
  unfolding box_step
  box_jxlp e = rw e

  pub box_brob : t ≡ brob → box_step j t l s ≡ brob_step j l s
  unfolding box_step
  box_brob e = rw e

  pub box_aux : (t ≡ jxlc → ⊥) → (t ≡ jxlp → ⊥) → (t ≡ brob → ⊥) → box_step j t l s ≡ shows (E.AuxBoxStart t false (to_end l)) (at (S.InAuxBox t l) j) 0
  unfolding box_step
  box_aux a b c = rw (ne_eqb t jxlc a, ne_eqb t jxlp b, ne_eqb t brob c)

-- a refused record is not one of those that no file leads to
refused_possible_in : (d : DetectState) (j : JxlpIndexState) → refused_in d ≡ true → impossible_in d j ≡ false
refused_possible_in S.WaitingSignature j e = cc
refused_possible_in S.WaitingBoxHeader j e = cc
refused_possible_in (S.WaitingJxlpIndex l) j e = cc
refused_possible_in (S.WaitingInnerType l) j e = cc
refused_possible_in (S.InAuxBox t l) j e = cc
refused_possible_in (S.InCodestream k l b) j e = cc
refused_possible_in (S.Refused k r) j e = refl

pub refused_possible : (p : BoxParser) → is_refused p ≡ true → impossible p ≡ false
refused_possible p e = refused_possible_in p.state p.jxlp e

-- the whole step
module _ (p : BoxParser) where
  pub step_empty : is_refused p ≡ false → step_of p [] ≡ wants p 0
  unfolding step_of
  step_empty e = rw e

  pub step_empty_refused : is_refused p ≡ true → step_of p [] ≡ state_step p.state p.jxlp []
  unfolding step_of
  step_empty_refused e = rw (e, refused_possible p e)

  pub step_impossible : (s : List ℕ) → 0 < length s → impossible p ≡ true → step_of p s ≡ refuse ImpossibleRecord p 0
  unfolding step_of
  step_impossible s h e = rw (empty_no s h, e)

  pub step_state : (s : List ℕ) → 0 < length s → impossible p ≡ false → step_of p s ≡ state_step p.state p.jxlp s
  unfolding step_of
  step_state s h e = rw (empty_no s h, e)

-- an input of no bytes
pub none : (s : List ℕ) → length s ≡ 0 → s ≡ []
none [] h = refl
none (x ∷ s) h = absurd (omega arith)
