-- The parser that counts keeps the laws of jxl_cuts, since the rules on boxes do.
use mathlib.Core.Path.{◌≡◌, refl, sym, ap, ◌∙◌, subst}
use mathlib.Core.Bool.{Bool, true, false}
use mathlib.Core.Logic.{◌⊎◌, inl, inr}
use mathlib.Core.List.{List, [], ◌++◌}
use Prim.Native.Nat.{ℕ, ◌+◌, ◌-◌, ◌<◌, ◌≤◌}
use native.Mathlib.Nat.{add_assoc}
use native.Mathlib.Omega.{arith}
use lib.Dec.{ltb, eqb}
use lib.ListN.{length, take, drop, length-append, length-take, length-drop, drop_of_length-le}
use lib.Seq.{take-nil, take-append-le, take-append-add}
use borrow.Author.Tests.{ltb-true, ltb-false, lt-ltb, le-ltb, eqb-true, eq-eqb}
use Rattle.jxl_headers.specs.Bytes.{if}
use Rattle.jxl_refusals.specs.declared.BoxRefusal.{BoxRefusal}
use Rattle.jxl_refusals.specs.declared.BoxRefusal.TheVariants.{StreamLimit}
use Rattle.jxl_record.specs.declared.BoxParser.{BoxParser}
use Rattle.jxl_events.specs.Event.{shifted, payload}
use Rattle.jxl_events.specs.Total.{carrying, EndsAt}
use Rattle.jxl_events.specs.declared.ParseEvent.{ParseEvent}
use Rattle.jxl_events.specs.declared.ParseEvent.TheVariants as E
use Rattle.jxl_events.specs.declared.FileEvent.{FileEvent}
use Rattle.jxl_parts.specs.Joined.{code_at, aux_at, joins}
use Rattle.jxl_cuts.specs.Machine.{Payload, none, bytes, Inside, ahead}
use Rattle.jxl_cuts.specs.Lawful.{Open, Repeats, Kept, Cut, same, grows, later, final, Paid, Moves}
use Rattle.jxl_cuts.proofs.Steps.{none_of_none}
use Rattle.jxl_grammar.specs.Step as Rules
use Rattle.jxl_grammar.specs.Parser.{parser as rules}
use Rattle.jxl_grammar.proofs.Laws.{refused_repeats}
use Rattle.jxl_grammar.proofs.Lawful.{lawful as boxes-lawful}
use Rattle.jxl_headers.proofs.And.{and_second}
use Rattle.jxl_base.proofs.Never.{never}
use Rattle.jxl_totals.specs.Step.{Told, shows, wants, refuses, limit, counted, room, visible, beyond, at_header, newest, behind, refusal_of, refusing, refused, wanting, counting, step_of}
use Rattle.jxl_totals.specs.Parser.{joined_parts, parser}
use Rattle.jxl_totals.specs.Laws.{ParserIsLawful}
use Rattle.jxl_totals.specs.declared.ContainerParser.{ContainerParser}
use Rattle.jxl_totals.specs.declared.FileRefusal.{FileRefusal}
use Rattle.jxl_totals.proofs.Marks.{Late, Marks, marks}
use Rattle.jxl_totals.proofs.Counting.{step_by_lem, shown_by, visible_most, visible_all, not_beyond, visible_behind, behind_none, repeats}

-- events with totals move and join as those without
moves : Moves parser
moves =
    let laws = boxes-lawful.moves in
    record {
      shift_twice = λ n m e. ap (λ (d : ParseEvent). carrying d e.total) (laws.shift_twice n m e.event);
      shift_payload = λ n e. laws.shift_payload n e.event;
      shift_joins = λ n e f. laws.shift_joins n e.event f.event;
      shift_longer = λ n e f. ap (λ (d : ParseEvent). carrying d (joined_parts e f).total) (laws.shift_longer n e.event f.event);
    }

inside_more : (y : Payload) (n m : ℕ) → n ≤ m → Inside y n → Inside y m
inside_more none n m h i = tt
inside_more (bytes a l) n m h i = omega arith

-- every step
module _ (p : ContainerParser) (s : List ℕ) where
  kept_wanting : (b : Bool) → beyond p s ≡ b → (q : BoxParser) (c : ℕ) → Kept rules (length (visible p s)) (wants q c) → Kept parser (length s) (wanting b p q c)
  kept_wanting true e q c k =
      let next = behind p (Rules.refused StreamLimit q) c in
      (omega (arith, k.0, (visible_most p s).0), repeats StreamLimit next (refused_repeats _ StreamLimit q.jxlp))
  kept_wanting false e q c k =
      let all : length (visible p s) ≡ length s = ap length (not_beyond p s e) in
      (omega (arith, k.0), omega (arith, k.1))

  kept_by : (t : Rules.Told) → Kept rules (length (visible p s)) t → Kept parser (length s) (counting (beyond p s) p t)
  kept_by (shows e q c) k =
      (omega (arith, k.0, (visible_most p s).0), inside_more (payload e) (length (visible p s)) (length s) (visible_most p s).0 k.1)
  kept_by (wants q c) k = kept_wanting (beyond p s) refl q c k
  kept_by (refuses r q c) k = (omega (arith, k.0, (visible_most p s).0), repeats r (refused p q c) k.1)

  kept : Kept parser (length s) (step_of p s)
  kept = subst (Kept parser (length s)) (sym (step_by_lem p s refl)) (kept_by (Rules.step_of p.boxes (visible p s)) (boxes-lawful.kept p.boxes (visible p s)))

-- an empty input
pub empty_waits : (p : ContainerParser) → Open rules p.boxes → Open parser p
empty_waits p o =
    let none : visible p [] ≡ [] = take-nil (room p) in
    let no : beyond p [] ≡ false = le-ltb (room p) 0 (omega arith) in
    step_by_lem p [] (ap (Rules.step_of p.boxes) none ∙ o) ∙ ap (λ (b : Bool). wanting b p p.boxes 0) no ∙ ap (λ (q : ContainerParser). wants q 0) (behind_none p)

empty : (p : ContainerParser) → Open parser p ⊎ ((w : FileRefusal) × Repeats parser w p)
empty p = go (boxes-lawful.empty p.boxes)
  where
    go : Open rules p.boxes ⊎ ((w : BoxRefusal) × Repeats rules w p.boxes) → Open parser p ⊎ ((w : FileRefusal) × Repeats parser w p)
    go (inl o) = inl (empty_waits p o)
    go (inr (w, again)) = inr (refusal_of w p, repeats w p again)

-- two steps that count are one
module _ (p : ContainerParser) (q : BoxParser) (c : ℕ) where
  -- the newest header behind both: the first read one, or the second may
  abbrev Headers : Type 0
  Headers = ((d : ℕ) → newest (ltb 0 (c + d)) p ≡ newest (ltb 0 d) (behind p q c)) × (newest true p ≡ newest true (behind p q c))

  -- where no header is next behind the first
  headers_away : at_header q ≡ false → (at_header p.boxes ≡ true → 0 < c) → Headers
  headers_away away read = go (at_header p.boxes) refl
    where
      go : (t : Bool) → at_header p.boxes ≡ t → Headers
      go true e =
          let some = lt-ltb 0 c (read e) in
          ((λ d. rw (e, away, some, lt-ltb 0 (c + d) (omega (arith, read e)))), rw (e, away, some))
      go false e = ((λ d. rw (e, away)), rw (e, away))

  -- where the first consumed nothing
  headers_none : c ≡ 0 → q ≡ p.boxes → Headers
  headers_none z e =
      let there : behind p q c ≡ p = (λ i. behind p (e i) (z i)) ∙ behind_none p in
      ((λ d. ap (λ (x : ℕ). newest (ltb 0 x) p) (let sum : c + d ≡ d = omega arith in sum) ∙ ap (newest (ltb 0 d)) (sym there)), ap (newest true) (sym there))

  sum : (d : ℕ) → p.total + (c + d) ≡ p.total + c + d
  sum d = sym (add_assoc p.total c d)

  module _ (headers : Headers) where
    behind_twice : (r : BoxParser) (d : ℕ) → behind p r (c + d) ≡ behind (behind p q c) r d
    behind_twice r d = λ i. counted r (sum d i) (headers.0 d i)

    refused_twice : (r : BoxParser) (d : ℕ) → refused p r (c + d) ≡ refused (behind p q c) r d
    refused_twice r d = λ i. counted r (sum d i) (headers.1 i)

    counting_twice : (more : Bool) (t : Rules.Told) → counting more p (Rules.ahead c t) ≡ ahead parser c (counting more (behind p q c) t)
    counting_twice more (shows e r d) =
        λ i. shows (carrying (shifted c e) (sum d i)) (behind_twice r d i) (c + d)
    counting_twice true (wants r d) =
        ap (λ (x : ContainerParser). refusing StreamLimit x (c + d)) (behind_twice (Rules.refused StreamLimit r) d)
    counting_twice false (wants r d) = ap (λ (x : ContainerParser). wants x (c + d)) (behind_twice r d)
    counting_twice more (refuses w r d) = ap (λ (x : ContainerParser). refusing w x (c + d)) (refused_twice r d)

-- a part that ends where a step does is not joined by one that starts later
code_late : (c : ℕ) (f : ParseEvent) → Late f → code_at c (shifted c f) ≡ true → ⊥
code_late c (E.BitstreamKind k) h j = never j
code_late c E.NoMoreAuxBox h j = never j
code_late c (E.Codestream b m) h j = omega (arith, eqb-true c (c + b) j)
code_late c (E.AuxBoxStart t x y) h j = never j
code_late c (E.AuxBoxData t b m) h j = never j
code_late c (E.AuxBoxEnd t) h j = never j

aux_late : (t c : ℕ) (f : ParseEvent) → Late f → aux_at t c (shifted c f) ≡ true → ⊥
aux_late t c (E.BitstreamKind k) h j = never j
aux_late t c E.NoMoreAuxBox h j = never j
aux_late t c (E.Codestream b m) h j = never j
aux_late t c (E.AuxBoxStart u x y) h j = never j
aux_late t c (E.AuxBoxData u b m) h j = omega (arith, eqb-true c (c + b) (and_second (eqb t u) j))
aux_late t c (E.AuxBoxEnd u) h j = never j

late_apart : (c : ℕ) (e f : ParseEvent) → EndsAt c e → Late f → joins e (shifted c f) ≡ true → ⊥
late_apart c (E.BitstreamKind k) f i h j = never j
late_apart c E.NoMoreAuxBox f i h j = never j
late_apart c (E.Codestream a n) f i h j = code_late c f h (ap (λ (x : ℕ). code_at x (shifted c f)) (sym i) ∙ j)
late_apart c (E.AuxBoxStart t x y) f i h j = never j
late_apart c (E.AuxBoxData t a n) f i h j = aux_late t c f h (ap (λ (x : ℕ). aux_at t x (shifted c f)) (sym i) ∙ j)
late_apart c (E.AuxBoxEnd t) f i h j = never j

-- a longer input
module _ (p : ContainerParser) (a b : List ℕ) where
  -- bytes lie beyond already: the same bytes are there
  abbrev Same : Type 0
  Same = (visible p (a ++ b) ≡ visible p a) × (beyond p (a ++ b) ≡ true)

  same_beyond : room p < length a → Same
  same_beyond h =
      (take-append-le (room p) a b (omega arith), lt-ltb (room p) (length (a ++ b)) (omega (arith, length-append a b)))

  cut_beyond : (t : Rules.Told) → Rules.step_of p.boxes (visible p a) ≡ t → beyond p a ≡ true → Same → Cut parser a b (step_of p (a ++ b)) (step_of p a)
  cut_beyond t e more there =
      let short : step_of p a ≡ counting true p t = step_by_lem p a e ∙ ap (λ (m : Bool). counting m p t) more in
      let long : step_of p (a ++ b) ≡ counting true p t =
      step_by_lem p (a ++ b) (ap (Rules.step_of p.boxes) there.0 ∙ e) ∙ ap (λ (m : Bool). counting m p t) there.1 in
      subst (Cut parser a b (step_of p (a ++ b))) (sym short) (go t long)
    where
      go : (u : Rules.Told) → step_of p (a ++ b) ≡ counting true p u → Cut parser a b (step_of p (a ++ b)) (counting true p u)
      go (shows d q c) l = same l
      go (wants q c) l = final l
      go (refuses r q c) l = final l

  module _ (fits : length a ≤ room p) where
    -- of b, what is there
    abbrev rest : List ℕ
    rest = take (room p - length a) b

    all_there : visible p (a ++ b) ≡ a ++ rest
    all_there = let sum : room p ≡ length a + (room p - length a) = omega arith in ap (λ (n : ℕ). take n (a ++ b)) sum ∙ take-append-add a b (room p - length a)

    -- behind c bytes of a
    module _ (q : BoxParser) (c : ℕ) (h : c ≤ length a) where
      rest_there : visible (behind p q c) (drop c a ++ b) ≡ drop c a ++ rest
      rest_there =
          let sum : limit - (p.total + c) ≡ length (drop c a) + (room p - length a) = omega (arith, length-drop c a) in
          ap (λ (n : ℕ). take n (drop c a ++ b)) sum ∙ take-append-add (drop c a) b (room p - length a)

      beyond_there : beyond p (a ++ b) ≡ beyond (behind p q c) (drop c a ++ b)
      beyond_there = go (beyond p (a ++ b)) refl
        where
          long : length (a ++ b) ≡ c + length (drop c a ++ b)
          long = omega (arith, length-append a b, length-append (drop c a) b, length-drop c a)

          go : (t : Bool) → beyond p (a ++ b) ≡ t → t ≡ beyond (behind p q c) (drop c a ++ b)
          go true e = sym (lt-ltb (limit - (p.total + c)) (length (drop c a ++ b)) (omega (arith, long, ltb-true (room p) (length (a ++ b)) e)))
          go false e = sym (le-ltb (limit - (p.total + c)) (length (drop c a ++ b)) (omega (arith, long, ltb-false (room p) (length (a ++ b)) e)))

    -- where more was wanted
    wanted_later : (q : BoxParser) (c : ℕ) → Rules.step_of p.boxes a ≡ wants q c → Rules.step_of p.boxes (a ++ rest) ≡ Rules.ahead c (Rules.step_of q (drop c a ++ rest))
        → step_of p (a ++ b) ≡ ahead parser c (step_of (behind p q c) (drop c a ++ b))
    wanted_later q c e l =
        let h = (rw e at (boxes-lawful.kept p.boxes a)).0 in
        let after : Rules.step_of q (visible (behind p q c) (drop c a ++ b)) ≡ Rules.step_of q (drop c a ++ rest) = ap (Rules.step_of q) (rest_there q c h) in
        step_by_lem p (a ++ b) (ap (Rules.step_of p.boxes) all_there ∙ l)
        ∙ counting_twice p q c (headers (rw e at (marks p.boxes a))) (beyond p (a ++ b)) (Rules.step_of q (drop c a ++ rest))
        ∙ ap (λ (m : Bool). ahead parser c (counting m (behind p q c) (Rules.step_of q (drop c a ++ rest)))) (beyond_there q c h)
        ∙ ap (ahead parser c) (sym (step_by_lem (behind p q c) (drop c a ++ b) after))
      where
        headers : Marks (at_header p.boxes) p.boxes (wants q c) → Headers p q c
        headers (inl (z, there)) = headers_none p q c z there
        headers (inr (away, read)) = headers_away p q c away read

    -- a part that goes on
    grown : {e f : ParseEvent} {q r : BoxParser} {c d : ℕ} → Rules.step_of p.boxes a ≡ shows e q c → c ≡ length a → joins e (shifted c f) ≡ true
        → Rules.step_of q rest ≡ shows f r d → Rules.step_of p.boxes (a ++ rest) ≡ shows (rules.longer e (shifted c f)) r (c + d)
        → Cut parser a b (step_of p (a ++ b)) (shows (carrying e (p.total + c)) (behind p q c) c)
    grown {e} {f} {q} {r} {c} {d} st l j k g =
        let first = rw st at (marks p.boxes a) in
        let second = rw k at (marks q rest) in
        let over : drop c a ++ b ≡ b = ap (λ (x : List ℕ). x ++ b) (drop_of_length-le a {i = c} (omega arith)) in
        let none : drop c a ++ rest ≡ rest = ap (λ (x : List ℕ). x ++ rest) (drop_of_length-le a {i = c} (omega arith)) in
        let there : visible (behind p q c) b ≡ rest = ap (visible (behind p q c)) (sym over) ∙ rest_there q c (omega arith) ∙ none in
        let headers = headers_away p q c (away (at_header q) refl first second) (λ h. (first.2 h).0) in
        grows {e = carrying e (p.total + c)} {f = carrying f (p.total + c + d)} {p = behind p q c} {q = behind (behind p q c) r d} {c = c} {d = d} l j
        (step_by_lem (behind p q c) b (ap (Rules.step_of q) there ∙ k))
        (step_by_lem p (a ++ b) (ap (Rules.step_of p.boxes) all_there ∙ g)
        ∙ (λ i. shows (carrying (rules.longer e (shifted c f)) (sum p q c d i)) (behind_twice p q c headers r d i) (c + d)))
      where
        away : (t : Bool) → at_header q ≡ t → Marks (at_header p.boxes) p.boxes (shows e q c) → Marks (at_header q) q (shows f r d) → at_header q ≡ false
        away true h first second = absurd (late_apart c e f first.0 (second.2 h).1 j)
        away false h first second = h

    cut_within : (t : Rules.Told) → Rules.step_of p.boxes a ≡ t → Cut rules a rest (Rules.step_of p.boxes (a ++ rest)) t
        → Cut parser a b (step_of p (a ++ b)) (counting false p t)
    cut_within (shows e q c) st (same g) = same (step_by_lem p (a ++ b) (ap (Rules.step_of p.boxes) all_there ∙ g))
    cut_within (shows e q c) st (grows l j k g) = grown st l j k g
    cut_within (wants q c) st (later g) = later (wanted_later q c st g)
    cut_within (refuses w q c) st (final g) = final (step_by_lem p (a ++ b) (ap (Rules.step_of p.boxes) all_there ∙ g))

  cut : Cut parser a b (step_of p (a ++ b)) (step_of p a)
  cut = go (beyond p a) refl
    where
      go : (t : Bool) → beyond p a ≡ t → Cut parser a b (step_of p (a ++ b)) (step_of p a)
      go true e = cut_beyond (Rules.step_of p.boxes (visible p a)) refl e (same_beyond (ltb-true (room p) (length a) e))
      go false e =
          let fits = ltb-false (room p) (length a) e in
          let told : step_of p a ≡ counting false p (Rules.step_of p.boxes a) =
          step_by_lem p a (ap (Rules.step_of p.boxes) (visible_all p a fits)) ∙ ap (λ (m : Bool). counting m p (Rules.step_of p.boxes a)) e in
          subst (Cut parser a b (step_of p (a ++ b))) (sym told) (cut_within fits (Rules.step_of p.boxes a) refl (boxes-lawful.cut p.boxes a (rest fits)))

-- two events of one input never join
apart : (p : ContainerParser) (s : List ℕ) {e f : FileEvent} {q r : ContainerParser} {c d : ℕ} → step_of p s ≡ shows e q c → step_of q (drop c s) ≡ shows f r d
    → joins e.event (shifted c f.event) ≡ false
apart p s {e} {f} {q} {r} {c} {d} h k =
    let first = shown_by p s h in
    let second = shown_by q (drop c s) k in
    let most = (rw first.0 at (boxes-lawful.kept p.boxes (visible p s))).0 in
    let there : visible q (drop c s) ≡ drop c (visible p s) = ap (λ (x : ContainerParser). visible x (drop c s)) first.1 ∙ visible_behind p q.boxes c s most in
    boxes-lawful.apart p.boxes (visible p s) first.0 (ap (Rules.step_of q.boxes) (sym there) ∙ second.0)

-- what a state is lent: at the limit nothing, since no event comes there
abbrev credit : ContainerParser → ℕ
credit p = if (eqb (room p) 0) 0 (boxes-lawful.credit p.boxes)

credit_less : (p : ContainerParser) → credit p ≤ boxes-lawful.credit p.boxes
credit_less p = go (eqb (room p) 0)
  where
    go : (t : Bool) → if t 0 (boxes-lawful.credit p.boxes) ≤ boxes-lawful.credit p.boxes
    go true = omega arith
    go false = omega arith

credit_most : (p : ContainerParser) → credit p ≤ 9
credit_most p = omega (arith, credit_less p, boxes-lawful.credit_most p.boxes)

module _ (p : ContainerParser) (s : List ℕ) where
  -- an event is paid for as the rules say; at the limit what is left of the input pays for none
  paid_shown : (e : ParseEvent) (q : BoxParser) (c : ℕ) → Rules.step_of p.boxes (visible p s) ≡ shows e q c
      → Paid parser credit (credit p) (length s) (shows (carrying e (p.total + c)) (behind p q c) c)
  paid_shown e q c h = go (eqb (room p) 0) refl
    where
      price : (3 ≤ c + boxes-lawful.credit p.boxes) × (c < length (visible p s) → 3 + boxes-lawful.credit q ≤ c + boxes-lawful.credit p.boxes)
      price = rw h at (boxes-lawful.paid p.boxes (visible p s))

      most : c ≤ length (visible p s)
      most = (rw h at (boxes-lawful.kept p.boxes (visible p s))).0

      -- the input that is there ends before the limit, or at it
      lend : (t : Bool) → ltb c (length (visible p s)) ≡ t → credit p ≡ boxes-lawful.credit p.boxes → c < length s → 3 + credit (behind p q c) ≤ c + credit p
      lend true u whole l = omega (arith, price.1 (ltb-true c (length (visible p s)) u), credit_less (behind p q c))
      lend false u whole l =
          let all = ltb-false c (length (visible p s)) u in
          let none : limit - (p.total + c) ≡ 0 = omega (arith, length-take (room p) s, most) in
          let spent : credit (behind p q c) ≡ 0 = ap (λ (b : Bool). if b 0 (boxes-lawful.credit q)) (eq-eqb (limit - (p.total + c)) 0 none) in
          omega (arith, price.0)

      go : (t : Bool) → eqb (room p) 0 ≡ t → Paid parser credit (credit p) (length s) (shows (carrying e (p.total + c)) (behind p q c) c)
      go true z =
          let none : visible p s ≡ [] = ap (λ (n : ℕ). take n s) (eqb-true (room p) 0 z) in
          absurd (none_of_none rules boxes-lawful p.boxes (ap (Rules.step_of p.boxes) (sym none) ∙ h))
      go false z =
          let whole : credit p ≡ boxes-lawful.credit p.boxes = ap (λ (b : Bool). if b 0 (boxes-lawful.credit p.boxes)) z in
          (omega (arith, price.0), λ l. lend (ltb c (length (visible p s))) refl whole l)

  paid_by : (t : Rules.Told) → Rules.step_of p.boxes (visible p s) ≡ t → Paid parser credit (credit p) (length s) (counting (beyond p s) p t)
  paid_by (shows e q c) h = paid_shown e q c h
  paid_by (wants q c) h = go (beyond p s)
    where
      go : (b : Bool) → Paid parser credit (credit p) (length s) (wanting b p q c)
      go true = tt
      go false = tt
  paid_by (refuses r q c) h = tt

  paid : Paid parser credit (credit p) (length s) (step_of p s)
  paid = subst (Paid parser credit (credit p) (length s)) (sym (step_by_lem p s refl)) (paid_by (Rules.step_of p.boxes (visible p s)) refl)

pub lawful : ParserIsLawful
lawful =
    record {
      moves = moves;
      kept = kept;
      empty = empty;
      cut = cut;
      apart = λ p s h k. apart p s h k;
      price_some = omega arith;
      credit = credit;
      credit_most = credit_most;
      paid = paid;
    }
