-- No side box is lost. The bytes that an event shows are the file's at its place, in any packets; parts joined or not tell the same; the
-- joined events are those that the grammar lists, and these tell the side boxes (Listed.antt).
use mathlib.Core.Path.{◌≡◌, refl, sym, ap, ◌∙◌, subst}
use mathlib.Core.Bool.{Bool, true, false}
use mathlib.Core.List.{List, [], ◌∷◌, ◌++◌, append_assoc}
use Prim.Native.Nat.{ℕ, ◌+◌, ◌-◌, ◌≤◌}
use native.Mathlib.Nat.{add_assoc}
use native.Mathlib.Omega.{arith}
use lib.Dec.{ltb, eqb}
use lib.ListN.{length, drop}
use lib.ListN as L
use lib.Seq.{drop-drop, take_all, take-add}
use borrow.Author.Tests.{ltb-false, le-leb, eqb-true}
use Rattle.jxl_cuts.specs.Machine.{Inside}
use Rattle.jxl_cuts.specs.Theorems.{Right, All}
use Rattle.jxl_headers.specs.Bytes.{if, and}
use Rattle.jxl_events.specs.Event.{payload, payload_of, length_of}
use Rattle.jxl_events.specs.Total.{without_totals, carrying}
use Rattle.jxl_events.specs.declared.ParseEvent.{ParseEvent}
use Rattle.jxl_events.specs.declared.ParseEvent.TheVariants as E
use Rattle.jxl_events.specs.declared.FileEvent.{FileEvent}
use Rattle.jxl_parts.specs.Joined.{code_at, aux_at, joins, longer}
use Rattle.jxl_totals.specs.Parser.{parser, joined_parts}
use Rattle.jxl_totals.specs.Feeding.{Stop, Shown, Seen, events_in, before, joined, feeding, bytes_of}
use Rattle.jxl_totals.specs.Feeding as Feeding
use Rattle.jxl_base.proofs.Never.{never}
use Rattle.jxl_grammar.specs.End.{Close, missing, owes, nothing, close_at, close_of}
use Rattle.jxl_grammar.specs.Grammar.{Listing, want}
use Rattle.jxl_grammar.specs.Grammar as Grammar
use Rattle.jxl_totals.specs.Step.{limit, fresh}
use Rattle.jxl_files.specs.Files.{file}
use Rattle.jxl_files.specs.Theorems.{rule_in}
use Rattle.jxl_files.proofs.Listed.{as_before}
use Rattle.jxl_files.proofs.Theorems.{bytes_shown, cut_file}
use Rattle.jxl_totals.specs.declared.ContainerParser.{ContainerParser}
use Rattle.jxl_endings.specs.End.{Ended}
use Rattle.jxl_endings.specs.End as End
use Rattle.jxl_endings.specs.Ended.{owed_by, stop_by, unread_of, finished}
use Rattle.jxl_endings.specs.Ended as Done
use Rattle.jxl_endings.proofs.Laws.{end_open}
use Rattle.jxl_endings.proofs.Theorems.{Settles, feeding_settles}
use Rattle.jxl_sides.specs.Telling.{Sides, astray, Move, adds, other, move_of, Where, outside, inside, met, telling, telling_owed}
use Rattle.jxl_sides.specs.Theorems.{EverySideBox}
use Rattle.jxl_sides.proofs.Listed.{Whole, Ends, owing, telling_at, tells, tells_file}

-- the bytes shown are the file's at the event's place
shown_at : (f : List ℕ) (xs : List Shown) (next : Where → Sides) (w : Where) → All (Right parser f) xs
    → telling xs next w ≡ telling_at f (without_totals (events_in xs)) next w
shown_at f [] next w r = refl
shown_at f (x ∷ xs) next w (r, rs) =
    ap (λ (bs : List ℕ). met (move_of x.event.event) bs w (telling xs next)) r.same
    ∙ met_by (move_of x.event.event) (payload_of f x.event.event) w (telling xs next) (telling_at f (without_totals (events_in xs)) next) (λ v. shown_at f xs next v rs)
  where
    met_by : (m : Move) (bs : List ℕ) (w : Where) (go on : Where → Sides) → ((v : Where) → go v ≡ on v) → met m bs w go ≡ met m bs w on
    met_by m bs w go on same = ap (met m bs w) (λ i v. same v i)

-- two parts in a row tell what they tell as one
adds_twice : (t u : ℕ) → t ≡ u → (xs ys : List ℕ) (w : Where) (next : Where → Sides) → met (adds t) (xs ++ ys) w next ≡ met (adds t) xs w (λ v. met (adds u) ys v next)
adds_twice t u e xs ys outside next = refl
adds_twice t u e xs ys (inside x c bs) next = go (eqb t x) refl
  where
    go : (b : Bool) → eqb t x ≡ b → met (adds t) (xs ++ ys) (inside x c bs) next ≡ met (adds t) xs (inside x c bs) (λ v. met (adds u) ys v next)
    go true k =
        let same : eqb u x ≡ true = ap (λ (n : ℕ). eqb n x) (sym e) ∙ k in
        rw (met, k, same) (ap (λ (l : List ℕ). next (inside x c l)) (sym (append_assoc bs xs ys)))
    go false k = rw (met, k)

other_twice : (xs ys zs : List ℕ) (w : Where) (next : Where → Sides) → met other xs w next ≡ met other ys w (λ v. met other zs v next)
other_twice xs ys zs outside next = refl
other_twice xs ys zs (inside x c bs) next = refl

and_both : (t u : Bool) → and t u ≡ true → (t ≡ true) × (u ≡ true)
and_both true u e = (refl, e)
and_both false u e = never e

module _ (f : List ℕ) where
  abbrev There : FileEvent → Type 0
  There e = Inside (payload e.event) (length f)

  joined_bytes : (t u a n b m : ℕ) → a + n ≡ b → b + m ≤ length f
      → payload_of f (E.AuxBoxData t a (n + m)) ≡ payload_of f (E.AuxBoxData t a n) ++ payload_of f (E.AuxBoxData u b m)
  joined_bytes t u a n b m e h =
      rw (le-leb (a + (n + m)) (length f) (omega arith), le-leb (a + n) (length f) (omega arith), le-leb (b + m) (length f) h)
      (take-add n m (drop a f) ∙ ap (λ (l : List ℕ). L.take n (drop a f) ++ L.take m l) (drop-drop n a f ∙ ap (λ (k : ℕ). drop k f) e))

  -- two events that join
  two_parts : (x y : ParseEvent) (next : Where → Sides) (w : Where) → joins x y ≡ true → Inside (payload y) (length f)
      → met (move_of (longer (length_of y) x)) (payload_of f (longer (length_of y) x)) w next
      ≡ met (move_of x) (payload_of f x) w (λ v. met (move_of y) (payload_of f y) v next)
  two_parts (E.BitstreamKind k) y next w j i = never j
  two_parts E.NoMoreAuxBox y next w j i = never j
  two_parts (E.Codestream a n) (E.BitstreamKind k) next w j i = never j
  two_parts (E.Codestream a n) E.NoMoreAuxBox next w j i = never j
  two_parts (E.Codestream a n) (E.Codestream b m) next w j i =
      other_twice (payload_of f (E.Codestream a (n + m))) (payload_of f (E.Codestream a n)) (payload_of f (E.Codestream b m)) w next
  two_parts (E.Codestream a n) (E.AuxBoxStart t c e) next w j i = never j
  two_parts (E.Codestream a n) (E.AuxBoxData t b m) next w j i = never j
  two_parts (E.Codestream a n) (E.AuxBoxEnd t) next w j i = never j
  two_parts (E.AuxBoxStart t c e) y next w j i = never j
  two_parts (E.AuxBoxData t a n) (E.BitstreamKind k) next w j i = never j
  two_parts (E.AuxBoxData t a n) E.NoMoreAuxBox next w j i = never j
  two_parts (E.AuxBoxData t a n) (E.Codestream b m) next w j i = never j
  two_parts (E.AuxBoxData t a n) (E.AuxBoxStart u c e) next w j i = never j
  two_parts (E.AuxBoxData t a n) (E.AuxBoxData u b m) next w j i =
      let both = and_both (eqb t u) (eqb (a + n) b) j in
      ap (λ (bs : List ℕ). met (adds t) bs w next) (joined_bytes t u a n b m (eqb-true (a + n) b both.1) i)
      ∙ adds_twice t u (eqb-true t u both.0) (payload_of f (E.AuxBoxData t a n)) (payload_of f (E.AuxBoxData u b m)) w next
  two_parts (E.AuxBoxData t a n) (E.AuxBoxEnd u) next w j i = never j
  two_parts (E.AuxBoxEnd t) y next w j i = never j

  two_inside : (x y : ParseEvent) → joins x y ≡ true → Inside (payload y) (length f) → Inside (payload (longer (length_of y) x)) (length f)
  two_inside (E.BitstreamKind k) y j i = never j
  two_inside E.NoMoreAuxBox y j i = never j
  two_inside (E.Codestream a n) (E.BitstreamKind k) j i = never j
  two_inside (E.Codestream a n) E.NoMoreAuxBox j i = never j
  two_inside (E.Codestream a n) (E.Codestream b m) j i = omega (arith, eqb-true (a + n) b j)
  two_inside (E.Codestream a n) (E.AuxBoxStart t c e) j i = never j
  two_inside (E.Codestream a n) (E.AuxBoxData t b m) j i = never j
  two_inside (E.Codestream a n) (E.AuxBoxEnd t) j i = never j
  two_inside (E.AuxBoxStart t c e) y j i = never j
  two_inside (E.AuxBoxData t a n) (E.BitstreamKind k) j i = never j
  two_inside (E.AuxBoxData t a n) E.NoMoreAuxBox j i = never j
  two_inside (E.AuxBoxData t a n) (E.Codestream b m) j i = never j
  two_inside (E.AuxBoxData t a n) (E.AuxBoxStart u c e) j i = never j
  two_inside (E.AuxBoxData t a n) (E.AuxBoxData u b m) j i = omega (arith, eqb-true (a + n) b (and_both (eqb t u) (eqb (a + n) b) j).1)
  two_inside (E.AuxBoxData t a n) (E.AuxBoxEnd u) j i = never j
  two_inside (E.AuxBoxEnd t) y j i = never j

  -- one event before those that are joined
  pub record Same (next : Where → Sides) (es ds : List FileEvent) : Type 0 where
    pub tells_same : (w : Where) → telling_at f (without_totals es) next w ≡ telling_at f (without_totals ds) next w
    pub all_there : All There es

  one_before : (next : Where → Sides) (e : FileEvent) (es : List FileEvent) → There e → All There es → Same next (before e es) (e ∷ es)
  one_before next e [] i is = record { tells_same = λ w. refl; all_there = (i, tt) }
  one_before next e (g ∷ es) i (j, js) = go (joins e.event g.event) refl
    where
      go : (t : Bool) → joins e.event g.event ≡ t → Same next (before e (g ∷ es)) (e ∷ g ∷ es)
      go true k =
          rw (before, k)
          (record {
            tells_same = λ w. two_parts e.event g.event (telling_at f (without_totals es) next) w k j;
            all_there = (two_inside e.event g.event k j, js);
          })
      go false k = rw (before, k) (record { tells_same = λ w. refl; all_there = (i, (j, js)) })

  -- all of them
  joined_same : (next : Where → Sides) (es : List FileEvent) → All There es → Same next (joined es) es
  joined_same next [] is = record { tells_same = λ w. refl; all_there = tt }
  joined_same next (e ∷ es) (i, is) =
      let rest = joined_same next es is in
      let first = one_before next e (joined es) i rest.all_there in
      record {
        tells_same =
            λ w. first.tells_same w ∙ ap (λ (go : Where → Sides). met (move_of e.event) (payload_of f e.event) w go) (λ i v. rest.tells_same v i);
        all_there = first.all_there;
      }

-- what DONE says of the grammar's listing: more is wanted, nothing is missing, and the owed event is the one that was given
pub record Closes (f : List ℕ) (owed : List FileEvent) : Type 0 where
  pub ends_there : Ends (file f)
  pub owed_same : (w : Where) → telling_owed owed w ≡ owing (file f).close w

closes_by : (f : List ℕ) (c : Close) (n : ℕ) (p : ContainerParser) → (file f).stop ≡ want → close_at n c ≡ (file f).close → stop_by (End.closing p c) ≡ Done.done
    → Closes f (owed_by n (End.closing p c))
closes_by f missing n p w e d = never cc
closes_by f (owes x) n p w e d =
    record { ends_there = (w, subst Whole e tt); owed_same = λ v. ap (λ (c : Close). owing c v) e }
closes_by f nothing n p w e d = record { ends_there = (w, subst Whole e tt); owed_same = λ v. ap (λ (c : Close). owing c v) e }

closes : (xs : List (List ℕ)) → (finished fresh xs).stop ≡ Done.done → Closes (bytes_of xs) (finished fresh xs).owed
closes xs d = go r.stop refl (feeding_settles fresh xs refl)
  where
    r : Seen
    r = feeding fresh xs

    u : List ℕ
    u = unread_of fresh xs r

    left : drop r.consumed (bytes_of xs) ≡ u
    left = let all : r.consumed ≡ r.consumed - 0 = omega arith in ap (λ (n : ℕ). drop n (bytes_of xs)) all

    go : (w : Stop) → r.stop ≡ w → Settles w r.next → Closes (bytes_of xs) (finished fresh xs).owed
    go Feeding.want e o =
        let ended = end_open r.next u o in
        let stops : (file (bytes_of xs)).stop ≡ want = ap (λ (l : Listing). l.stop) (sym (cut_file xs)) ∙ ap rule_in e in
        let close : close_at r.consumed (close_of r.next.boxes u) ≡ (file (bytes_of xs)).close =
        ap (λ (l : List ℕ). close_at r.consumed (close_of r.next.boxes l)) (sym left) ∙ ap (λ (l : Listing). l.close) (cut_file xs) in
        subst (λ (e : Ended). Closes (bytes_of xs) (owed_by r.consumed e)) (sym ended)
        (closes_by (bytes_of xs) (close_of r.next.boxes u) r.consumed r.next stops close (ap stop_by (sym ended) ∙ d))
    go (Feeding.refused w) e o = let told = ap stop_by (sym (o u)) ∙ d in never cc

-- and so the file is within the limit
over_limit : (f : List ℕ) → ltb limit (length f) ≡ true → (file f).close ≡ missing
unfolding file
over_limit f k = rw k

within : (f : List ℕ) → Ends (file f) → file f ≡ Grammar.file f
within f e = go (ltb limit (length f)) refl
  where
    go : (t : Bool) → ltb limit (length f) ≡ t → file f ≡ Grammar.file f
    go true k = absurd (subst Whole (over_limit f k) e.1)
    go false k = as_before f (ltb-false limit (length f) k)

pub every_side_box : EverySideBox
every_side_box xs d =
    let f = bytes_of xs in
    let done = closes xs d in
    let next = telling_owed (finished fresh xs).owed in
    let shown = (feeding fresh xs).shown in
    let right : All (Right parser f) shown = bytes_shown fresh [] xs refl in
    let listed : without_totals (joined (events_in shown)) ≡ (file f).events = ap (λ (l : Listing). l.events) (cut_file xs) in
    let plain = within f done.ends_there in
    shown_at f shown next outside right
    ∙ sym ((joined_same f next (events_in shown) (all_inside f shown right)).tells_same outside)
    ∙ ap (λ (es : List ParseEvent). telling_at f es next outside) listed
    ∙ ap (λ (go : Where → Sides). telling_at f (file f).events go outside) (λ i w. done.owed_same w i)
    ∙ ap (λ (l : Listing). tells f l outside) plain
    ∙ tells_file f (subst Ends plain done.ends_there)
  where
    all_inside : (f : List ℕ) (xs : List Shown) → All (Right parser f) xs → All (There f) (events_in xs)
    all_inside f [] r = tt
    all_inside f (x ∷ xs) (r, rs) = (r.inside, all_inside f xs rs)
