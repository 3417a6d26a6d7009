-- Where the parser stands in a file, whatever the cut: events are given, refusals name headers, and the newest header is kept, where the
-- file's bytes alone say.
use mathlib.Core.Path.{◌≡◌, refl, sym, ap, ◌∙◌, subst}
use mathlib.Core.Bool.{Bool, true, false}
use mathlib.Core.Logic.{inl, inr}
use mathlib.Core.List.{List, []}
use Prim.Native.Nat.{ℕ, ◌+◌, ◌<◌}
use lib.Dec.{ltb}
use lib.ListN.{length, drop}
use lib.ListN as L
use lib.Seq.{drop-drop}
use borrow.Author.Tests.{lt-ltb}
use Rattle.jxl_reach.specs.declared.BytesLeft.{BytesLeft}
use Rattle.jxl_refusals.specs.declared.BoxRefusal.{BoxRefusal}
use Rattle.jxl_record.specs.Record as Record
use Rattle.jxl_record.specs.declared.DetectState.{DetectState}
use Rattle.jxl_record.specs.declared.DetectState.TheVariants as S
use Rattle.jxl_record.specs.declared.BoxParser.{BoxParser}
use Rattle.jxl_headers.specs.Types.{jxlp, brob}
use Rattle.jxl_events.specs.Event.{shifted}
use Rattle.jxl_cuts.specs.Lawful.{Open}
use Rattle.jxl_cuts.specs.Theorems.{Agrees}
use Rattle.jxl_cuts.proofs.Theorems as AnyMachine
use Rattle.jxl_grammar.specs.Step as Rules
use Rattle.jxl_grammar.specs.Laws as Boxes
use Rattle.jxl_grammar.proofs.Laws as BoxLaws
use Rattle.jxl_grammar.proofs.Step.{step_empty}
use Rattle.jxl_base.proofs.Never.{never}
use Rattle.jxl_totals.specs.Step.{Told, shows, wants, refuses, limit, fresh, visible, beyond, at_header, newest, behind, wanting, counting, step_of}
use Rattle.jxl_totals.specs.Parser.{parser}
use Rattle.jxl_totals.specs.Feeding.{Seen, refused, events, bytes_of, Takes, more, waits, ends, take, feeding}
use Rattle.jxl_places.specs.Places.{Box, GivenAt, Given, Names}
use Rattle.jxl_places.specs.Theorems.{All, awaits, GivenWhere, NamesItsHeader, HeaderIsNewest}
use Rattle.jxl_totals.specs.declared.ContainerParser.{ContainerParser}
use Rattle.jxl_totals.specs.declared.FileRefusal.{FileRefusal}
use Rattle.jxl_totals.proofs.Marks.{Marks, marks}
use Rattle.jxl_totals.proofs.Counting.{step_by_lem, shown_by, visible_behind, newest_away}
use Rattle.jxl_totals.proofs.Lawful.{lawful, empty_waits}
use Rattle.jxl_places.proofs.Stands.{Stands, Tells, stands_next, tells}
use Rattle.jxl_totals.proofs.Taking.{takes}

-- the header where something is consumed, or where none is next
read_some : (p : ContainerParser) (c : ℕ) → (at_header p.boxes ≡ true → 0 < c) → newest true p ≡ newest (ltb 0 c) p
read_some p c h = go (at_header p.boxes) refl
  where
    go : (t : Bool) → at_header p.boxes ≡ t → newest true p ≡ newest (ltb 0 c) p
    go true e = ap (λ (b : Bool). newest b p) (sym (lt-ltb 0 c (h e)))
    go false e = newest_away true p e ∙ sym (newest_away (ltb 0 c) p e)

-- a record that refuses every input awaits nothing
refused_none : (r : BoxRefusal) (q : BoxParser) → Boxes.Repeats r q → (t : ℕ) (l : BytesLeft) → awaits q.state t l → ⊥
refused_none r q again t l = go q.state refl
  where
    waiting : Record.is_refused q ≡ false → ⊥
    waiting e = let waits = step_empty q e in never (cc (again []))

    go : (d : DetectState) → q.state ≡ d → awaits d t l → ⊥
    go S.WaitingSignature e i = i
    go S.WaitingBoxHeader e i = i
    go (S.WaitingJxlpIndex m) e i = waiting (ap Record.refused_in e)
    go (S.WaitingInnerType m) e i = waiting (ap Record.refused_in e)
    go (S.InAuxBox u m) e i = i
    go (S.InCodestream k m pending) e i = i
    go (S.Refused k w) e i = i

module _ (f : List ℕ) where
  abbrev At : ContainerParser → Type 0
  At q = Stands f q.boxes.state q.total q.header

  -- while an index or an inner type is awaited
  abbrev Behind : DetectState → ℕ → ℕ → Type 0
  Behind d a h = (t : ℕ) (l : BytesLeft) → awaits d t l → (n : ℕ) × Box f t l h n × (a ≡ h + n)

  abbrev Newest : ContainerParser → Type 0
  Newest q = Behind q.boxes.state q.total q.header

  behind_four_lem : (d : DetectState) (a h : ℕ) → Stands f d a h → Behind d a h
  behind_four_lem S.WaitingSignature a h i t l w = absurd w
  behind_four_lem S.WaitingBoxHeader a h i t l w = absurd w
  behind_four_lem (S.WaitingJxlpIndex m) a h (n, b, e, u) t l (x, y) =
      (n, subst (λ (z : ℕ). Box f z l h n) (sym x) (subst (λ (z : BytesLeft). Box f jxlp z h n) (sym y) b), e)
  behind_four_lem (S.WaitingInnerType m) a h (n, b, e, u) t l (x, y) =
      (n, subst (λ (z : ℕ). Box f z l h n) (sym x) (subst (λ (z : BytesLeft). Box f brob z h n) (sym y) b), e)
  behind_four_lem (S.InAuxBox u m) a h i t l w = absurd w
  behind_four_lem (S.InCodestream k m pending) a h i t l w = absurd w
  behind_four_lem (S.Refused k r) a h i t l w = absurd w

  -- what a step of the parser that counts tells
  abbrev Right : ContainerParser → Told → Type 0
  Right p (shows e q c) = GivenAt f e.total (shifted p.total e.event) × At q
  Right p (wants q c) = At q
  Right p (refuses w q c) = Names f w × Newest q

  module _ (p : ContainerParser) (s : List ℕ) where
    stands_wanting : (q : BoxParser) (c : ℕ) → Marks (at_header p.boxes) p.boxes (wants q c) → Stands f q.state (p.total + c) (newest true p) → At (behind p q c)
    stands_wanting q c (inl (z, same)) i = go (at_header p.boxes) refl
      where
        go : (t : Bool) → at_header p.boxes ≡ t → At (behind p q c)
        go true e = stands_next f q.state (p.total + c) (newest true p) (newest (ltb 0 c) p) (ap at_header same ∙ e) i
        go false e = subst (Stands f q.state (p.total + c)) (newest_away true p e ∙ sym (newest_away (ltb 0 c) p e)) i
    stands_wanting q c (inr (away, read)) i = subst (Stands f q.state (p.total + c)) (read_some p c read) i

    right_by : (t : Rules.Told) → Tells f p.total (newest true p) t → Boxes.Kept (length (visible p s)) t → Marks (at_header p.boxes) p.boxes t
        → Right p (counting (beyond p s) p t)
    right_by (shows e q c) (g, i) k m = (g, subst (Stands f q.state (p.total + c)) (read_some p c (λ h. (m.2 h).0)) i)
    right_by (wants q c) i k m = go (beyond p s)
      where
        go : (b : Bool) → Right p (wanting b p q c)
        go true = (refl, λ t l w. absurd w)
        go false = stands_wanting q c m i
    right_by (refuses r q c) i k m = (i, λ t l w. absurd (refused_none r q k.1 t l w))

    right : visible p s ≡ drop p.total f → At p → Right p (step_of p s)
    right there i =
        subst (Right p) (sym (step_by_lem p s refl))
        (right_by (Rules.step_of p.boxes (visible p s)) (tells f p.boxes p.total p.header (visible p s) there i)
        (BoxLaws.every_step p.boxes (visible p s)) (marks p.boxes (visible p s)))

  -- what was seen
  pub record Placed (r : Seen) : Type 0 where
    pub shown_given : All (Given f) (events r)
    pub stop_names : (w : FileRefusal) → r.stop ≡ refused w → Names f w
    pub next_newest : Newest r.next

  taken : {p : ContainerParser} {at : ℕ} {s u : List ℕ} {r : Seen} → p.total ≡ at → visible p s ≡ drop p.total f → At p → Takes p at s r u → Placed r
  taken {p} {at} {s} l there i (more {q = q} {c = c} {e = e} {r = r} k t) =
      let first = shown_by p s k in
      let told = rw k at (right p s there i) in
      let most = (rw first.0 at (BoxLaws.every_step p.boxes (visible p s))).0 in
      let total : q.total ≡ p.total + c = ap (λ (x : ContainerParser). x.total) first.1 in
      let rest : visible q (drop c s) ≡ drop q.total f =
      ap (λ (x : ContainerParser). visible x (drop c s)) first.1 ∙ visible_behind p q.boxes c s most
      ∙ ap (drop c) there ∙ drop-drop c p.total f ∙ ap (λ (x : ℕ). drop x f) (sym total) in
      let then = taken (total ∙ ap (λ (x : ℕ). x + c) l) rest told.1 t in
      record {
        shown_given = (subst (λ (x : ℕ). GivenAt f e.total (shifted x e.event)) l told.0, then.shown_given);
        stop_names = then.stop_names;
        next_newest = then.next_newest;
      }
  taken {p} {at} {s} l there i (waits {q = q} k) =
      let told = rw k at (right p s there i) in
      record { shown_given = tt; stop_names = λ w e. never cc; next_newest = behind_four_lem q.boxes.state q.total q.header told }
  taken {p} {at} {s} l there i (ends {w = w} k) =
      let told = rw k at (right p s there i) in
      record {
        shown_given = tt;
        stop_names = λ x e. let same : w ≡ x = cc in subst (Names f) same told.0;
        next_newest = told.1;
      }

-- a whole file, fed at once
whole : (s : List ℕ) → Placed (L.take limit s) (take fresh s)
whole s = taken (L.take limit s) {p = fresh} {at = 0} {s = s} refl refl refl (takes fresh 0 s).1

-- and any cut of it
cut : (xs : List (List ℕ)) → Agrees parser (feeding fresh xs) (take fresh (bytes_of xs))
cut xs =
    let waiting : Open parser fresh = empty_waits fresh (step_empty Record.fresh refl) in
    subst (Agrees parser (feeding fresh xs)) (AnyMachine.whole_feed parser fresh 0 (bytes_of xs)) (AnyMachine.every_cut parser lawful fresh 0 xs waiting)

pub given_where : GivenWhere
given_where xs = subst (All (Given (L.take limit (bytes_of xs)))) (sym (cut xs).events_are) (whole (bytes_of xs)).shown_given

pub names_its_header : NamesItsHeader
names_its_header xs r e = (whole (bytes_of xs)).stop_names r (sym (cut xs).stop_is ∙ e)

pub header_is_newest : HeaderIsNewest
header_is_newest xs = subst (Newest (L.take limit (bytes_of xs))) (sym (cut xs).next_is) (whole (bytes_of xs)).next_newest
