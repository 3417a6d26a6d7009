-- A turn on an input inside the payload part that is held: the part becomes longer, and more is wanted.
use mathlib.Core.Path.{◌≡◌, refl, sym, ap, ◌∙◌, subst}
use mathlib.Core.Bool.{Bool, true, false}
use mathlib.Core.List.{List}
use Prim.Native.Nat.{ℕ, ◌+◌, ◌-◌, ◌<◌, ◌≤◌}
use native.Mathlib.Nat.{add-zero}
use native.Mathlib.Omega.{arith}
use lib.Dec.{leb, eqb}
use lib.ListN.{length, drop}
use lib.Seq.{drop-length, take_all}
use borrow.Author.Tests.{lt-leb, le-ltb, eq-eqb, ltb-false, leb-true, eqb-true, eqb-false}
use Rattle.std.specs.Prelude.{Option, None, Some}
use Rattle.jxl_events.specs.declared.FileEvent.{FileEvent}
use Rattle.jxl_headers.specs.Bytes.{if, and}
use Rattle.jxl_reach.specs.Reach.{under, less}
use Rattle.jxl_reach.specs.declared.BytesLeft.{BytesLeft}
use Rattle.jxl_reach.specs.declared.BytesLeft.TheVariants.{ToEnd, Bytes}
use Rattle.jxl_record.specs.Record.{at}
use Rattle.jxl_impossible.specs.Impossible.{over_index}
use Rattle.jxl_record.specs.declared.BitstreamKind.{BitstreamKind}
use Rattle.jxl_record.specs.declared.JxlpIndexState.{JxlpIndexState}
use Rattle.jxl_record.specs.declared.DetectState.{DetectState}
use Rattle.jxl_record.specs.declared.DetectState.TheVariants as D
use Rattle.jxl_events.specs.Total.{carrying}
use Rattle.jxl_events.specs.declared.ParseEvent.{ParseEvent}
use Rattle.jxl_events.specs.declared.ParseEvent.TheVariants as E
use Rattle.jxl_grammar.specs.Step.{in_code, code_part}
use Rattle.jxl_grammar.specs.Step as Boxes
use Rattle.jxl_grammar.proofs.Step.{code_shows}
use Rattle.jxl_grammar.proofs.Cut.{step_code}
use Rattle.jxl_totals.specs.Step.{shows, wants, limit, counted, room as roomOf, counting, step_of}
use Rattle.jxl_totals.specs.declared.ContainerParser.{ContainerParser}
use Rattle.jxl_totals.proofs.Laws.{empty_feed}
use Rattle.jxl_joiner.specs.Joiner.{added, adding, handed}
use Rattle.jxl_joiner.specs.declared.Added.{Added}
use Rattle.jxl_lines.specs.declared.StopWord.TheVariants as S
use Rattle.jxl_list_rules.specs.Listed.{lines_of}
use Rattle.jxl_list_rules.specs.Turned.{Turned, over, behind, line_of, turn_of}
use Rattle.jxl_list_rules.specs.Theorems.{WayLeads}
use Rattle.jxl_list_rules.specs.Way.{short_way, way_in, way_holding, Leads}
use Rattle.jxl_list_rules.proofs.Goes.{Goes, puts, waits, comes}

-- within the limit all input is there, and nothing beyond it
step_within : (p : ContainerParser) (s : List ℕ) → p.total + length s ≤ limit → step_of p s ≡ counting false p (Boxes.step_of p.boxes s)
unfolding step_of
step_within p s h = rw (le-ltb (roomOf p) (length s) (omega arith), take_all (roomOf p) s (omega arith))

-- a payload of which something is left behind n bytes shows all of them
part_goes_on : (j : JxlpIndexState) (k : BitstreamKind) (l : BytesLeft) (n : ℕ) → under 1 (less l n) ≡ false
    → code_part j k l n ≡ shows (E.Codestream 0 n) (in_code k (less l n) false j) n
part_goes_on j k ToEnd n u = refl
part_goes_on j k (Bytes m) n u = rw (lt-leb m n (omega (arith, ltb-false (m - n) 1 u)))

-- the joiner holds the part up to the total, and hands nothing back
grows_by : (a len tot total n : ℕ) → a + len ≡ total
    → adding (Some (carrying (E.Codestream a len) tot)) (carrying (E.Codestream 0 n) (total + n)) ≡ added None (Some (carrying (E.Codestream a (total + n - a)) (total + n)))
grows_by a len tot total n e =
    let there : a + len ≡ total + n - n = omega arith in
    rw (eq-eqb (a + len) (total + n - n) there)

module _ (a len tot total header room : ℕ) (k : BitstreamKind) (l : BytesLeft) (j : JxlpIndexState) (o : over_index j ≡ false) (there : a + len ≡ total) where
  abbrev first : ContainerParser
  first = counted (in_code k l false j) total header

  abbrev left_in : ℕ → ContainerParser
  left_in n = counted (in_code k (less l n) false j) (total + n) header

  abbrev longer_part : ℕ → Option FileEvent
  longer_part n = Some (carrying (E.Codestream a (total + n - a)) (total + n))

  abbrev then : ℕ → Turned
  then n = over (Some S.Want) (left_in n) (longer_part n) n

  all_shown : (s : List ℕ) → 0 < length s → under 1 (less l (length s)) ≡ false → total + length s ≤ limit
      → step_of first s ≡ shows (carrying (E.Codestream 0 (length s)) (total + length s)) (left_in (length s)) (length s)
  all_shown s some u f =
      step_within first s f
      ∙ ap (counting false first) (step_code j o k l false s ∙ code_shows j k l s some ∙ part_goes_on j k l (length s) u)

  goes_inside : (s : List ℕ) → 0 < length s → under 1 (less l (length s)) ≡ false → total + length s ≤ limit
      → Goes s room first (Some (carrying (E.Codestream a len) tot)) 0 (then (length s))
  goes_inside s some u f =
      let n = length s in
      let h = Some (carrying (E.Codestream a len) tot) in
      let e = carrying (E.Codestream 0 n) (total + n) in
      let grown : adding h e ≡ added None (longer_part n) = grows_by a len tot total n there in
      let none : length (line_of h e) ≡ 0 = ap (λ (y : Added). length (lines_of (handed y.out))) grown in
      let rest : step_of (left_in n) (drop n s) ≡ wants (left_in n) 0 = ap (step_of (left_in n)) (drop-length s) ∙ empty_feed (left_in n) refl in
      puts {room = room} {left = room} {k = 0} {m = n} {c = n} {p = first} {q = left_in n} {h = h} {t = then n} {u = then n} {e = e} (all_shown s some u f)
      (omega arith)
      (omega (arith, none))
      (ap (λ (y : Added). behind (lines_of (handed y.out)) (then n)) (sym grown))
      (subst (λ (y : Added). Goes s room (left_in n) y.next.held n (then n)) (sym grown)
      (waits {k = n} {c = 0} {q = left_in n} rest (ap (over (Some S.Want) (left_in n) (longer_part n)) (sym (add-zero n)))))

  turn_inside : (s : List ℕ) → 0 < length s → under 1 (less l (length s)) ≡ false → total + length s ≤ limit
      → turn_of s room first (Some (carrying (E.Codestream a len) tot)) ≡ then (length s)
  turn_inside s some u f = comes s room first (Some (carrying (E.Codestream a len) tot)) (goes_inside s some u f)

-- by what is looked at on the way
module _ (n a len tot total header : ℕ) (j : JxlpIndexState) where
  abbrev record_at : DetectState → ContainerParser
  record_at x = counted (at x j) total header

  abbrev part : Option FileEvent
  part = Some (carrying (E.Codestream a len) tot)

  behind_code : (k : BitstreamKind) (l : BytesLeft) (o u : Bool) → over_index j ≡ o → under 1 (less l n) ≡ u → 0 < n → a + len ≡ total → total + n ≤ limit
      → Leads (if o None (if u None (short_way (record_at (D.InCodestream k l false)) (in_code k (less l n) false j) a n))) (record_at (D.InCodestream k l false)) part n
  behind_code k l true u small left some there f = tt
  behind_code k l false true small left some there f = tt
  behind_code k l false false small left some there f =
      λ (s : List ℕ) (room : ℕ) (e : length s ≡ n).
      turn_inside a len tot total header room k l j small there s (omega (arith, e, some)) (ap (λ (x : ℕ). under 1 (less l x)) e ∙ left) (omega (arith, e, f))
      ∙ ap (λ (x : ℕ). over (Some S.Want) (counted (in_code k (less l x) false j) (total + x) header) (Some (carrying (E.Codestream a (total + x - a)) (total + x))) x) e

  behind_part : (x : DetectState) → 0 < n → a + len ≡ total → total + n ≤ limit → Leads (way_in (record_at x) a n x) (record_at x) part n
  behind_part D.WaitingSignature some there f = tt
  behind_part D.WaitingBoxHeader some there f = tt
  behind_part (D.WaitingJxlpIndex l) some there f = tt
  behind_part (D.WaitingInnerType l) some there f = tt
  behind_part (D.InAuxBox t l) some there f = tt
  behind_part (D.InCodestream k l true) some there f = tt
  behind_part (D.InCodestream k l false) some there f = behind_code k l (over_index j) (under 1 (less l n)) refl refl some there f
  behind_part (D.Refused k r) some there f = tt

  held_part : (x : DetectState) (z t u : Bool) → eqb n 0 ≡ z → leb (total + n) limit ≡ t → eqb (a + len) total ≡ u
      → Leads (if z None (if (and t u) (way_in (record_at x) a n x) None)) (record_at x) part n
  held_part x true t u some fits there = tt
  held_part x false true true some fits there =
      behind_part x (omega (arith, eqb-false n 0 some)) (eqb-true (a + len) total there) (leb-true (total + n) limit fits)
  held_part x false true false some fits there = tt
  held_part x false false u some fits there = tt

held_event : (p : ContainerParser) (e : ParseEvent) (tot n : ℕ) → Leads (way_holding p n e) p (Some (carrying e tot)) n
held_event p (E.BitstreamKind k) tot n = tt
held_event p E.NoMoreAuxBox tot n = tt
held_event p (E.Codestream a len) tot n =
    held_part n a len tot p.total p.header p.boxes.jxlp p.boxes.state (eqb n 0) (leb (p.total + n) limit) (eqb (a + len) p.total) refl refl refl
held_event p (E.AuxBoxStart t b e) tot n = tt
held_event p (E.AuxBoxData t a l) tot n = tt
held_event p (E.AuxBoxEnd t) tot n = tt

pub way_leads : WayLeads
way_leads p None n = tt
way_leads p (Some e) n = held_event p e.event e.total n
