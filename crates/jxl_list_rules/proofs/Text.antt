-- The text of what is still to come, taken line by line.
use mathlib.Core.Path.{◌≡◌, refl, sym, ap, ◌∙◌, subst}
use mathlib.Core.List.{List, [], ◌∷◌, ◌++◌, append_assoc, append-nil}
use Prim.Native.Nat.{ℕ, ◌+◌, ◌-◌, ◌<◌, ◌≤◌, min}
use native.Mathlib.Nat.{add-zero}
use native.Mathlib.Omega.{arith}
use lib.ListN.{length, take, drop, length-drop}
use lib.Seq.{take_all, drop-drop}
use borrow.Author.Tests.{le-leb, lt-leb}
use Rattle.std.specs.Prelude.{Ok, Err}
use Rattle.jxl_cuts.specs.Feeding as AnyMachine
use Rattle.jxl_refusals.specs.Refusals.{why}
use Rattle.jxl_refusals.specs.declared.BoxRefusal.TheVariants as Rule
use Rattle.jxl_base.proofs.Never.{never}
use Rattle.jxl_events.specs.Event.{shifted}
use Rattle.jxl_events.specs.Total.{further, in_file, EndsAt, without_totals}
use Rattle.jxl_events.specs.declared.ParseEvent.{ParseEvent}
use Rattle.jxl_events.specs.declared.ParseEvent.TheVariants as E
use Rattle.jxl_events.specs.declared.FileEvent.{FileEvent}
use Rattle.jxl_events.proofs.Shifted.{in_file_there, in_file_anywhere}
use Rattle.jxl_totals.specs.Step.{Told, shows, wants, fresh, room, refusal_of, step_of}
use Rattle.jxl_totals.specs.Step as Step
use Rattle.jxl_totals.specs.Parser.{parser}
use Rattle.jxl_totals.specs.Feeding.{Stop, Seen, events, joined, followed, placed, more, waits, ends}
use Rattle.jxl_totals.specs.Feeding as Feeding
use Rattle.jxl_endings.specs.End.{Ended, done, refuses, end_of}
use Rattle.jxl_endings.specs.Ended.{placed_at, finished_by, ended_listing, outcome}
use Rattle.jxl_endings.specs.Laws.{Owable, side_ends, empty_code, no_more, Owed, none, one}
use Rattle.jxl_endings.proofs.Laws.{Holds, end_again, step_again, done_holds, end_keeps}
use Rattle.jxl_endings.proofs.Theorems.{settles, ends_as_listed}
use Rattle.jxl_totals.specs.declared.ContainerParser.{ContainerParser}
use Rattle.jxl_totals.specs.declared.FileRefusal.{FileRefusal}
use Rattle.jxl_totals.proofs.Laws.{every_step, step_counts}
use Rattle.jxl_totals.proofs.Taking.{takes, take_is}
use Rattle.jxl_files.proofs.Counts.{total_of_packets}
use Rattle.jxl_files.proofs.Theorems.{whole_feed, nothing_to_join, whole_file}
use Rattle.jxl_lines.specs.Lines.{printed, text}
use Rattle.jxl_lines.specs.Pasting.{pasted}
use Rattle.jxl_lines.specs.Putting.{leaves}
use Rattle.jxl_lines.specs.declared.Line.{Line}
use Rattle.jxl_lines.specs.declared.Line.TheVariants as L
use Rattle.jxl_lines.specs.declared.StopWord.{StopWord}
use Rattle.jxl_lines.specs.declared.StopWord.TheVariants as S
use Rattle.jxl_list_rules.specs.declared.AfterStep.{AfterStep}
use Rattle.jxl_list_rules.specs.Listed.{texts, lines_of, shown_lines, end_lines, lines_from, text_of, listing_text, file_text, in_files, end_text, next_end, next_in, next_of, list_of}

-- what a step that tells an event counts
pub record CountsShown (p q : ContainerParser) (e : FileEvent) (c : ℕ) : Type 0 where
  pub next_total : q.total ≡ p.total + c
  pub event_total : e.total ≡ p.total + c
  pub within : c ≤ room p
  pub ends_there : EndsAt c e.event

module _ (p : ContainerParser) (s : List ℕ) where
  pub shown_counts : {e : FileEvent} {q : ContainerParser} {c : ℕ} → step_of p s ≡ shows e q c → CountsShown p q e c
  shown_counts st =
      let k = rw st at (step_counts p s) in
      record { next_total = k.0; event_total = k.1 ∙ k.0; within = k.2; ends_there = k.3 }

  pub wants_counts : {q : ContainerParser} {c : ℕ} → step_of p s ≡ wants q c → (q.total ≡ p.total + c) × (c ≤ room p)
  wants_counts st = rw st at (step_counts p s)

  pub refuses_counts : {r : FileRefusal} {q : ContainerParser} {c : ℕ} → step_of p s ≡ Step.refuses r q c → (q.total ≡ p.total + c) × (c ≤ room p)
  refuses_counts st = let k = rw st at (step_counts p s) in (k.0, k.2)

-- an event's place in the file is where it stands behind the bytes consumed before
ends_further : (n c : ℕ) (e : ParseEvent) → EndsAt c e → EndsAt (n + c) (shifted n e)
ends_further n c (E.BitstreamKind k) h = tt
ends_further n c E.NoMoreAuxBox h = tt
ends_further n c (E.Codestream a l) h = omega arith
ends_further n c (E.AuxBoxStart t b e) h = tt
ends_further n c (E.AuxBoxData t a l) h = omega arith
ends_further n c (E.AuxBoxEnd t) h = tt

pub in_file_further : {p q : ContainerParser} {e : FileEvent} {c : ℕ} → CountsShown p q e c → further p.total e ≡ in_file e
in_file_further {p} {q} {e} {c} k =
    let there : EndsAt e.total (shifted p.total e.event) = rw k.event_total (ends_further p.total c e.event k.ends_there) in
    sym (in_file_there (further p.total e) there) ∙ in_file_anywhere p.total e

-- a step on the input from its byte k on
module _ (p : ContainerParser) (s : List ℕ) (k : ℕ) (h : k ≤ length s) where
  pub far : {r t : Told} → r ≡ step_of p (take (length s - k) (drop k s)) → r ≡ t → step_of p (drop k s) ≡ t
  far e q = ap (step_of p) (sym (take_all (length s - k) (drop k s) (omega (arith, length-drop k s)))) ∙ sym e ∙ q

  pub shown_fits : {e : FileEvent} {q : ContainerParser} {c : ℕ} → step_of p (drop k s) ≡ shows e q c → k + c ≤ length s
  shown_fits st = omega (arith, (rw st at (every_step p (drop k s))).0, length-drop k s)

  pub wants_fits : {q : ContainerParser} {c : ℕ} → step_of p (drop k s) ≡ wants q c → k + c ≤ length s
  wants_fits st = omega (arith, (rw st at (every_step p (drop k s))).0, length-drop k s)

  pub refuses_fits : {q : ContainerParser} {c : ℕ} {r : FileRefusal} → step_of p (drop k s) ≡ Step.refuses r q c → k + c ≤ length s
  refuses_fits st = omega (arith, (rw st at (every_step p (drop k s))).0, length-drop k s)

-- how many events the input has from its byte k on
abbrev pub count : ContainerParser → ℕ → List ℕ → ℕ
count p k s = length (Feeding.take p (drop k s)).shown

module _ (p : ContainerParser) (s : List ℕ) (k : ℕ) where
  pub taken_shown : {e : FileEvent} {q : ContainerParser} {c : ℕ} → step_of p (drop k s) ≡ shows e q c
      → Feeding.take p (drop k s) ≡ followed (placed p.total (drop k s) e c ∷ []) (Feeding.take q (drop (k + c) s))
  taken_shown {e} {q} {c} st =
      take_is (more st (takes q (p.total + c) (drop c (drop k s))).1)
      ∙ ap (λ (l : List ℕ). followed (placed p.total (drop k s) e c ∷ []) (AnyMachine.take parser q (p.total + c) l)) (drop-drop c k s)
      ∙ ap (λ (n : ℕ). followed (placed p.total (drop k s) e c ∷ []) (AnyMachine.take parser q n (drop (k + c) s))) (sym (shown_counts p (drop k s) st).next_total)

-- an event that an end owes shows nothing, so its place in the file is where all is consumed
owable_ends : {e : ParseEvent} → Owable e → EndsAt 0 e
owable_ends side_ends = tt
owable_ends empty_code = refl
owable_ends no_more = tt

owed_in_file : {n : ℕ} {es : List FileEvent} → Owed n es → in_files es ≡ placed_at n es
owed_in_file none = refl
owed_in_file {n} (one {e = e} o t) =
    let there : EndsAt e.total (shifted n e.event) =
    subst (λ (m : ℕ). EndsAt m (shifted n e.event)) (add-zero n ∙ sym t) (ends_further n 0 e.event (owable_ends o)) in
    ap (λ (d : FileEvent). d ∷ []) (sym (in_file_anywhere n e) ∙ in_file_there (further n e) there)

-- at most one
one_owed : {n : ℕ} {e : FileEvent} {es : List FileEvent} → Owed n (e ∷ es) → es ≡ []
one_owed (one o t) = refl

-- what was seen of the file, and ended, line by line
abbrev pub ending_of : Seen → List ℕ → Ended
ending_of r f = end_of r.next (drop r.consumed f)

abbrev pub seen_lines : Seen → List ℕ → List Line
seen_lines r f = shown_lines (without_totals (events r)) ++ end_lines (ending_of r f) r.consumed

-- a record that was ended: nothing but the stop is to come
module _ (q : ContainerParser) (f : List ℕ) (h : Holds q Rule.Closed) where
  closed_take : Feeding.take q (drop q.total f) ≡ Feeding.stops (Feeding.refused (refusal_of Rule.Closed q)) q q.total
  closed_take = take_is (ends (step_again (drop q.total f) h)) ∙ ap (Feeding.stops (Feeding.refused (refusal_of Rule.Closed q)) q) (add-zero q.total)

  closed_lines : lines_from q f ≡ L.Stopped S.Done q.total ∷ []
  closed_lines = ap (λ (r : Seen). seen_lines r f) closed_take ∙ ap (λ (e : Ended). end_lines e q.total) (end_again (drop q.total f) h)

-- where a step does not show an event: the end call, from the record r behind c bytes
module _ (p : ContainerParser) (f : List ℕ) (w : Stop) (r : ContainerParser) (c : ℕ)
    (seen : Feeding.take p (drop p.total f) ≡ Feeding.stops w r (p.total + c)) (count : r.total ≡ p.total + c) where
  abbrev u : List ℕ
  u = drop c (drop p.total f)

  lines_ended : {x : Ended} → end_of r u ≡ x → lines_from p f ≡ end_lines x r.total
  lines_ended e =
      ap (λ (s : Seen). seen_lines s f) seen
      ∙ ap (λ (l : List ℕ). end_lines (end_of r l) (p.total + c)) (sym (drop-drop c p.total f))
      ∙ (λ i. end_lines (e i) (sym count i))

  ended_shown : {e : ParseEvent} → (next_end (end_of r u)).answer ≡ Ok e → lines_from p f ≡ L.Shown e ∷ lines_from (next_end (end_of r u)).parser f
  ended_shown {e} n = go (end_of r u) refl n
    where
      one_event : (d : FileEvent) (es : List FileEvent) (o : ContainerParser) → es ≡ [] → end_of r u ≡ done (d ∷ es) o → (in_file d).event ≡ e
          → lines_from p f ≡ L.Shown e ∷ lines_from o f
      one_event d es o alone k event =
          let last : end_of r u ≡ done (d ∷ []) o = k ∙ ap (λ (l : List FileEvent). done (d ∷ l) o) alone in
          let total : o.total ≡ r.total = (rw last at (end_keeps r u)).1.1 in
          let then : lines_from o f ≡ L.Stopped S.Done r.total ∷ [] =
          closed_lines o f (done_holds r u last) ∙ ap (λ (m : ℕ). L.Stopped S.Done m ∷ []) total in
          lines_ended last ∙ (λ i. L.Shown (event i) ∷ sym then i)

      go : (x : Ended) → end_of r u ≡ x → (next_end x).answer ≡ Ok e → lines_from p f ≡ L.Shown e ∷ lines_from (next_end x).parser f
      go (done [] o) k n = never cc
      go (done (d ∷ es) o) k n =
          let event : (in_file d).event ≡ e = cc in
          one_event d es o (one_owed (rw k at (end_keeps r u)).0) k event
      go (refuses x o) k n = never cc

  ended_stopped : {v : StopWord} → (next_end (end_of r u)).answer ≡ Err v → lines_from p f ≡ L.Stopped v (next_end (end_of r u)).parser.total ∷ []
  ended_stopped {v} n = go (end_of r u) refl n
    where
      go : (x : Ended) → end_of r u ≡ x → (next_end x).answer ≡ Err v → lines_from p f ≡ L.Stopped v (next_end x).parser.total ∷ []
      go (done [] o) k n =
          let word : S.Done ≡ v = cc in
          let total : r.total ≡ o.total = sym (rw k at (end_keeps r u)).1.1 in
          lines_ended k ∙ (λ i. L.Stopped (word i) (total i) ∷ [])
      go (done (d ∷ es) o) k n = never cc
      go (refuses x o) k n =
          let word : printed (why x.rule) ≡ v = cc in
          let total : r.total ≡ o.total = sym (rw k at (end_keeps r u)).1 in
          lines_ended k ∙ (λ i. L.Stopped (word i) (total i) ∷ [])

module _ (p : ContainerParser) (f : List ℕ) where
  -- an event's line, and the rest
  pub following_shown : {n : AfterStep} {e : ParseEvent} → n ≡ next_of p (drop p.total f) → n.answer ≡ Ok e → lines_from p f ≡ L.Shown e ∷ lines_from n.parser f
  following_shown {n} {e} so =
      subst (λ (x : AfterStep). x.answer ≡ Ok e → lines_from p f ≡ L.Shown e ∷ lines_from x.parser f) (sym so) (go (step_of p (drop p.total f)) refl)
    where
      go : (t : Told) → step_of p (drop p.total f) ≡ t → (next_in (drop p.total f) t).answer ≡ Ok e
          → lines_from p f ≡ L.Shown e ∷ lines_from (next_in (drop p.total f) t).parser f
      go (shows d r c) st n =
          let counts = shown_counts p (drop p.total f) st in
          let event : (in_file d).event ≡ e = cc in
          let there : (further p.total d).event ≡ e = ap (λ (x : FileEvent). x.event) (in_file_further counts) ∙ event in
          let taken : Feeding.take p (drop p.total f) ≡ followed (placed p.total (drop p.total f) d c ∷ []) (Feeding.take r (drop r.total f)) =
          taken_shown p f p.total st
          ∙ ap (λ (m : ℕ). followed (placed p.total (drop p.total f) d c ∷ []) (Feeding.take r (drop m f))) (sym counts.next_total) in
          ap (λ (x : Seen). seen_lines x f) taken ∙ ap (λ (x : ParseEvent). L.Shown x ∷ lines_from r f) there
      go (wants r c) st n = ended_shown p f Feeding.want r c (take_is (waits st)) (wants_counts p (drop p.total f) st).0 n
      go (Step.refuses x r c) st n = ended_shown p f (Feeding.refused x) r c (take_is (ends st)) (refuses_counts p (drop p.total f) st).0 n

  -- the stop's line, and nothing more
  pub following_stopped : {n : AfterStep} {w : StopWord} → n ≡ next_of p (drop p.total f) → n.answer ≡ Err w → lines_from p f ≡ L.Stopped w n.parser.total ∷ []
  following_stopped {n} {w} so =
      subst (λ (x : AfterStep). x.answer ≡ Err w → lines_from p f ≡ L.Stopped w x.parser.total ∷ []) (sym so) (go (step_of p (drop p.total f)) refl)
    where
      go : (t : Told) → step_of p (drop p.total f) ≡ t → (next_in (drop p.total f) t).answer ≡ Err w
          → lines_from p f ≡ L.Stopped w (next_in (drop p.total f) t).parser.total ∷ []
      go (shows d r c) st n = never cc
      go (wants r c) st n = ended_stopped p f Feeding.want r c (take_is (waits st)) (wants_counts p (drop p.total f) st).0 n
      go (Step.refuses x r c) st n = ended_stopped p f (Feeding.refused x) r c (take_is (ends st)) (refuses_counts p (drop p.total f) st).0 n

-- a step that does not show an event leads to the end call, made with the bytes behind those consumed
module _ (p : ContainerParser) (f : List ℕ) where
  stops_behind : (q : ContainerParser) (c : ℕ) → q.total ≡ p.total + c → next_of p (drop p.total f) ≡ next_end (end_of q (drop c (drop p.total f)))
      → next_of p (drop p.total f) ≡ next_end (end_of q (drop q.total f))
  stops_behind q c t n = n ∙ ap (λ (u : List ℕ). next_end (end_of q u)) (drop-drop c p.total f ∙ ap (λ (m : ℕ). drop m f) (sym t))

  pub stops_wanting : {q : ContainerParser} {c : ℕ} → step_of p (drop p.total f) ≡ wants q c → next_of p (drop p.total f) ≡ next_end (end_of q (drop q.total f))
  stops_wanting {q} {c} st = stops_behind q c (wants_counts p (drop p.total f) st).0 (ap (next_in (drop p.total f)) st)

  pub stops_refusing : {r : FileRefusal} {q : ContainerParser} {c : ℕ} → step_of p (drop p.total f) ≡ Step.refuses r q c
      → next_of p (drop p.total f) ≡ next_end (end_of q (drop q.total f))
  stops_refusing {r} {q} {c} st = stops_behind q c (refuses_counts p (drop p.total f) st).0 (ap (next_in (drop p.total f)) st)

-- the end call on the bytes from k on
pub far_end : (p : ContainerParser) (s : List ℕ) (k : ℕ) → end_of p (take (length s - k) (drop k s)) ≡ end_of p (drop k s)
far_end p s k = ap (end_of p) (take_all (length s - k) (drop k s) (omega (arith, length-drop k s)))

-- the lines of two rows of events
pub texts_append : (xs ys : List ParseEvent) → texts (xs ++ ys) ≡ texts xs ++ texts ys
texts_append [] ys = refl
texts_append (x ∷ xs) ys = ap (λ (l : List ℕ). text (L.Shown x) ++ l) (texts_append xs ys) ∙ sym (append_assoc (text (L.Shown x)) (texts xs) (texts ys))

-- what was seen, with its events, and ended, is the text of the outcome
pub outcome_text : (r : Seen) (u : List ℕ) → r.next.total ≡ r.consumed
    → listing_text (outcome (finished_by r (end_of r.next u))) ≡ lines_of (joined (events r)) ++ end_text (end_of r.next u) r.consumed
outcome_text r u t = go (end_of r.next u) refl
  where
    es : List ParseEvent
    es = without_totals (joined (events r))

    go : (x : Ended) → end_of r.next u ≡ x → listing_text (outcome (finished_by r x)) ≡ texts es ++ end_text x r.consumed
    go (done os q) k =
        let there : placed_at r.consumed os ≡ in_files os = ap (λ (n : ℕ). placed_at n os) (sym t) ∙ sym (owed_in_file (rw k at (end_keeps r.next u)).0) in
        ap (λ (l : List ℕ). l ++ text (L.Stopped S.Done r.consumed)) (texts_append es (without_totals (placed_at r.consumed os)))
        ∙ append_assoc (texts es) (lines_of (placed_at r.consumed os)) (text (L.Stopped S.Done r.consumed))
        ∙ ap (λ (l : List FileEvent). texts es ++ (lines_of l ++ text (L.Stopped S.Done r.consumed))) there
    go (refuses w q) k = ap (λ (l : List ParseEvent). texts l ++ text (L.Stopped (printed (why w.rule)) r.consumed)) (append-nil es)

-- the text of lines
text_shown : (es : List ParseEvent) (ls : List Line) → text_of (shown_lines es ++ ls) ≡ texts es ++ text_of ls
text_shown [] ls = refl
text_shown (e ∷ es) ls = ap (λ (l : List ℕ). text (L.Shown e) ++ l) (text_shown es ls) ∙ sym (append_assoc (text (L.Shown e)) (texts es) (text_of ls))

text_ended : (x : Ended) (n : ℕ) → text_of (end_lines x n) ≡ end_text x n
text_ended (done es q) n =
    text_shown (without_totals (in_files es)) (L.Stopped S.Done n ∷ []) ∙ ap (λ (l : List ℕ). lines_of (in_files es) ++ l) (append-nil (text (L.Stopped S.Done n)))
text_ended (refuses r q) n = append-nil (text (L.Stopped (printed (why r.rule)) n))

-- all of it
pub text_of_file : (f : List ℕ) → text_of (lines_from fresh f) ≡ file_text f
unfolding file_text
text_of_file f =
    let seen = Feeding.take fresh f in
    let total : seen.next.total ≡ seen.consumed = ap (λ (r : Seen). r.next.total) (sym (whole_feed fresh f)) ∙ total_of_packets fresh (f ∷ []) ∙ ap (λ (r : Seen). r.consumed) (whole_feed fresh f) in
    text_shown (without_totals (events seen)) (end_lines (ending_of seen f) seen.consumed)
    ∙ ap (λ (l : List ℕ). lines_of (events seen) ++ l) (text_ended (ending_of seen f) seen.consumed)
    ∙ ap (λ (l : List FileEvent). lines_of l ++ end_text (ending_of seen f) seen.consumed) (sym (nothing_to_join fresh f))
    ∙ sym (outcome_text seen (drop seen.consumed f) total)
    ∙ ap listing_text (ends_as_listed f (drop seen.consumed f) seen refl (settles refl (takes fresh 0 f).1) ∙ ap ended_listing (whole_file f))

-- a listing that fits, and one that does not
pub list_fits : (d w : List ℕ) → length w ≤ length d → list_of d w ≡ leaves (Ok (length w)) (pasted d 0 w)
unfolding list_of
list_fits d w h = rw (le-leb (length w) (length d) h)

pub list_refused : (d w : List ℕ) → length d < length w → list_of d w ≡ leaves (Err (record { needed = min (length w) 18446744073709551615 })) d
unfolding list_of
list_refused d w h = rw (lt-leb (length w) (length d) h)
