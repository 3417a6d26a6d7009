-- A stream lists what its file does: each row takes what feeding takes (`RowFeeds`), the joiner hands back the joined events, and these, ended,
-- are the grammar's (`EveryEnd`).
use mathlib.Core.Path.{◌≡◌, refl, sym, ap, ◌∙◌, subst}
use mathlib.Core.List.{List, [], ◌∷◌, ◌++◌, append_assoc, append-nil}
use Prim.Native.Nat.{ℕ, ◌+◌, ◌-◌, ◌≤◌}
use native.Mathlib.Omega.{arith}
use lib.ListN.{length, drop}
use lib.Seq.{drop-drop, drop-append-le}
use Rattle.std.specs.Prelude.{Option, None}
use Rattle.jxl_cuts.specs.Feeding as AnyMachine
use Rattle.jxl_events.specs.Total.{EndsAt}
use Rattle.jxl_events.specs.declared.FileEvent.{FileEvent}
use Rattle.jxl_joiner.specs.Joiner.{handed, run}
use Rattle.jxl_totals.specs.Step.{fresh}
use Rattle.jxl_totals.specs.Parser.{parser}
use Rattle.jxl_totals.specs.Feeding.{Stop, Shown, Seen, want, events_in, events, joined, take, feeding, bytes_of}
use Rattle.jxl_totals.specs.declared.ContainerParser.{ContainerParser}
use Rattle.jxl_files.specs.Theorems.{All}
use Rattle.jxl_files.proofs.Counts.{total_of_packets, payload_places, nothing_more}
use Rattle.jxl_files.proofs.Theorems.{whole_feed}
use Rattle.jxl_file_laws.proofs.Joining.{joiner_joins}
use Rattle.jxl_endings.specs.End.{Ended, end_of}
use Rattle.jxl_endings.specs.Ended.{unread_of}
use Rattle.jxl_endings.proofs.Theorems.{every_end_by_rule}
use Rattle.jxl_lines.specs.declared.StopWord.{StopWord}
use Rattle.jxl_list_rules.specs.Listed.{lines_of, listing_text, file_text, end_text}
use Rattle.jxl_list_rules.specs.Theorems.{Feeds}
use Rattle.jxl_list_rules.specs.Turned.{Turned}
use Rattle.jxl_list_rules.specs.Row.{row_of}
use Rattle.jxl_list_rules.proofs.Rows.{row_feeds}
use Rattle.jxl_list_rules.proofs.Text.{outcome_text}
use Rattle.jxl_stream_rules.specs.Stream.{Read, packets, Listed, listing, RowsEnd, written}
use Rattle.jxl_stream_rules.specs.Theorems.{StreamLists}

events_append : (xs ys : List Shown) → events_in (xs ++ ys) ≡ events_in xs ++ events_in ys
events_append [] ys = refl
events_append (x ∷ xs) ys = ap (λ (l : List FileEvent). x.event ∷ l) (events_append xs ys)

-- what reads, listed, came to, and what feeding them comes to
pub record Goes (h : Option FileEvent) (s : Listed) (f : Seen) (start : ℕ) (all : List ℕ) : Type 0 where
  pub lines_are : (es : List FileEvent) → s.lines ++ lines_of (run s.held es) ≡ lines_of (run h (events f ++ es))
  pub parser_is : s.parser ≡ f.next
  pub total_is : s.parser.total ≡ f.consumed
  pub onward : start ≤ f.consumed
  pub unread_is : s.unread ≡ drop (f.consumed - start) all

-- the total of what is taken of one input
take_total : (p : ContainerParser) (s : List ℕ) → (take p s).next.total ≡ (take p s).consumed
take_total p s =
    ap (λ (r : Seen). r.next.total) (sym (whole_feed p s)) ∙ total_of_packets p (s ∷ []) ∙ ap (λ (r : Seen). r.consumed) (whole_feed p s)

take_within : (p : ContainerParser) (s : List ℕ) → (take p s).consumed ≤ p.total + length s
take_within p s = omega (arith, nothing_more p (s ∷ []), ap (λ (r : Seen). r.consumed) (whole_feed p s), ap length (append-nil s))

-- a part of the front dropped, and then more
drop_front : (a k : ℕ) (xs ys : List ℕ) → k ≤ length xs → drop a (drop k xs ++ ys) ≡ drop (k + a) (xs ++ ys)
drop_front a k xs ys h = ap (drop a) (sym (drop-append-le k xs ys h)) ∙ drop-drop a k (xs ++ ys)

goes : (xs : List Read) (w : Stop) (p : ContainerParser) (h : Option FileEvent) (u : List ℕ) → RowsEnd p h u xs
    → Goes h (listing p h u xs) (AnyMachine.fed parser w p p.total u (packets xs)) p.total (u ++ bytes_of (packets xs))
unfolding listing RowsEnd AnyMachine.fed
goes [] w p h u ends =
    let all : p.total - p.total ≡ 0 = omega arith in
    record {
      lines_are = λ es. refl;
      parser_is = refl;
      total_is = refl;
      onward = omega arith;
      unread_is = sym (ap (λ (n : ℕ). drop n (u ++ [])) all ∙ append-nil u);
    }
goes (x ∷ xs) w p h u ((v, stopped), ends) =
    let s = u ++ x.bytes in
    let t = row_of s x.rooms p h in
    let r = take p s in
    let row = row_feeds s x.rooms p h v stopped in
    let total : t.parser.total ≡ r.consumed = ap (λ (q : ContainerParser). q.total) row.parser_is ∙ take_total p s in
    let count : t.consumed ≡ r.consumed - p.total = omega (arith, row.consumed_is) in
    let far : t.consumed ≤ length s = omega (arith, row.consumed_is, take_within p s) in
    let one = goes xs r.stop t.parser t.held (drop t.consumed s) ends in
    let tail : AnyMachine.fed parser r.stop t.parser t.parser.total (drop t.consumed s) (packets xs) ≡ AnyMachine.fed parser r.stop r.next r.consumed (drop (r.consumed - p.total) s) (packets xs) =
    λ i. AnyMachine.fed parser r.stop (row.parser_is i) (total i) (drop (count i) s) (packets xs) in
    let rest : Goes t.held (listing t.parser t.held (drop t.consumed s) xs) (AnyMachine.fed parser r.stop r.next r.consumed (drop (r.consumed - p.total) s) (packets xs)) t.parser.total (drop t.consumed s ++ bytes_of (packets xs)) =
    subst (λ (f : Seen). Goes t.held (listing t.parser t.held (drop t.consumed s) xs) f t.parser.total (drop t.consumed s ++ bytes_of (packets xs))) tail one in
    let f = AnyMachine.fed parser r.stop r.next r.consumed (drop (r.consumed - p.total) s) (packets xs) in
    let sum : t.consumed + (f.consumed - t.parser.total) ≡ f.consumed - p.total = omega (arith, rest.onward, total, row.consumed_is) in
    record {
      lines_are =
          λ es. append_assoc t.lines (listing t.parser t.held (drop t.consumed s) xs).lines _
          ∙ ap (λ (l : List ℕ). t.lines ++ l) (rest.lines_are es)
          ∙ row.lines_are (events f ++ es)
          ∙ ap (λ (l : List FileEvent). lines_of (run h l)) (sym (append_assoc (events r) (events f) es) ∙ ap (λ (l : List FileEvent). l ++ es) (sym (events_append r.shown f.shown)));
      parser_is = rest.parser_is;
      total_is = rest.total_is;
      onward = omega (arith, rest.onward, total, row.consumed_is);
      unread_is =
          rest.unread_is
          ∙ drop_front (f.consumed - t.parser.total) t.consumed s (bytes_of (packets xs)) far
          ∙ ap (λ (n : ℕ). drop n (s ++ bytes_of (packets xs))) sum
          ∙ ap (drop (f.consumed - p.total)) (append_assoc u x.bytes (bytes_of (packets xs)));
    }

-- of a parser's events
all_end : (xs : List Shown) → All (λ (x : Shown). EndsAt x.event.total x.event.event) xs → All (λ (e : FileEvent). EndsAt e.total e.event) (events_in xs)
all_end [] a = tt
all_end (x ∷ xs) (p, a) = (p, all_end xs a)

pub stream_lists : StreamLists
unfolding file_text
stream_lists xs ends =
    let s = listing fresh None [] xs in
    let f = feeding fresh (packets xs) in
    let all = goes xs want fresh None [] ends in
    let u = unread_of fresh (packets xs) f in
    let handed_all : s.lines ++ lines_of (handed s.held) ≡ lines_of (joined (events f)) =
    all.lines_are [] ∙ ap (λ (l : List FileEvent). lines_of (run None l)) (append-nil (events f))
    ∙ ap lines_of (joiner_joins (events f) (all_end f.shown (payload_places fresh (packets xs)))) in
    let end_same : end_text (end_of s.parser s.unread) s.parser.total ≡ end_text (end_of f.next u) f.consumed =
    λ i. end_text (end_of (all.parser_is i) (all.unread_is i)) (all.total_is i) in
    sym (append_assoc s.lines (lines_of (handed s.held)) _)
    ∙ (λ i. handed_all i ++ end_same i)
    ∙ sym (outcome_text f u (total_of_packets fresh (packets xs)))
    ∙ ap listing_text (every_end_by_rule (packets xs))
