-- Every file and every cut, ended: the theorems, each under the name that docs/PROMISES.md gives it.
use mathlib.Core.Path.{◌≡◌, refl, sym, ap, ◌∙◌, subst}
use mathlib.Core.Bool.{Bool, true, false}
use mathlib.Core.List.{List, [], ◌∷◌, ◌++◌, append-nil}
use Prim.Native.Nat.{ℕ, ◌+◌, ◌-◌, ◌≤◌}
use native.Mathlib.Omega.{arith}
use lib.ListN.{length, drop, length-append, length-drop}
use Rattle.jxl_cuts.specs.Feeding.{fed}
use Rattle.jxl_cuts.proofs.Steps.{settled}
use Rattle.jxl_cuts.proofs.Theorems.{unread}
use Rattle.jxl_refusals.specs.Refusals.{why}
use Rattle.jxl_refusals.specs.declared.BoxRefusal.{BoxRefusal}
use Rattle.jxl_refusals.specs.declared.BoxRefusal.TheVariants as Rule
use Rattle.jxl_events.specs.Total.{carrying}
use Rattle.jxl_events.specs.declared.FileEvent.{FileEvent}
use Rattle.jxl_grammar.specs.End.{Close, missing, owes, nothing, close_at, close_of}
use Rattle.jxl_base.proofs.Never.{never}
use Rattle.jxl_totals.specs.Step.{fresh, is_refused, refusal_of, visible, step_of}
use Rattle.jxl_totals.specs.Step as Step
use Rattle.jxl_totals.specs.Naming.{is_closed}
use Rattle.jxl_totals.specs.Parser.{parser}
use Rattle.jxl_totals.specs.Feeding.{Stop, Seen, want, refused, events_in, take, feeding, bytes_of, Takes, more, waits, ends}
use Rattle.jxl_totals.proofs.Counting.{shown_by}
use Rattle.jxl_totals.proofs.Lawful.{lawful}
use Rattle.jxl_totals.proofs.Marks.{Own, marks}
use Rattle.jxl_totals.proofs.Taking.{takes}
use Rattle.jxl_files.specs.Theorems.{All, listing}
use Rattle.jxl_files.proofs.Counts.{total_of_packets, nothing_more}
use Rattle.jxl_files.proofs.Listed.{Refusing, by_the_rule, by_limit, refusing_by}
use Rattle.jxl_files.proofs.Theorems.{whole_feed, every_cut, cut_file, most_events_lem, at_most_more}
use Rattle.jxl_totals.specs.declared.ContainerParser.{ContainerParser}
use Rattle.jxl_totals.specs.declared.FileRefusal.{FileRefusal}
use Rattle.jxl_endings.specs.End.{Ended, end_of}
use Rattle.jxl_endings.specs.End as End
use Rattle.jxl_endings.specs.Ended.{placed_at, owed_by, stop_by, next_by, finished_by, unread_of, finished, events, EndedFile, ended_as, ended_listing, ended, outcome}
use Rattle.jxl_endings.specs.Ended as Stop
use Rattle.jxl_endings.specs.Laws.{Owed, none, one, Kept}
use Rattle.jxl_endings.specs.Theorems.{EveryEnd, EveryEndByName, Agrees, EveryCutEnded, EndCounts, DoneReadsAll, MostEventsEnded, AtMostMoreEnded}
use Rattle.jxl_endings.proofs.Laws.{Stands, open_still, held, stands, end_open, end_repeats, end_keeps, step_again, refused_end_stays, repeats_holds}

-- the rules' own refusals do not close
own_open : (r : BoxRefusal) → Own r → is_closed r ≡ false
own_open Rule.ShortSize o = refl
own_open Rule.ExtendedSize o = refl
own_open Rule.SecondJxlc o = refl
own_open Rule.JxlcAfterJxlp o = refl
own_open Rule.JxlpTooSmall o = refl
own_open Rule.JxlpAfterJxlc o = refl
own_open Rule.JxlpAfterLast o = refl
own_open (Rule.WrongIndex found expected) o = refl
own_open Rule.BrobTooSmall o = refl
own_open Rule.ImpossibleRecord o = refl
own_open Rule.ValidationFailed o = refl
own_open Rule.StreamLimit o = refl
own_open Rule.CutShort o = refl
own_open Rule.Closed o = absurd o

-- where a feed stopped: one that wants more can go on, and a refusal is what an end answers too
abbrev pub Settles : Stop → ContainerParser → Type 0
Settles want q = is_refused q ≡ false
Settles (refused w) q = (u : List ℕ) → end_of q u ≡ End.refuses w q

pub settles : {p : ContainerParser} {at : ℕ} {s u : List ℕ} {r : Seen} → is_refused p ≡ false → Takes p at s r u → Settles r.stop r.next
settles {p} {s = s} o (more {q = q} k t) = settles (rw (shown_by p s k).0 at (marks p.boxes (visible p s))).1 t
settles {p} {s = s} o (waits {q = q} {c = c} k) = go (stands q)
  where
    go : Stands q → is_refused q ≡ false
    go (open_still e) = e
    go (held h) = let again = step_again (drop c s) h in let waits = settled parser lawful p s k in never cc
settles {p} {s = s} o (ends {q = q} {c = c} {w = w} k) = λ u. end_repeats p q s u w c k (go (refusing_by p s k))
  where
    go : Refusing p s w q c → is_closed w.rule ≡ false
    go (by_the_rule h next why) = own_open w.rule ((rw h at (marks p.boxes (visible p s))) o)
    go (by_limit h e next why) = ap (λ (x : FileRefusal). is_closed x.rule) why

pub feeding_settles : (p : ContainerParser) (xs : List (List ℕ)) → is_refused p ≡ false → Settles (feeding p xs).stop (feeding p xs).next
feeding_settles p xs o =
    let cut = every_cut p xs o in
    let all = whole_feed p (bytes_of xs) in
    let stop : (feeding p xs).stop ≡ (take p (bytes_of xs)).stop = cut.stop_is ∙ ap (λ (r : Seen). r.stop) all in
    let next : (feeding p xs).next ≡ (take p (bytes_of xs)).next = cut.next_is ∙ ap (λ (r : Seen). r.next) all in
    subst (λ (w : Stop). Settles w (feeding p xs).next) (sym stop)
    (subst (Settles (take p (bytes_of xs)).stop) (sym next) (settles o (takes p p.total (bytes_of xs)).1))

-- what was seen, and ended, is what its listing says, ended
pub ends_as_listed : (s u : List ℕ) (r : Seen) → drop r.consumed s ≡ u → Settles r.stop r.next
    → outcome (finished_by r (end_of r.next u)) ≡ ended_listing (listing s r)
ends_as_listed s u r l h = go r.stop refl h
  where
    by_close : (c : Close) → r.stop ≡ want → close_of r.next.boxes u ≡ c → end_of r.next u ≡ End.closing r.next c
        → outcome (finished_by r (end_of r.next u)) ≡ ended_listing (listing s r)
    by_close missing w c e = rw (e, w, l, c)
    by_close (owes x) w c e = rw (e, w, l, c)
    by_close nothing w c e = rw (e, w, l, c)

    go : (w : Stop) → r.stop ≡ w → Settles w r.next → outcome (finished_by r (end_of r.next u)) ≡ ended_listing (listing s r)
    go want e o = by_close (close_of r.next.boxes u) e refl (end_open r.next u o)
    go (refused w) e o = rw (o u, e)

by_rule : (xs : List (List ℕ)) → outcome (finished fresh xs) ≡ ended_listing (listing (bytes_of xs) (feeding fresh xs))
by_rule xs =
    let r = feeding fresh xs in
    let all : r.consumed ≡ r.consumed - 0 = omega arith in
    ends_as_listed (bytes_of xs) (unread_of fresh xs r) r (ap (λ (n : ℕ). drop n (bytes_of xs)) all) (feeding_settles fresh xs refl)

-- by the rule that broke
pub every_end_by_rule : (xs : List (List ℕ)) → outcome (finished fresh xs) ≡ ended (bytes_of xs)
every_end_by_rule xs = by_rule xs ∙ ap ended_listing (cut_file xs)

pub every_end_by_name : EveryEndByName
every_end_by_name name xs = ap (ended_as name) (every_end_by_rule xs)

pub every_end : EveryEnd
every_end = every_end_by_name why

pub every_cut_ended : EveryCutEnded
every_cut_ended p xs o =
    let cut = every_cut p xs o in
    let one : List (List ℕ) = bytes_of xs ∷ [] in
    let left : unread_of p xs (feeding p xs) ≡ unread_of p one (feeding p one) = λ i. drop (cut.consumed_is i - p.total) (sym (append-nil (bytes_of xs)) i) in
    let same : end_of (feeding p xs).next (unread_of p xs (feeding p xs)) ≡ end_of (feeding p one).next (unread_of p one (feeding p one)) = λ i. end_of (cut.next_is i) (left i) in
    record {
      events_are = cut.events_are;
      owed_is = λ i. owed_by (cut.consumed_is i) (same i);
      consumed_is = cut.consumed_is;
      stop_is = ap stop_by same;
      next_is = ap next_by same;
    }

pub done_reads_all : DoneReadsAll
done_reads_all p xs o e = go (feeding p xs).stop (feeding_settles p xs o)
  where
    r : Seen
    r = feeding p xs

    -- nothing is unread where nothing is missing
    by_left : (u : List ℕ) → unread_of p xs r ≡ u → stop_by (End.closing r.next (close_of r.next.boxes u)) ≡ Stop.done → u ≡ []
    by_left [] l h = refl
    by_left (x ∷ u) l h = never cc

    further : p.total ≤ r.consumed
    further =
        let cut = every_cut p xs o in
        omega (arith, (unread (takes p p.total (bytes_of xs)).1).0, cut.consumed_is, ap (λ (x : Seen). x.consumed) (whole_feed p (bytes_of xs)))

    go : (w : Stop) → Settles w r.next → r.consumed ≡ p.total + length (bytes_of xs)
    go want h =
        let none : unread_of p xs r ≡ [] = by_left (unread_of p xs r) refl (ap stop_by (sym (end_open r.next (unread_of p xs r) h)) ∙ e) in
        omega (arith, further, nothing_more p xs, length-drop (r.consumed - p.total) (bytes_of xs), ap length none)
    go (refused w) h = let told = ap stop_by (sym (h (unread_of p xs r))) ∙ e in never cc

-- at most one event is owed
owed_few : {t : ℕ} {es : List FileEvent} (n : ℕ) → Owed t es → length (placed_at n es) ≤ 1
owed_few n none = omega arith
owed_few n (one o e) = omega arith

owed_most : (p : ContainerParser) (n : ℕ) (e : Ended) → Kept p e → length (owed_by n e) ≤ 1
owed_most p n (End.done es q) k = owed_few n k.0
owed_most p n (End.refuses w q) k = omega arith

one_owed : (p : ContainerParser) (xs : List (List ℕ)) → length (finished p xs).owed ≤ 1
one_owed p xs =
    let r = feeding p xs in
    owed_most r.next r.consumed (end_of r.next (unread_of p xs r)) (end_keeps r.next (unread_of p xs r))

-- of no packets nothing is shown
none_shown : (p : ContainerParser) → events_in (feeding p []).shown ≡ []
unfolding fed
none_shown p = refl

pub most_events_ended : MostEventsEnded
most_events_ended p [] = omega (arith, one_owed p [], ap length (none_shown p), length-append (events_in (finished p []).shown) (finished p []).owed)
most_events_ended p (x ∷ xs) =
    omega (arith, one_owed p (x ∷ xs), most_events_lem p x xs, length-append (events_in (finished p (x ∷ xs)).shown) (finished p (x ∷ xs)).owed)

pub at_most_more_ended : AtMostMoreEnded
at_most_more_ended p x xs o =
    let one : List (List ℕ) = bytes_of (x ∷ xs) ∷ [] in
    omega (
      arith,
      at_most_more p x xs,
      ap length (every_cut_ended p (x ∷ xs) o).owed_is,
      length-append (events_in (finished p (x ∷ xs)).shown) (finished p (x ∷ xs)).owed,
      length-append (events_in (finished p one).shown) (finished p one).owed,
    )

-- what an end keeps, counted
owed_counted : {t : ℕ} {es : List FileEvent} (n : ℕ) → Owed t es → t ≡ n → All (λ (e : FileEvent). e.total ≡ n) (placed_at n es)
owed_counted n none c = tt
owed_counted n (one o e) c = (e ∙ c, tt)

end_counted : (p : ContainerParser) (n : ℕ) (e : Ended) → Kept p e → p.total ≡ n → ((next_by e).total ≡ n) × All (λ (x : FileEvent). x.total ≡ n) (owed_by n e)
end_counted p n (End.done es q) k c = (k.1.1 ∙ c, owed_counted n k.0 c)
end_counted p n (End.refuses w q) k c = (k.1 ∙ c, tt)

-- a refusal that an end gives, by the record that it leaves: with the total, and CutShort with it for its place too
refused_counted : (p : ContainerParser) (u : List ℕ) (w : FileRefusal) → stop_by (end_of p u) ≡ Stop.refused w → (w.total ≡ p.total) × (w.rule ≡ Rule.CutShort → w.place ≡ p.total)
refused_counted p u w e = go (end_of p u) refl e
  where
    go : (x : Ended) → end_of p u ≡ x → stop_by x ≡ Stop.refused w → (w.total ≡ p.total) × (w.rule ≡ Rule.CutShort → w.place ≡ p.total)
    go (End.done es q) k e = never cc
    go (End.refuses v q) k e =
        let same : v ≡ w = cc in
        let stays = (refused_end_stays p q u v k []).0 in
        let told : v ≡ refusal_of v.rule q = (repeats_holds q v stays).1 in
        let total : q.total ≡ p.total = (rw k at (end_keeps p u)).1 in
        subst (λ (x : FileRefusal). (x.total ≡ p.total) × (x.rule ≡ Rule.CutShort → x.place ≡ p.total)) same
        (ap (λ (x : FileRefusal). x.total) told ∙ total, λ rule. ap (λ (x : FileRefusal). x.place) (told ∙ ap (λ (r : BoxRefusal). refusal_of r q) rule) ∙ total)

pub end_counts : EndCounts
end_counts p xs o =
    let r = feeding p xs in
    let u = unread_of p xs r in
    let total : r.next.total ≡ r.consumed = total_of_packets p xs in
    let counted = end_counted r.next r.consumed (end_of r.next u) (end_keeps r.next u) total in
    record {
      next_total = counted.0;
      owed_total = counted.1;
      stop_total = λ w e. (refused_counted r.next u w e).0 ∙ total;
      cut_place = λ w e rule. (refused_counted r.next u w e).1 rule ∙ total;
    }
