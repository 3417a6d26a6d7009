-- Totals: of what is taken from an input, and of packets.
use mathlib.Core.Path.{◌≡◌, refl, sym, ap, ◌∙◌, subst}
use mathlib.Core.List.{List, [], ◌∷◌, ◌++◌}
use Prim.Native.Nat.{ℕ, ◌+◌, ◌-◌, ◌≤◌}
use native.Mathlib.Nat.{zero-add}
use native.Mathlib.Omega.{arith}
use lib.ListN.{length, drop, length-append, length-drop}
use Rattle.jxl_events.specs.Event.{shifted}
use Rattle.jxl_events.specs.Total.{EndsAt}
use Rattle.jxl_cuts.specs.Feeding as AnyMachine
use Rattle.jxl_cuts.proofs.Steps.{consumes}
use Rattle.jxl_cuts.proofs.Theorems.{unread}
use Rattle.jxl_totals.specs.Step.{limit}
use Rattle.jxl_totals.specs.Parser.{parser}
use Rattle.jxl_totals.specs.Feeding.{Stop, Shown, Seen, want, refused, Takes, more, waits, ends, feeding, bytes_of}
use Rattle.jxl_files.specs.Theorems.{All, TotalIsConsumed, TotalOfPackets, TotalOfRefusal, PayloadPlaces, StaysWithin, NothingMore}
use Rattle.jxl_totals.specs.declared.ContainerParser.{ContainerParser}
use Rattle.jxl_totals.proofs.Marks.{ends_ahead}
use Rattle.jxl_totals.proofs.Laws.{step_counts}
use Rattle.jxl_totals.proofs.Lawful.{lawful}
use Rattle.jxl_totals.proofs.Taking.{takes}

-- an event shown: it carries what is consumed, and its payload ends there
abbrev Right : Shown → Type 0
Right x = (x.event.total ≡ x.consumed) × EndsAt x.event.total x.event.event

-- a refusal carries what is consumed
abbrev Stopped : Stop → ℕ → Type 0
Stopped want n = Unit {0}
Stopped (refused r) n = r.total ≡ n

-- of what was seen of n bytes from `at` on
pub record Counted (at n : ℕ) (r : Seen) : Type 0 where
  pub shown_right : All Right r.shown
  pub next_total : r.next.total ≡ r.consumed
  pub stop_total : Stopped r.stop r.consumed
  pub within : at ≤ limit → r.consumed ≤ limit
  pub there : r.consumed ≤ at + n

all_append : (xs ys : List Shown) → All Right xs → All Right ys → All Right (xs ++ ys)
all_append [] ys a b = b
all_append (x ∷ xs) ys (p, a) b = (p, all_append xs ys a b)

taken : {p : ContainerParser} {at : ℕ} {s u : List ℕ} {r : Seen} → p.total ≡ at → Takes p at s r u → Counted at (length s) r
taken {p} {at} {s} l (more {q = q} {c = c} {e = e} {r = r} k t) =
    let counts = rw k at (step_counts p s) in
    let next = taken (counts.0 ∙ ap (λ (n : ℕ). n + c) l) t in
    let total : e.total ≡ at + c = counts.1 ∙ counts.0 ∙ ap (λ (n : ℕ). n + c) l in
    record {
      shown_right = ((total, subst (λ (n : ℕ). EndsAt n (shifted at e.event)) (sym total) (ends_ahead at c e.event counts.3)), next.shown_right);
      next_total = next.next_total;
      stop_total = next.stop_total;
      within = λ h. next.within (omega (arith, counts.2, l));
      there = omega (arith, next.there, length-drop c s, consumes parser lawful p s k);
    }
taken {p} {at} {s} l (waits {c = c} k) =
    let counts = rw k at (step_counts p s) in
    record { shown_right = tt; next_total = counts.0 ∙ ap (λ (n : ℕ). n + c) l; stop_total = tt; within = λ h. omega (arith, counts.1, l); there = omega (arith, (rw k at (lawful.kept p s)).0) }
taken {p} {at} {s} l (ends {c = c} k) =
    let counts = rw k at (step_counts p s) in
    let total = counts.0 ∙ ap (λ (n : ℕ). n + c) l in
    record { shown_right = tt; next_total = total; stop_total = counts.1 ∙ total; within = λ h. omega (arith, counts.2, l); there = omega (arith, (rw k at (lawful.kept p s)).0) }

fed : (xs : List (List ℕ)) (w : Stop) (p : ContainerParser) (at : ℕ) (u : List ℕ) → p.total ≡ at → Stopped w at → Counted at (length u + length (bytes_of xs)) (AnyMachine.fed parser w p at u xs)
unfolding AnyMachine.fed
fed [] w p at u l o = record { shown_right = tt; next_total = l; stop_total = o; within = λ h. h; there = omega arith }
fed (x ∷ xs) w p at u l o =
    let r : Seen = AnyMachine.take parser p at (u ++ x) in
    let first = taken l (takes p at (u ++ x)).1 in
    let then = fed xs r.stop r.next r.consumed (drop (r.consumed - at) (u ++ x)) first.next_total first.stop_total in
    record {
      shown_right = all_append r.shown (AnyMachine.fed parser r.stop r.next r.consumed (drop (r.consumed - at) (u ++ x)) xs).shown first.shown_right then.shown_right;
      next_total = then.next_total;
      stop_total = then.stop_total;
      within = λ h. then.within (first.within h);
      there = omega (
        arith,
        first.there,
        then.there,
        (unread (takes p at (u ++ x)).1).0,
        length-drop (r.consumed - at) (u ++ x),
        length-append u x,
        length-append x (bytes_of xs),
      );
    }

packets : (p : ContainerParser) (xs : List (List ℕ)) → Counted p.total (length (bytes_of xs)) (feeding p xs)
packets p xs = subst (λ (n : ℕ). Counted p.total n (feeding p xs)) (zero-add (length (bytes_of xs))) (fed xs want p p.total [] refl tt)

-- each part of what is right of all
each : {P Q : Shown → Type 0} → ((x : Shown) → P x → Q x) → (xs : List Shown) → All P xs → All Q xs
each f [] a = tt
each f (x ∷ xs) (p, a) = (f x p, each f xs a)

pub total_is_consumed : TotalIsConsumed
total_is_consumed p xs = each (λ x r. r.0) (feeding p xs).shown (packets p xs).shown_right

pub payload_places : PayloadPlaces
payload_places p xs = each (λ x r. r.1) (feeding p xs).shown (packets p xs).shown_right

pub total_of_packets : TotalOfPackets
total_of_packets p xs = (packets p xs).next_total

pub total_of_refusal : TotalOfRefusal
total_of_refusal p xs r e = rw e at (packets p xs).stop_total

pub nothing_more : NothingMore
nothing_more p xs = (packets p xs).there

pub stays_within : StaysWithin
stays_within p xs h = (packets p xs).within h
