-- How a turn goes, with no count of its steps: what is proved of every turn goes by these four ways.
use mathlib.Core.Path.{◌≡◌, refl, sym, ap, ◌∙◌, subst}
use mathlib.Core.Bool.{Bool, true, false}
use mathlib.Core.List.{List}
use Prim.Native.Nat.{ℕ, zero, suc, ◌+◌, ◌-◌, ◌<◌, ◌≤◌}
use native.Mathlib.Omega.{arith}
use lib.Dec.{leb}
use lib.ListN.{length, drop}
use borrow.Author.Tests.{leb-true, leb-false}
use Rattle.std.specs.Prelude.{Option, None, Some}
use Rattle.jxl_refusals.specs.Refusals.{why}
use Rattle.jxl_events.specs.declared.FileEvent.{FileEvent}
use Rattle.jxl_totals.specs.Step.{Told, shows, wants, refuses, step_of}
use Rattle.jxl_totals.specs.Feeding.{Seen}
use Rattle.jxl_totals.specs.declared.ContainerParser.{ContainerParser}
use Rattle.jxl_totals.specs.declared.FileRefusal.{FileRefusal}
use Rattle.jxl_lines.specs.Lines.{printed}
use Rattle.jxl_lines.specs.declared.StopWord.TheVariants as S
use Rattle.jxl_list_rules.specs.Turned.{Turned, over, behind, line_of, held_then, turn_from, turn_of}
use Rattle.jxl_list_rules.proofs.Text.{count, taken_shown, shown_fits, wants_fits, refuses_fits}
use Rattle.jxl_list_rules.proofs.Turning.{turn_shown, turn_full, turn_wants, turn_refuses}

-- of an input s, from its byte k on: a line is put, and the turn goes on; the line has no room; more is wanted; the parser refuses
pub data Goes (s : List ℕ) : ℕ → ContainerParser → Option FileEvent → ℕ → Turned → Type 0 where
  puts : {room left k m c : ℕ} {p q : ContainerParser} {h : Option FileEvent} {t u : Turned} {e : FileEvent} → step_of p (drop k s) ≡ shows e q c → m ≡ k + c
      → room ≡ length (line_of h e) + left → u ≡ behind (line_of h e) t → Goes s left q (held_then h e) m t → Goes s room p h k u
  lacks : {room k c : ℕ} {p q : ContainerParser} {h : Option FileEvent} {u : Turned} {e : FileEvent} → step_of p (drop k s) ≡ shows e q c → room < length (line_of h e)
      → u ≡ over None p h k → Goes s room p h k u
  waits : {room k c : ℕ} {p q : ContainerParser} {h : Option FileEvent} {u : Turned} → step_of p (drop k s) ≡ wants q c → u ≡ over (Some S.Want) q h (k + c) → Goes s room p h k u
  ends : {room k c : ℕ} {r : FileRefusal} {p q : ContainerParser} {h : Option FileEvent} {u : Turned} → step_of p (drop k s) ≡ refuses r q c
      → u ≡ over (Some (printed (why r.rule))) q h (k + c) → Goes s room p h k u

module _ (s : List ℕ) where
  -- by what the next step tells, and whether there is room
  goes_by : (room : ℕ) (p : ContainerParser) (h : Option FileEvent) (k : ℕ)
      → ((left : ℕ) (q : ContainerParser) (g : Option FileEvent) (m : ℕ) → count p k s ≡ suc (count q m s) → Goes s left q g m (turn_from s left q g m))
      → (t : Told) → step_of p (drop k s) ≡ t → Goes s room p h k (turn_from s room p h k)
  goes_by room p h k rest (shows e q c) st = room_or_not (leb (length (line_of h e)) room) refl
    where
      room_or_not : (b : Bool) → leb (length (line_of h e)) room ≡ b → Goes s room p h k (turn_from s room p h k)
      room_or_not true y =
          let fits = leb-true (length (line_of h e)) room y in
          let whole : room ≡ length (line_of h e) + (room - length (line_of h e)) = omega (arith, fits) in
          puts st refl whole (turn_shown s room p h k st fits)
          (rest (room - length (line_of h e)) q (held_then h e) (k + c) (ap (λ (x : Seen). length x.shown) (taken_shown p s k st)))
      room_or_not false y =
          let over = leb-false (length (line_of h e)) room y in
          lacks st over (turn_full s room p h k st over)
  goes_by room p h k rest (wants q c) st = waits st (turn_wants s room p h k st)
  goes_by room p h k rest (refuses r q c) st = ends st (turn_refuses s room p h k st)

  -- with fewer than n events to come
  goes_for : (n room : ℕ) (p : ContainerParser) (h : Option FileEvent) (k : ℕ) → count p k s < n → Goes s room p h k (turn_from s room p h k)
  goes_for zero room p h k few = absurd (omega arith)
  goes_for (suc n) room p h k few = goes_by room p h k (λ left q g m fewer. goes_for n left q g m (omega (arith, fewer))) (step_of p (drop k s)) refl

  pub goes : (room : ℕ) (p : ContainerParser) (h : Option FileEvent) (k : ℕ) → Goes s room p h k (turn_from s room p h k)
  goes room p h k = goes_for (suc (count p k s)) room p h k (omega arith)

  -- and there is one thing that a turn comes to
  pub came_to : {room k : ℕ} {p : ContainerParser} {h : Option FileEvent} {t : Turned} → Goes s room p h k t → turn_from s room p h k ≡ t
  came_to {room} {k} {p} {h} (puts {left = left} {c = c} {q = q} {t = t} {e = e} st at fits so g) =
      let less : room - length (line_of h e) ≡ left = omega arith in
      turn_shown s room p h k st (omega arith)
      ∙ ap (λ (x : ℕ). behind (line_of h e) (turn_from s x q (held_then h e) (k + c))) less
      ∙ ap (λ (x : ℕ). behind (line_of h e) (turn_from s left q (held_then h e) x)) (sym at)
      ∙ ap (behind (line_of h e)) (came_to g)
      ∙ sym so
  came_to {room} {k} {p} {h} (lacks st none so) = turn_full s room p h k st none ∙ sym so
  came_to {room} {k} {p} {h} (waits st so) = turn_wants s room p h k st ∙ sym so
  came_to {room} {k} {p} {h} (ends st so) = turn_refuses s room p h k st ∙ sym so

  -- a turn stays in its input
  pub inside : {room k : ℕ} {p : ContainerParser} {h : Option FileEvent} {t : Turned} → k ≤ length s → Goes s room p h k t → t.consumed ≤ length s
  inside {k = k} {p = p} i (puts st at fits so g) =
      omega (arith, inside (omega (arith, at, shown_fits p s k i st)) g, ap (λ (x : Turned). x.consumed) so)
  inside i (lacks st none so) = omega (arith, ap (λ (x : Turned). x.consumed) so)
  inside {k = k} {p = p} i (waits st so) = omega (arith, wants_fits p s k i st, ap (λ (x : Turned). x.consumed) so)
  inside {k = k} {p = p} i (ends st so) = omega (arith, refuses_fits p s k i st, ap (λ (x : Turned). x.consumed) so)

-- the same of a whole turn
module _ (s : List ℕ) (room : ℕ) (p : ContainerParser) (h : Option FileEvent) where
  pub whole_turn : turn_from s room p h 0 ≡ turn_of s room p h
  unfolding turn_of
  whole_turn = refl

  pub went : Goes s room p h 0 (turn_of s room p h)
  went = subst (Goes s room p h 0) whole_turn (goes s room p h 0)

  pub comes : {t : Turned} → Goes s room p h 0 t → turn_of s room p h ≡ t
  comes g = sym whole_turn ∙ came_to s g
