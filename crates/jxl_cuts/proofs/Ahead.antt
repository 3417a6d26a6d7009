-- What is told of the input behind its first k bytes, said of the whole input: the laws of a step go along. A rule that reads a header and
-- then goes on behind it is lawful if what follows is.
use mathlib.Core.Path.{◌≡◌, refl, sym, ap, ◌∙◌}
use mathlib.Core.Bool.{true}
use mathlib.Core.List.{List, ◌++◌}
use Prim.Native.Nat.{ℕ, ◌+◌, ◌-◌, ◌<◌, ◌≤◌}
use native.Mathlib.Nat.{add_assoc}
use native.Mathlib.Omega.{arith}
use lib.ListN.{length, drop, length-drop}
use lib.Seq.{drop-drop}
use Rattle.jxl_cuts.specs.Machine.{Told, shows, wants, refuses, Machine, ahead_by, ahead}
use Rattle.jxl_cuts.specs.Lawful.{Cut, same, grows, later, final, Moves, Paid}

module _ {State Event Why : Type 0} (shifted : ℕ → Event → Event) (twice : (n m : ℕ) (e : Event) → shifted n (shifted m e) ≡ shifted (n + m) e) where
  pub ahead_twice : (n m : ℕ) (t : Told State Event Why) → ahead_by shifted n (ahead_by shifted m t) ≡ ahead_by shifted (n + m) t
  ahead_twice n m (shows e p c) = rw (twice n m e, add_assoc n m c)
  ahead_twice n m (wants p c) = rw (add_assoc n m c)
  ahead_twice n m (refuses w p c) = rw (add_assoc n m c)

module _ (M : Machine) (moves : Moves M) where
  open M use {State, Event, Why, step, shifted, joins, longer, price}
  open moves use {shift_twice, shift_joins, shift_longer}

  -- two events of one input, moved to where the input stands, join as before
  pub moved : (a c : ℕ) (e f : Event) → joins (shifted a e) (shifted (a + c) f) ≡ joins e (shifted c f)
  moved a c e f = rw (← shift_twice a c f) (shift_joins a e (shifted c f))

  pub cut_ahead : (k : ℕ) (a b : List ℕ) {y x : Told State Event Why} → k ≤ length a → Cut M (drop k a) b y x → Cut M a b (ahead M k y) (ahead M k x)
  cut_ahead k a b h (same e) = same (ap (ahead M k) e)
  cut_ahead k a b h (final e) = final (ap (ahead M k) e)
  cut_ahead k a b h (later {p} {c} e) =
      later
      (ap (ahead M k) e
      ∙ ahead_twice shifted shift_twice k c (step p (drop c (drop k a) ++ b))
      ∙ ap (λ (l : List ℕ). ahead M (k + c) (step p (l ++ b))) (drop-drop c k a))
  cut_ahead k a b h (grows {e} {f} {p} {q} {c} {d} l j s y) =
      let all : k + c ≡ length a = omega (arith, length-drop k a) in
      grows all (moved k c e f ∙ j) s
      (ap (ahead M k) y ∙ rw (← shift_longer k e (shifted c f), shift_twice k c f, add_assoc k c d))

-- behind k bytes a state may be lent k more
module _ (M : Machine) (credit : M.State → ℕ) where
  open M use {State, Event, Why}

  pub paid_ahead : (k w v : ℕ) (s : List ℕ) (t : Told State Event Why) → k ≤ length s → w ≤ k + v → Paid M credit w (length (drop k s)) t
      → Paid M credit v (length s) (ahead M k t)
  paid_ahead k w v s (shows e q c) h m (a, b) = (omega arith, λ l. omega (arith, b (omega (arith, length-drop k s))))
  paid_ahead k w v s (wants q c) h m i = tt
  paid_ahead k w v s (refuses x q c) h m i = tt

  pub paid_more : (w v n : ℕ) (t : Told State Event Why) → w ≤ v → Paid M credit w n t → Paid M credit v n t
  paid_more w v n (shows e q c) m (a, b) = (omega arith, λ l. omega (arith, b l))
  paid_more w v n (wants q c) m i = tt
  paid_more w v n (refuses x q c) m i = tt
