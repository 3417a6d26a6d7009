-- One turn, event by event.
use mathlib.Core.Path.{◌≡◌, sym, ap}
use mathlib.Core.List.{List, ◌++◌, append_assoc}
use Prim.Native.Nat.{ℕ, suc, ◌+◌, ◌-◌, ◌<◌, ◌≤◌}
use lib.ListN.{length, drop}
use borrow.Author.Tests.{le-leb, lt-leb}
use Rattle.std.specs.Prelude.{Option, None, Some}
use Rattle.jxl_events.specs.Total.{further}
use Rattle.jxl_events.specs.declared.FileEvent.{FileEvent}
use Rattle.jxl_events.proofs.Shifted.{in_file_anywhere}
use Rattle.jxl_refusals.specs.Refusals.{why}
use Rattle.jxl_totals.specs.Step.{shows, wants, refuses, step_of}
use Rattle.jxl_totals.specs.Feeding.{Seen}
use Rattle.jxl_totals.specs.declared.ContainerParser.{ContainerParser}
use Rattle.jxl_totals.specs.declared.FileRefusal.{FileRefusal}
use Rattle.jxl_joiner.specs.Joiner.{adding, putting}
use Rattle.jxl_joiner.specs.Joiner.{added}
use Rattle.jxl_lines.specs.Lines.{printed}
use Rattle.jxl_lines.specs.declared.StopWord.TheVariants as S
use Rattle.jxl_list_rules.specs.Turned.{Turned, over, behind, line_of, held_then, turn_by, turning, turn_from}
use Rattle.jxl_list_rules.proofs.Text.{count, taken_shown}

module _ (s : List ℕ) (room : ℕ) (p : ContainerParser) (h : Option FileEvent) (k : ℕ) where
  pub turn_shown : {e : FileEvent} {q : ContainerParser} {c : ℕ} → step_of p (drop k s) ≡ shows e q c → length (line_of h e) ≤ room
      → turn_from s room p h k ≡ behind (line_of h e) (turn_from s (room - length (line_of h e)) q (held_then h e) (k + c))
  unfolding turning
  turn_shown {e} {q} {c} st f =
      let fewer : count p k s ≡ suc (count q (k + c) s) = ap (λ (x : Seen). length x.shown) (taken_shown p s k st) in
      rw (st, turn_by, le-leb (length (line_of h e)) room f, fewer)

  pub turn_full : {e : FileEvent} {q : ContainerParser} {c : ℕ} → step_of p (drop k s) ≡ shows e q c → room < length (line_of h e)
      → turn_from s room p h k ≡ over None p h k
  unfolding turning
  turn_full {e} st f = rw (st, turn_by, lt-leb (length (line_of h e)) room f)

  pub turn_wants : {q : ContainerParser} {c : ℕ} → step_of p (drop k s) ≡ wants q c → turn_from s room p h k ≡ over (Some S.Want) q h (k + c)
  unfolding turning
  turn_wants st = rw st

  pub turn_refuses : {r : FileRefusal} {q : ContainerParser} {c : ℕ} → step_of p (drop k s) ≡ refuses r q c
      → turn_from s room p h k ≡ over (Some (printed (why r.rule))) q h (k + c)
  unfolding turning
  turn_refuses st = rw st

-- lines behind lines
pub behind_behind : (a b : List ℕ) (t : Turned) → behind a (behind b t) ≡ behind (a ++ b) t
behind_behind a b t =
    ap (λ (l : List ℕ). record { lines = l; parser = t.parser; held = t.held; consumed = t.consumed; stop = t.stop }) (sym (append_assoc a b t.lines))

-- a joiner gives an event its place in the file, wherever it stood before
pub adding_further : (h : Option FileEvent) (n : ℕ) (e : FileEvent) → adding h (further n e) ≡ adding h e
adding_further None n e = ap (λ (x : FileEvent). added None (Some x)) (in_file_anywhere n e)
adding_further (Some x) n e = ap (putting x) (in_file_anywhere n e)
