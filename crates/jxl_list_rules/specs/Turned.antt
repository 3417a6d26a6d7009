-- One turn of a program that lists a stream: lines are put into a buffer until the parser stops or the next line has no room.
use Rattle.std.specs.Prelude.{Option, None, Some, ◌≡◌, true, false, List, [], ◌++◌, ℕ, zero, suc, ◌+◌, ◌-◌, leb, length, drop}
use Rattle.jxl_lines.specs.declared.StopWord.{StopWord}
use Rattle.jxl_refusals.specs.Refusals.{why}
use Rattle.jxl_events.specs.declared.FileEvent.{FileEvent}
use Rattle.jxl_totals.specs.Step as Parser
use Rattle.jxl_totals.specs.Step.{shows, wants, refuses, step_of}
use Rattle.jxl_totals.specs.Feeding as Feeding
use Rattle.jxl_totals.specs.declared.ContainerParser.{ContainerParser}
use Rattle.jxl_joiner.specs.Joiner.{adding, handed}
use Rattle.jxl_lines.specs.Lines.{printed}
use Rattle.jxl_lines.specs.Pasting.{pasted}
use Rattle.jxl_lines.specs.declared.StopWord.TheVariants as S
use Rattle.jxl_list_rules.specs.Listed.{lines_of}
use Rattle.jxl_list_rules.specs.declared.AfterTurn.{AfterTurn}

-- the lines put, the record, the event held and the bytes of the input consumed then, and the stop; with none the next line had no room
pub record Turned : Type 0 where
  pub lines : List ℕ
  pub parser : ContainerParser
  pub held : Option FileEvent
  pub consumed : ℕ
  pub stop : Option StopWord

abbrev pub over : Option StopWord → ContainerParser → Option FileEvent → ℕ → Turned
over e p h k = record { lines = []; parser = p; held = h; consumed = k; stop = e }

abbrev pub behind : List ℕ → Turned → Turned
behind l t = record { lines = l ++ t.lines; parser = t.parser; held = t.held; consumed = t.consumed; stop = t.stop }

-- the line of the event that a joiner hands back for the next one, if any; and the event held then
abbrev pub line_of : Option FileEvent → FileEvent → List ℕ
line_of h e = lines_of (handed (adding h e).out)

abbrev pub held_then : Option FileEvent → FileEvent → Option FileEvent
held_then h e = (adding h e).next.held

-- the next event goes to the joiner, and the line of the event that this hands back, if any, into the room; with no room for it the
-- turn ends before the event. Of the input k bytes are consumed
abbrev pub turn_by : (ℕ → ContainerParser → Option FileEvent → ℕ → Turned) → ℕ → ContainerParser → Option FileEvent → ℕ → Parser.Told → Turned
turn_by go room p h k (shows e q c) =
    elim (leb (length (line_of h e)) room) [
      | true ↦ behind (line_of h e) (go (room - length (line_of h e)) q (held_then h e) (k + c))
      | false ↦ over None p h k
    ]
turn_by go room p h k (wants q c) = over (Some S.Want) q h (k + c)
turn_by go room p h k (refuses r q c) = over (Some (printed (why r.rule))) q h (k + c)

-- at most so many steps; where they run out it ends as if full, which `turn_of` never comes to (FullMeansFull)
unfoldable pub turning : ℕ → List ℕ → ℕ → ContainerParser → Option FileEvent → ℕ → Turned
turning zero s room p h k = over None p h k
turning (suc turns) s room p h k = turn_by (turning turns s) room p h k (step_of p (drop k s))

-- a turn from the byte k of its input on: a step for each event, and one for the stop
abbrev pub turn_from : List ℕ → ℕ → ContainerParser → Option FileEvent → ℕ → Turned
turn_from s room p h k = turning (suc (length (Feeding.take p (drop k s)).shown)) s room p h k

unfoldable pub turn_of : List ℕ → ℕ → ContainerParser → Option FileEvent → Turned
turn_of s room p h = turn_from s room p h 0

-- what an answer of the code says, with the buffer then and before
pub record Told (r : AfterTurn) (out buffer : List ℕ) (t : Turned) : Type 0 where
  pub parser_is : r.parser ≡ t.parser
  pub held_is : r.joiner.held ≡ t.held
  pub consumed_is : r.consumed ≡ t.consumed
  pub stop_is : r.stop ≡ t.stop
  pub written_is : r.written ≡ length t.lines
  pub buffer_is : out ≡ pasted buffer 0 t.lines
