-- A row of turns, as a program takes them: where a turn ended for want of room, the next one goes on behind the bytes consumed, with the
-- record and the event held as they were left, and a room of its own.
use Rattle.std.specs.Prelude.{Option, None, Some, List, [], ◌∷◌, ◌++◌, ℕ, ◌+◌, drop}
use Rattle.jxl_events.specs.declared.FileEvent.{FileEvent}
use Rattle.jxl_lines.specs.declared.StopWord.{StopWord}
use Rattle.jxl_totals.specs.declared.ContainerParser.{ContainerParser}
use Rattle.jxl_list_rules.specs.Turned.{Turned, over, turn_of}

-- a turn, and what came behind it: its lines first, the bytes consumed counted from its start
abbrev pub goes_on : Turned → Turned → Turned
goes_on t u = record { lines = t.lines ++ u.lines; parser = u.parser; held = u.held; consumed = t.consumed + u.consumed; stop = u.stop }

-- by the stop of t, if it came to one; `rest` is the row behind it
abbrev pub row_by : Turned → Turned → Option StopWord → Turned
row_by t rest None = goes_on t rest
row_by t rest (Some w) = t

-- a turn with each room; with no room left the row stays where it is
unfoldable pub row_of : List ℕ → List ℕ → ContainerParser → Option FileEvent → Turned
row_of s [] p h = over None p h 0
row_of s (room ∷ rooms) p h =
    let t = turn_of s room p h in
    row_by t (row_of (drop t.consumed s) rooms t.parser t.held) t.stop
