-- A joiner holds the newest event back, until the next one shows that it is whole.
use Rattle.std.specs.Prelude.{Option, None, Some, List, [], ◌∷◌, ◌++◌}
use Rattle.jxl_headers.specs.Bytes.{if}
use Rattle.jxl_events.specs.Total.{carrying, in_file}
use Rattle.jxl_events.specs.declared.FileEvent.{FileEvent}
use Rattle.jxl_parts.specs.Joined.{joins, reaching}
use Rattle.jxl_joiner.specs.declared.Added.{Added}

-- what is handed back, and what is held from then on
abbrev pub added : Option FileEvent → Option FileEvent → Added
added out held = record { out = out; next = record { held = held } }

-- the event e behind the one held, both at their places in the file: one part, which reaches to the last one's total and carries it; or
-- the one held is whole
abbrev pub putting : FileEvent → FileEvent → Added
putting h e =
    if (joins h.event e.event) (added None (Some (carrying (reaching e.total h.event) e.total)))
    (added (Some h) (Some e))

abbrev pub adding : Option FileEvent → FileEvent → Added
adding None e = added None (Some (in_file e))
adding (Some h) e = putting h (in_file e)

abbrev pub handed : Option FileEvent → List FileEvent
handed None = []
handed (Some e) = e ∷ []

-- events put in one after the other, and the one held taken at the end
abbrev pub run : Option FileEvent → List FileEvent → List FileEvent
run h [] = handed h
run h (e ∷ es) = handed (adding h e).out ++ run (adding h e).next.held es
