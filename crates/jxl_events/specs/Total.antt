-- An event of a file: it carries the bytes consumed when it was given, and so its payload's place in the file is known.
use Rattle.std.specs.Prelude.{◌≡◌, List, [], ◌∷◌, ℕ, ◌+◌, ◌-◌}
use Rattle.jxl_events.specs.Event.{shifted}
use Rattle.jxl_events.specs.declared.ParseEvent.{ParseEvent}
use Rattle.jxl_events.specs.declared.ParseEvent.TheVariants as E
use Rattle.jxl_events.specs.declared.FileEvent.{FileEvent}

-- an event that was given when `total` bytes were consumed
abbrev pub carrying : ParseEvent → ℕ → FileEvent
carrying e total = record { event = e; total = total }

-- the event with its payload n bytes further on; what was consumed stays
abbrev pub further : ℕ → FileEvent → FileEvent
further n e = carrying (shifted n e.event) e.total

-- the event with a payload that ends at `total`; one that is longer starts at 0
abbrev pub ending_at : ℕ → ParseEvent → ParseEvent
ending_at total (E.BitstreamKind k) = E.BitstreamKind k
ending_at total E.NoMoreAuxBox = E.NoMoreAuxBox
ending_at total (E.Codestream a n) = E.Codestream (total - n) n
ending_at total (E.AuxBoxStart t b e) = E.AuxBoxStart t b e
ending_at total (E.AuxBoxData t a n) = E.AuxBoxData t (total - n) n
ending_at total (E.AuxBoxEnd t) = E.AuxBoxEnd t

-- the event with its payload's place in the file: a payload is the last that was consumed (`PayloadPlaces` of jxl_files)
abbrev pub in_file : FileEvent → FileEvent
in_file e = carrying (ending_at e.total e.event) e.total

-- an event whose payload, if it shows one, ends at n
abbrev pub EndsAt : ℕ → ParseEvent → Type 0
EndsAt n (E.BitstreamKind k) = Unit {0}
EndsAt n E.NoMoreAuxBox = Unit {0}
EndsAt n (E.Codestream a l) = a + l ≡ n
EndsAt n (E.AuxBoxStart t b e) = Unit {0}
EndsAt n (E.AuxBoxData t a l) = a + l ≡ n
EndsAt n (E.AuxBoxEnd t) = Unit {0}

-- events without what was consumed
abbrev pub without_totals : List FileEvent → List ParseEvent
without_totals [] = []
without_totals (e ∷ es) = e.event ∷ without_totals es
