-- What a step shows: the payload that an event names, its length, its place and its end, and the event further on.
use Rattle.std.specs.Prelude.{List, ℕ, ◌+◌}
use Rattle.jxl_cuts.specs.Machine.{Payload, none, bytes, bytes_at}
use Rattle.jxl_events.specs.declared.ParseEvent.{ParseEvent}
use Rattle.jxl_events.specs.declared.ParseEvent.TheVariants as E

-- the part of the input that starts at a and is n bytes long; an empty part if it lies outside
abbrev pub part : List ℕ → ℕ → ℕ → List ℕ
part s a n = bytes_at s (bytes a n)

-- what an event shows of the input: CODESTREAM and AUX_DATA so many bytes from a place on, any other none
abbrev pub payload : ParseEvent → Payload
payload (E.BitstreamKind k) = none
payload E.NoMoreAuxBox = none
payload (E.Codestream a n) = bytes a n
payload (E.AuxBoxStart t b e) = none
payload (E.AuxBoxData t a n) = bytes a n
payload (E.AuxBoxEnd t) = none

-- the payload that an event shows; an empty part if it lies outside
abbrev pub payload_of : List ℕ → ParseEvent → List ℕ
payload_of s e = bytes_at s (payload e)

-- how many payload bytes an event shows
abbrev pub length_of : ParseEvent → ℕ
length_of (E.BitstreamKind k) = 0
length_of E.NoMoreAuxBox = 0
length_of (E.Codestream a n) = n
length_of (E.AuxBoxStart t c e) = 0
length_of (E.AuxBoxData t a n) = n
length_of (E.AuxBoxEnd t) = 0

-- the place of an event's payload
abbrev pub place_of : ParseEvent → ℕ
place_of (E.BitstreamKind k) = 0
place_of E.NoMoreAuxBox = 0
place_of (E.Codestream a n) = a
place_of (E.AuxBoxStart t b e) = 0
place_of (E.AuxBoxData t a n) = a
place_of (E.AuxBoxEnd t) = 0

-- the place behind an event's payload
abbrev pub end_of : ParseEvent → ℕ
end_of (E.BitstreamKind k) = 0
end_of E.NoMoreAuxBox = 0
end_of (E.Codestream a n) = a + n
end_of (E.AuxBoxStart t c e) = 0
end_of (E.AuxBoxData t a n) = a + n
end_of (E.AuxBoxEnd t) = 0

-- an event whose payload stands n bytes further on
abbrev pub shifted : ℕ → ParseEvent → ParseEvent
shifted n (E.BitstreamKind k) = E.BitstreamKind k
shifted n E.NoMoreAuxBox = E.NoMoreAuxBox
shifted n (E.Codestream a l) = E.Codestream (n + a) l
shifted n (E.AuxBoxStart t b e) = E.AuxBoxStart t b e
shifted n (E.AuxBoxData t a l) = E.AuxBoxData t (n + a) l
shifted n (E.AuxBoxEnd t) = E.AuxBoxEnd t
