-- The lines of the listing: one record a line, fields parted by tabs, types in lower-case hex, numbers decimal.
use Rattle.std.specs.Prelude.{Bool, true, false, List, [], ◌∷◌, ◌++◌, ℕ, ◌^◌, ◌<◌, eqb}
use Rattle.jxl_headers.specs.Bytes.{if}
use Rattle.jxl_refusals.specs.Refusals.{Why, refusal, merged}
use Rattle.jxl_record.specs.declared.BitstreamKind.{BitstreamKind}
use Rattle.jxl_record.specs.declared.BitstreamKind.TheVariants as K
use Rattle.jxl_events.specs.declared.ParseEvent.{ParseEvent}
use Rattle.jxl_events.specs.declared.ParseEvent.TheVariants as E
use Rattle.jxl_lines.specs.Digits.{hex8, decimal}
use Rattle.jxl_lines.specs.declared.StopWord.{StopWord}
use Rattle.jxl_lines.specs.declared.StopWord.TheVariants.{Want, Refused1, Refused2, Limit, Done, CutShort, Closed}
use Rattle.jxl_lines.specs.declared.Line.{Line}
use Rattle.jxl_lines.specs.declared.Line.TheVariants.{Shown, Stopped}

-- `kind`
abbrev pub kind : List ℕ
kind = 107 ∷ 105 ∷ 110 ∷ 100 ∷ []

-- `start`
abbrev pub start : List ℕ
start = 115 ∷ 116 ∷ 97 ∷ 114 ∷ 116 ∷ []

-- `data`
abbrev pub part : List ℕ
part = 100 ∷ 97 ∷ 116 ∷ 97 ∷ []

-- `end`
abbrev pub end : List ℕ
end = 101 ∷ 110 ∷ 100 ∷ []

-- `nomore`
abbrev pub nomore : List ℕ
nomore = 110 ∷ 111 ∷ 109 ∷ 111 ∷ 114 ∷ 101 ∷ []

-- `code`
abbrev pub code : List ℕ
code = 99 ∷ 111 ∷ 100 ∷ 101 ∷ []

-- `stop`
abbrev pub stop : List ℕ
stop = 115 ∷ 116 ∷ 111 ∷ 112 ∷ []

-- `bare`, `container` or `invalid`; `unknown` for the value that no event has
abbrev pub kind_word : BitstreamKind → List ℕ
kind_word K.Unknown = 117 ∷ 110 ∷ 107 ∷ 110 ∷ 111 ∷ 119 ∷ 110 ∷ []
kind_word K.BareCodestream = 98 ∷ 97 ∷ 114 ∷ 101 ∷ []
kind_word K.Container = 99 ∷ 111 ∷ 110 ∷ 116 ∷ 97 ∷ 105 ∷ 110 ∷ 101 ∷ 114 ∷ []
kind_word K.Invalid = 105 ∷ 110 ∷ 118 ∷ 97 ∷ 108 ∷ 105 ∷ 100 ∷ []

-- whether a box is compressed: `brob`, or else `plain`
abbrev pub brob_word : Bool → List ℕ
brob_word true = 98 ∷ 114 ∷ 111 ∷ 98 ∷ []
brob_word false = 112 ∷ 108 ∷ 97 ∷ 105 ∷ 110 ∷ []

-- whether a box runs to the end: `toend`, or else `bounded`
abbrev pub end_word : Bool → List ℕ
end_word true = 116 ∷ 111 ∷ 101 ∷ 110 ∷ 100 ∷ []
end_word false = 98 ∷ 111 ∷ 117 ∷ 110 ∷ 100 ∷ 101 ∷ 100 ∷ []

-- `want`, `refused1`, `refused2`, `limit`, `done`, `cutshort` or `closed`
abbrev pub stop_word : StopWord → List ℕ
stop_word Want = 119 ∷ 97 ∷ 110 ∷ 116 ∷ []
stop_word Refused1 = 114 ∷ 101 ∷ 102 ∷ 117 ∷ 115 ∷ 101 ∷ 100 ∷ 49 ∷ []
stop_word Refused2 = 114 ∷ 101 ∷ 102 ∷ 117 ∷ 115 ∷ 101 ∷ 100 ∷ 50 ∷ []
stop_word Limit = 108 ∷ 105 ∷ 109 ∷ 105 ∷ 116 ∷ []
stop_word Done = 100 ∷ 111 ∷ 110 ∷ 101 ∷ []
stop_word CutShort = 99 ∷ 117 ∷ 116 ∷ 115 ∷ 104 ∷ 111 ∷ 114 ∷ 116 ∷ []
stop_word Closed = 99 ∷ 108 ∷ 111 ∷ 115 ∷ 101 ∷ 100 ∷ []

-- the word of a refusal by its number: 1, 20 (StreamLimit), 21 (CutShort), 22 (Closed), or else 2, the only other one
abbrev pub refused_word : Why → StopWord
refused_word (refusal n values) =
    if (eqb n 1) Refused1
    (if (eqb n 20) Limit
    (if (eqb n 21) CutShort
    (if (eqb n 22) Closed Refused2)))

-- what is printed of a refusal: numbers 10 to 19 are merged back into 1
abbrev pub printed : Why → StopWord
printed w = refused_word (merged w)

-- the fields of an event's line
abbrev pub event_fields : ParseEvent → List (List ℕ)
event_fields (E.BitstreamKind k) = kind ∷ kind_word k ∷ []
event_fields E.NoMoreAuxBox = nomore ∷ []
event_fields (E.Codestream a n) = code ∷ decimal a ∷ decimal n ∷ []
event_fields (E.AuxBoxStart t b e) = start ∷ hex8 t ∷ brob_word b ∷ end_word e ∷ []
event_fields (E.AuxBoxData t a n) = part ∷ hex8 t ∷ decimal a ∷ decimal n ∷ []
event_fields (E.AuxBoxEnd t) = end ∷ hex8 t ∷ []

-- the fields of a line; the last number of a stop is the bytes consumed
abbrev pub fields : Line → List (List ℕ)
fields (Shown e) = event_fields e
fields (Stopped s n) = stop ∷ stop_word s ∷ decimal n ∷ []

-- what follows a field: a tab and the next field, or the line feed
abbrev pub rest : List (List ℕ) → List ℕ
rest [] = 10 ∷ []
rest (f ∷ fs) = 9 ∷ (f ++ rest fs)

-- fields parted by tabs, and a line feed
abbrev pub joined_fields : List (List ℕ) → List ℕ
joined_fields [] = 10 ∷ []
joined_fields (f ∷ fs) = f ++ rest fs

-- the bytes of a line
abbrev pub text : Line → List ℕ
text l = joined_fields (fields l)

-- an event's types fit 32 bits and its numbers 64, as those of the code do
abbrev pub EventInRange : ParseEvent → Type 0
EventInRange (E.BitstreamKind k) = Unit {0}
EventInRange E.NoMoreAuxBox = Unit {0}
EventInRange (E.Codestream a n) = (a < 2 ^ 64) × (n < 2 ^ 64)
EventInRange (E.AuxBoxStart t b e) = t < 2 ^ 32
EventInRange (E.AuxBoxData t a n) = (t < 2 ^ 32) × (a < 2 ^ 64) × (n < 2 ^ 64)
EventInRange (E.AuxBoxEnd t) = t < 2 ^ 32

abbrev pub InRange : Line → Type 0
InRange (Shown e) = EventInRange e
InRange (Stopped s n) = n < 2 ^ 64
