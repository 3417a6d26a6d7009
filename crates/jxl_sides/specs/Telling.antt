-- The side boxes that a row of events tells, as a reader of the events puts them together: who sees AUX_START opens a box of that type, who
-- sees AUX_DATA puts its bytes behind those of the open box, who sees AUX_END has the box whole. Anything else goes astray.
use Rattle.std.specs.Prelude.{Bool, true, false, List, [], ◌∷◌, ◌++◌, ℕ, eqb}
use Rattle.jxl_events.specs.declared.ParseEvent.{ParseEvent}
use Rattle.jxl_events.specs.declared.ParseEvent.TheVariants as E
use Rattle.jxl_events.specs.declared.FileEvent.{FileEvent}
use Rattle.jxl_totals.specs.Feeding.{Shown}
use Rattle.jxl_endings.specs.Ended.{Finished}
use Rattle.jxl_sides.specs.Sides.{Side, side}

-- the side boxes told, each whole; or the events went astray
pub data Sides : Type 0 where
  astray : Sides
  told : List Side → Sides

abbrev pub one_more : Side → Sides → Sides
one_more x astray = astray
one_more x (told xs) = told (x ∷ xs)

-- what an event does to a side box; an AUX_DATA or AUX_END carries the type of its box
pub data Move : Type 0 where
  opens : ℕ → Bool → Move
  adds : ℕ → Move
  shuts : ℕ → Move
  other : Move

abbrev pub move_of : ParseEvent → Move
move_of (E.BitstreamKind k) = other
move_of E.NoMoreAuxBox = other
move_of (E.Codestream a n) = other
move_of (E.AuxBoxStart t b e) = opens t b
move_of (E.AuxBoxData t a n) = adds t
move_of (E.AuxBoxEnd t) = shuts t

-- where a reader stands: outside, or inside a side box of which these bytes were told
pub data Where : Type 0 where
  outside : Where
  inside : ℕ → Bool → List ℕ → Where

-- an event that shows these bytes. Inside a side box nothing but its own AUX_DATA and AUX_END may come, outside neither of them
abbrev pub met : Move → List ℕ → Where → (Where → Sides) → Sides
met (opens t b) bs outside next = next (inside t b [])
met (opens t b) bs (inside u c before) next = astray
met (adds t) bs outside next = astray
met (adds t) bs (inside u c before) next = elim (eqb t u) [ true ↦ next (inside u c (before ++ bs)) | false ↦ astray ]
met (shuts t) bs outside next = astray
met (shuts t) bs (inside u c before) next = elim (eqb t u) [ true ↦ one_more (side u c before) (next outside) | false ↦ astray ]
met other bs outside next = next outside
met other bs (inside u c before) next = astray

-- at the end no box may be open
abbrev pub over : Where → Sides
over outside = told []
over (inside t b bs) = astray

-- events, with the bytes that each of them showed
abbrev pub telling : List Shown → (Where → Sides) → Where → Sides
telling [] next w = next w
telling (x ∷ xs) next w = met (move_of x.event.event) x.bytes w (telling xs next)

-- the owed event shows no bytes
abbrev pub telling_owed : List FileEvent → Where → Sides
telling_owed [] w = over w
telling_owed (e ∷ es) w = met (move_of e.event) [] w (telling_owed es)

-- what all events of packets that were fed and ended tell, as they came, parts not joined
abbrev pub told_sides : Finished → Sides
told_sides f = telling f.shown (telling_owed f.owed) outside
