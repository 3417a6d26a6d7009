-- Payload parts that lie end to end: when two events are such parts, the two in one, and a part up to a total.
use Rattle.std.specs.Prelude.{Bool, false, ℕ, ◌+◌, ◌-◌, eqb}
use Rattle.jxl_headers.specs.Bytes.{and}
use Rattle.jxl_events.specs.declared.ParseEvent.{ParseEvent}
use Rattle.jxl_events.specs.declared.ParseEvent.TheVariants as E

-- a part of a codestream that starts at x
abbrev pub code_at : ℕ → ParseEvent → Bool
code_at x (E.BitstreamKind k) = false
code_at x E.NoMoreAuxBox = false
code_at x (E.Codestream b m) = eqb x b
code_at x (E.AuxBoxStart t c e) = false
code_at x (E.AuxBoxData t b m) = false
code_at x (E.AuxBoxEnd t) = false

-- a part of a side box of type t that starts at x
abbrev pub aux_at : ℕ → ℕ → ParseEvent → Bool
aux_at t x (E.BitstreamKind k) = false
aux_at t x E.NoMoreAuxBox = false
aux_at t x (E.Codestream b m) = false
aux_at t x (E.AuxBoxStart u c e) = false
aux_at t x (E.AuxBoxData u b m) = and (eqb t u) (eqb x b)
aux_at t x (E.AuxBoxEnd u) = false

-- two parts of one payload, the second where the first ends
abbrev pub joins : ParseEvent → ParseEvent → Bool
joins (E.BitstreamKind k) f = false
joins E.NoMoreAuxBox f = false
joins (E.Codestream a n) f = code_at (a + n) f
joins (E.AuxBoxStart t c e) f = false
joins (E.AuxBoxData t a n) f = aux_at t (a + n) f
joins (E.AuxBoxEnd t) f = false

-- a part with m bytes more
abbrev pub longer : ℕ → ParseEvent → ParseEvent
longer m (E.BitstreamKind k) = E.BitstreamKind k
longer m E.NoMoreAuxBox = E.NoMoreAuxBox
longer m (E.Codestream a n) = E.Codestream a (n + m)
longer m (E.AuxBoxStart t c e) = E.AuxBoxStart t c e
longer m (E.AuxBoxData t a n) = E.AuxBoxData t a (n + m)
longer m (E.AuxBoxEnd t) = E.AuxBoxEnd t

-- the part from its place up to `total`; empty if that lies before it
abbrev pub reaching : ℕ → ParseEvent → ParseEvent
reaching total (E.BitstreamKind k) = E.BitstreamKind k
reaching total E.NoMoreAuxBox = E.NoMoreAuxBox
reaching total (E.Codestream a n) = E.Codestream a (total - a)
reaching total (E.AuxBoxStart t c e) = E.AuxBoxStart t c e
reaching total (E.AuxBoxData t a n) = E.AuxBoxData t a (total - a)
reaching total (E.AuxBoxEnd t) = E.AuxBoxEnd t
