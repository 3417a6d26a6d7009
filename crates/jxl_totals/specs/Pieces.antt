-- Worked cases of totals, places and the limit: one table under one statement about the definitions, computed once. No file can be so long
-- that it meets the limit, so the cases there start from a record whose total is near it.
use Rattle.std.specs.Prelude.{◌≡◌, false, List, [], ◌∷◌, ◌++◌, ℕ, ◌-◌, ◌^◌}
use Rattle.jxl_refusals.specs.Refusals.{refusal}
use Rattle.jxl_refusals.specs.declared.BoxRefusal.TheVariants as Rule
use Rattle.jxl_signatures.specs.Signature.{container_sig}
use Rattle.jxl_reach.specs.declared.BytesLeft.TheVariants.{ToEnd, Bytes}
use Rattle.jxl_record.specs.Record.{at}
use Rattle.jxl_record.specs.declared.BitstreamKind.TheVariants as K
use Rattle.jxl_record.specs.declared.JxlpIndexState.{JxlpIndexState}
use Rattle.jxl_record.specs.declared.JxlpIndexState.TheVariants.{Initial, SingleJxlc, Jxlp}
use Rattle.jxl_record.specs.declared.DetectState.{DetectState}
use Rattle.jxl_record.specs.declared.DetectState.TheVariants as S
use Rattle.jxl_events.specs.Total.{carrying}
use Rattle.jxl_events.specs.declared.ParseEvent.{ParseEvent}
use Rattle.jxl_events.specs.declared.ParseEvent.TheVariants as E
use Rattle.jxl_events.specs.declared.FileEvent.{FileEvent}
use Rattle.jxl_totals.specs.Step.{shows, wants, refuses, counted, fresh, step_of}
use Rattle.jxl_totals.specs.Naming.{Said, says, said, Numbered, numbered}
use Rattle.jxl_totals.specs.Feeding.{Stop, want, refused, events, feeding}
use Rattle.jxl_totals.specs.declared.ContainerParser.{ContainerParser}

-- a box header: a size under 256, and a type
abbrev pub header : ℕ → List ℕ → List ℕ
header size type = 0 ∷ 0 ∷ 0 ∷ size ∷ type

abbrev pub jxlc : List ℕ
jxlc = 0x6a ∷ 0x78 ∷ 0x6c ∷ 0x63 ∷ []

abbrev pub jxlp : List ℕ
jxlp = 0x6a ∷ 0x78 ∷ 0x6c ∷ 0x70 ∷ []

abbrev pub brob : List ℕ
brob = 0x62 ∷ 0x72 ∷ 0x6f ∷ 0x62 ∷ []

abbrev pub exif : List ℕ
exif = 0x45 ∷ 0x78 ∷ 0x69 ∷ 0x66 ∷ []

abbrev pub exif_type : ℕ
exif_type = 0x45786966

-- a `jxlp` index of 1
abbrev pub one : List ℕ
one = 0 ∷ 0 ∷ 0 ∷ 1 ∷ []

-- events with totals
abbrev pub ◌＠◌ : ParseEvent → ℕ → FileEvent
◌＠◌ e total = carrying e total

infixl 90 ◌＠◌
abbrev pub is_container : FileEvent
is_container = E.BitstreamKind K.Container ＠ 12

-- how a feed stops, in the paper's words
pub data Stopped : Type 0 where
  wanting : Stopped
  refusing : Said → Stopped

abbrev pub stopped : Stop → Stopped
stopped want = wanting
stopped (refused r) = refusing (said r)

-- the largest place: 2^63 - 1
abbrev pub top : ℕ
top = 9_223_372_036_854_775_807

abbrev pub record_of : DetectState → JxlpIndexState → ℕ → ℕ → ContainerParser
record_of state row total newest = counted (at state row) total newest

abbrev pub in_exif : ℕ → DetectState
in_exif n = S.InAuxBox exif_type (Bytes n)

-- StreamLimit, at its total
abbrev pub limited : ℕ → Said
limited total = says (refusal 20 []) total total

abbrev pub at_limit : DetectState
at_limit = S.Refused K.Container Rule.StreamLimit

pub data Piece : Type 0 where
  -- packets, fed to a new parser: the events, parts not joined; the bytes consumed; the stop
  feeds : List (List ℕ) → List FileEvent → ℕ → Stopped → Piece
  -- one step of any record
  steps : ContainerParser → List ℕ → Numbered → Piece

abbrev pub Holds : List Piece → Type 0
Holds [] = Unit {0}
Holds (feeds xs es n w ∷ ps) = ((events (feeding fresh xs) ≡ es) × ((feeding fresh xs).consumed ≡ n) × (stopped (feeding fresh xs).stop ≡ w)) × Holds ps
Holds (steps p s t ∷ ps) = (numbered (step_of p s) ≡ t) × Holds ps

abbrev pub table : List Piece
table =
    -- a side box, in one packet and in two: each part carries its own total
    feeds (((container_sig ++ header 11 exif) ++ (1 ∷ 2 ∷ 3 ∷ 0 ∷ [])) ∷ [])
    (is_container ∷ E.AuxBoxStart exif_type false false ＠ 20 ∷ E.AuxBoxData exif_type 20 3 ＠ 23 ∷ E.AuxBoxEnd exif_type ＠ 23 ∷ []) 23 wanting
    ∷ feeds (((container_sig ++ header 11 exif) ++ (1 ∷ [])) ∷ (2 ∷ 3 ∷ 0 ∷ []) ∷ [])
    (is_container ∷ E.AuxBoxStart exif_type false false ＠ 20 ∷ E.AuxBoxData exif_type 20 1 ＠ 21 ∷ E.AuxBoxData exif_type 21 2 ＠ 23 ∷ E.AuxBoxEnd exif_type ＠ 23 ∷ []) 23 wanting
    -- a wrong index, found in the header's step and packets later: 24 + 8 consumed, the header at 20
    ∷ feeds ((container_sig ++ header 8 exif ++ header 12 jxlp ++ one) ∷ [])
    (is_container ∷ E.AuxBoxStart exif_type false false ＠ 20 ∷ E.AuxBoxEnd exif_type ＠ 20 ∷ []) 32 (refusing (says (refusal 17 (0 ∷ 1 ∷ [])) 32 20))
    ∷ feeds ((container_sig ++ header 8 exif ++ header 12 jxlp) ∷ (0 ∷ 0 ∷ []) ∷ [] ∷ (0 ∷ 1 ∷ []) ∷ (9 ∷ []) ∷ [])
    (is_container ∷ E.AuxBoxStart exif_type false false ＠ 20 ∷ E.AuxBoxEnd exif_type ＠ 20 ∷ []) 32 (refusing (says (refusal 17 (0 ∷ 1 ∷ [])) 32 20))
    -- the same behind an extended header
    ∷ feeds ((container_sig ++ header 1 jxlp ++ (0 ∷ 0 ∷ 0 ∷ 0 ∷ 0 ∷ 0 ∷ 0 ∷ 20 ∷ [])) ∷ one ∷ []) (is_container ∷ []) 32 (refusing (says (refusal 17 (0 ∷ 1 ∷ [])) 32 12))
    -- a reserved inner type, found in a later packet
    ∷ feeds ((container_sig ++ header 12 brob) ∷ jxlc ∷ []) (is_container ∷ []) 24 (refusing (says (refusal 2 []) 24 12))
    -- a second jxlc: its header consumed, and named; a short size: not consumed, and named too
    ∷ feeds ((container_sig ++ header 8 jxlc ++ header 8 jxlc) ∷ []) (is_container ∷ E.Codestream 20 0 ＠ 20 ∷ []) 28 (refusing (says (refusal 12 []) 28 20))
    ∷ feeds ((container_sig ++ header 8 exif ++ header 7 exif) ∷ [])
    (is_container ∷ E.AuxBoxStart exif_type false false ＠ 20 ∷ E.AuxBoxEnd exif_type ＠ 20 ∷ []) 20 (refusing (says (refusal 10 []) 20 20))
    -- 15 below the limit: a header and a payload that fit
    ∷ steps (record_of S.WaitingBoxHeader Initial (top - 15) 7) (header 15 exif)
    (shows (E.AuxBoxStart exif_type false false ＠ (top - 7)) (record_of (in_exif 7) Initial (top - 7) (top - 15)) 8)
    ∷ steps (record_of (in_exif 7) Initial (top - 7) 7) (1 ∷ 2 ∷ 3 ∷ 4 ∷ 5 ∷ 6 ∷ 7 ∷ 8 ∷ []) (shows (E.AuxBoxData exif_type 0 7 ＠ top) (record_of (in_exif 0) Initial top 7) 7)
    -- a header across the limit: as if it were short; with no byte beyond, more is wanted
    ∷ steps (record_of S.WaitingBoxHeader Initial (top - 7) 7) (header 8 exif) (refuses (limited (top - 7)) (record_of at_limit Initial (top - 7) 7) 0)
    ∷ steps (record_of S.WaitingBoxHeader Initial (top - 7) 7) (0 ∷ 0 ∷ 0 ∷ 8 ∷ 0x45 ∷ 0x78 ∷ 0x69 ∷ []) (wants (record_of S.WaitingBoxHeader Initial (top - 7) 7) 0)
    -- a payload across the limit: what is there is shown; then StreamLimit
    ∷ steps (record_of (in_exif 10) Initial (top - 5) 7) (1 ∷ 2 ∷ 3 ∷ 4 ∷ 5 ∷ 6 ∷ []) (shows (E.AuxBoxData exif_type 0 5 ＠ top) (record_of (in_exif 5) Initial top 7) 5)
    ∷ steps (record_of (in_exif 5) Initial top 7) (6 ∷ []) (refuses (limited top) (record_of at_limit Initial top 7) 0)
    -- exactly at the limit: no AUX_END, with bytes beyond or without
    ∷ steps (record_of (in_exif 0) Initial top 7) (6 ∷ []) (refuses (limited top) (record_of at_limit Initial top 7) 0)
    ∷ steps (record_of (in_exif 0) Initial top 7) [] (wants (record_of (in_exif 0) Initial top 7) 0)
    -- a header that ends at the limit, with a byte beyond: StreamLimit with the 8 bytes that WANT would have consumed
    ∷ steps (record_of S.WaitingBoxHeader Initial (top - 8) 7) (header 8 jxlc ++ (0 ∷ [])) (refuses (limited top) (record_of at_limit SingleJxlc top (top - 8)) 8)
    -- a wrong index that ends at the limit is refused as ever
    ∷ steps (record_of S.WaitingBoxHeader Initial (top - 12) 7) (header 12 jxlp ++ one ++ (0 ∷ []))
    (refuses (says (refusal 17 (0 ∷ 1 ∷ [])) top (top - 12)) (record_of (S.Refused K.Container (Rule.WrongIndex 1 0)) (Jxlp 0) top (top - 12)) 12)
    -- StreamLimit stays, on an empty feed too
    ∷ steps (record_of at_limit Initial top 7) [] (refuses (limited top) (record_of at_limit Initial top 7) 0)
    -- a total past the limit reads nothing
    ∷ steps (record_of (in_exif 3) Initial (2 ^ 64 - 1) 7) (1 ∷ []) (refuses (limited (2 ^ 64 - 1)) (record_of at_limit Initial (2 ^ 64 - 1) 7) 0)
    -- a record that no file leads to names the total; at the limit StreamLimit goes first, a refusal of the boxes before that
    ∷ steps (record_of (S.WaitingJxlpIndex ToEnd) SingleJxlc 100 7) (1 ∷ [])
    (refuses (says (refusal 19 []) 100 100) (record_of (S.Refused K.Container Rule.ImpossibleRecord) SingleJxlc 100 7) 0)
    ∷ steps (record_of (S.WaitingJxlpIndex ToEnd) SingleJxlc top 7) (1 ∷ []) (refuses (limited top) (record_of at_limit SingleJxlc top 7) 0)
    ∷ steps (record_of (S.Refused K.Container Rule.ValidationFailed) Initial top 7) (1 ∷ [])
    (refuses (says (refusal 2 []) top 7) (record_of (S.Refused K.Container Rule.ValidationFailed) Initial top 7) 0)
    ∷ []

abbrev pub Worked : Type 0
Worked = Holds table
