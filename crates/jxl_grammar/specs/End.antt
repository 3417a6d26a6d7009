-- The end of a file: what it comes to, by the record of the rules on boxes and the bytes left unread. Document 02, P4.
use Rattle.std.specs.Prelude.{Bool, true, false, List, [], ◌∷◌, ℕ, eqb}
use Rattle.jxl_headers.specs.Bytes.{if, or}
use Rattle.jxl_reach.specs.declared.BytesLeft.{BytesLeft}
use Rattle.jxl_reach.specs.declared.BytesLeft.TheVariants.{ToEnd, Bytes}
use Rattle.jxl_record.specs.Record.{kind_of}
use Rattle.jxl_record.specs.declared.BitstreamKind.{BitstreamKind}
use Rattle.jxl_record.specs.declared.BitstreamKind.TheVariants as K
use Rattle.jxl_record.specs.declared.JxlpIndexState.{JxlpIndexState}
use Rattle.jxl_record.specs.declared.JxlpIndexState.TheVariants.{Initial, SingleJxlc, Jxlp, JxlpFinished}
use Rattle.jxl_record.specs.declared.DetectState.{DetectState}
use Rattle.jxl_record.specs.declared.DetectState.TheVariants as S
use Rattle.jxl_record.specs.declared.BoxParser.{BoxParser}
use Rattle.jxl_events.specs.Event.{shifted}
use Rattle.jxl_events.specs.declared.ParseEvent.{ParseEvent}
use Rattle.jxl_events.specs.declared.ParseEvent.TheVariants as E

-- what an end comes to: something is missing; or one event is still owed; or none
pub data Close : Type 0 where
  missing : Close
  owes : ParseEvent → Close
  nothing : Close

-- the same n bytes further on
abbrev pub close_at : ℕ → Close → Close
close_at n missing = missing
close_at n (owes e) = owes (shifted n e)
close_at n nothing = nothing

-- a side box of which so much is left: "AUX_END, also of a box to the end"; "a bounded payload with bytes missing"
abbrev pub aux_owes : ℕ → BytesLeft → Close
aux_owes t ToEnd = owes (E.AuxBoxEnd t)
aux_owes t (Bytes n) = if (eqb n 0) (owes (E.AuxBoxEnd t)) missing

-- a codestream of which so much is left, at a place: "NO_MORE_AUX alone for a codestream to the end that has no byte", and none once that is
-- told; "an empty CODESTREAM of a bounded box", which has a payload of 0, since any other is told with its last byte
abbrev pub code_owes : BytesLeft → Bool → ℕ → Close
code_owes ToEnd true at = owes E.NoMoreAuxBox
code_owes ToEnd false at = nothing
code_owes (Bytes n) pending at = if (eqb n 0) (owes (E.Codestream at 0)) missing

-- "An unknown kind"
abbrev pub unknown : BitstreamKind → Bool
unknown K.Unknown = true
unknown K.BareCodestream = false
unknown K.Container = false
unknown K.Invalid = false

-- "a row of `jxlp` without its last one"
abbrev pub row_open : JxlpIndexState → Bool
row_open Initial = false
row_open SingleJxlc = false
row_open (Jxlp i) = true
row_open JxlpFinished = false

-- by what the parser waits for or is inside of: "a missing index or inner type"; between two boxes nothing is owed; a refused parser, or one
-- that was ended, owes nothing that could still be given
abbrev pub state_owes : DetectState → Close
state_owes S.WaitingSignature = missing
state_owes S.WaitingBoxHeader = nothing
state_owes (S.WaitingJxlpIndex l) = missing
state_owes (S.WaitingInnerType l) = missing
state_owes (S.InAuxBox t l) = aux_owes t l
state_owes (S.InCodestream k l pending) = code_owes l pending 0
state_owes (S.Refused k r) = missing

-- what is missing comes "ahead of any owed event"; "unread bytes" are of a header, an index or an inner type that is not whole, or of events
-- that were not taken
abbrev pub close_of : BoxParser → List ℕ → Close
close_of p [] = if (or (unknown (kind_of p)) (row_open p.jxlp)) missing (state_owes p.state)
close_of p (x ∷ unread) = missing
