-- One step of the parser: what it tells for every record and every input, as document 01, "Boxes", has it. A refusal is told by the
-- rule that broke, as document 02, P2, has it; its number, and document 01's, are jxl_refusals' (`why`, `in_document01`).
use Rattle.std.specs.Prelude.{Bool, true, false, not, List, [], ℕ, ◌+◌, ◌-◌, ◌%◌, ◌/◌, min, ltb, leb, eqb, length, take, drop}
use Rattle.jxl_cuts.specs.Machine.{Told as Answer, ahead_by}
pub use Rattle.jxl_cuts.specs.Machine.{shows, wants, refuses}
use Rattle.jxl_headers.specs.Bytes.{if, and, or, be32, empty}
use Rattle.jxl_signatures.specs.Signature.{signature_of}
use Rattle.jxl_reach.specs.Reach.{under, less, to_end}
use Rattle.jxl_record.specs.Record.{at, kind_of, is_refused}
use Rattle.jxl_impossible.specs.Impossible.{impossible}
use Rattle.jxl_headers.specs.Header.{Header, short, bad, box, header_of}
use Rattle.jxl_headers.specs.Types.{jxlc, jxlp, brob, reserved}
use Rattle.jxl_signatures.specs.declared.Signature.{Signature}
use Rattle.jxl_signatures.specs.declared.Signature.TheVariants as G
use Rattle.jxl_record.specs.declared.BitstreamKind.{BitstreamKind}
use Rattle.jxl_record.specs.declared.BitstreamKind.TheVariants as K
use Rattle.jxl_reach.specs.declared.BytesLeft.{BytesLeft}
use Rattle.jxl_reach.specs.declared.BytesLeft.TheVariants.{ToEnd, Bytes}
use Rattle.jxl_record.specs.declared.JxlpIndexState.{JxlpIndexState}
use Rattle.jxl_record.specs.declared.JxlpIndexState.TheVariants.{Initial, SingleJxlc, Jxlp, JxlpFinished}
use Rattle.jxl_record.specs.declared.DetectState.{DetectState}
use Rattle.jxl_record.specs.declared.DetectState.TheVariants as S
use Rattle.jxl_record.specs.declared.BoxParser.{BoxParser}
use Rattle.jxl_refusals.specs.declared.BoxRefusal.{BoxRefusal}
use Rattle.jxl_refusals.specs.declared.BoxRefusal.TheVariants.{SecondJxlc, JxlcAfterJxlp, JxlpTooSmall, JxlpAfterJxlc, JxlpAfterLast, WrongIndex, BrobTooSmall, ImpossibleRecord, ValidationFailed}
use Rattle.jxl_events.specs.Event.{shifted}
use Rattle.jxl_events.specs.declared.ParseEvent.{ParseEvent}
use Rattle.jxl_events.specs.declared.ParseEvent.TheVariants as E

-- one step gives one event, WANT or a refusal by the rule that broke, with the next parser and the bytes consumed
abbrev pub Told : Type 0
Told = Answer BoxParser ParseEvent BoxRefusal

-- a refusal leaves the parser refused, and its kind what it was
abbrev pub refused : BoxRefusal → BoxParser → BoxParser
refused r p = at (S.Refused (kind_of p) r) p.jxlp

abbrev pub refuse : BoxRefusal → BoxParser → ℕ → Told
refuse r p n = refuses r (refused r p) n

-- what is told of the input behind its first n bytes, said of the whole input
abbrev pub ahead : ℕ → Told → Told
ahead = ahead_by shifted

abbrev pub in_code : BitstreamKind → BytesLeft → Bool → JxlpIndexState → BoxParser
in_code k l pending j = at (S.InCodestream k l pending) j

-- KIND bare or invalid, nothing consumed; the record then has NO_MORE_AUX to tell, and all bytes as CODESTREAM, the first ones too
abbrev pub bare_step : BitstreamKind → JxlpIndexState → Told
bare_step k j = shows (E.BitstreamKind k) (in_code k ToEnd true j) 0

-- signature. Starts with FF 0A: event KIND bare, nothing consumed. Starts with the 12 bytes: KIND container, 12 consumed.
-- A proper prefix of either: WANT. Else KIND invalid, nothing consumed
abbrev pub signature_step : JxlpIndexState → Signature → Told
signature_step j G.Bare = bare_step K.BareCodestream j
signature_step j G.Container = shows (E.BitstreamKind K.Container) (at S.WaitingBoxHeader j) 12
signature_step j G.TooShort = wants (at S.WaitingSignature j) 0
signature_step j G.Neither = bare_step K.Invalid j

-- CODESTREAM: all of the n bytes of input, at least one, that belong to the box
abbrev pub code_part : JxlpIndexState → BitstreamKind → BytesLeft → ℕ → Told
code_part j k ToEnd n = shows (E.Codestream 0 n) (in_code k ToEnd false j) n
code_part j k (Bytes m) n =
    if (leb m n) (shows (E.Codestream 0 m) (at S.WaitingBoxHeader j) m)
    (shows (E.Codestream 0 n) (in_code k (Bytes (m - n)) false j) n)

-- inside a codestream: codestream to the end, NO_MORE_AUX first. A payload of 0 gives one empty CODESTREAM
unfoldable pub code_step : JxlpIndexState → BitstreamKind → BytesLeft → Bool → List ℕ → Told
code_step j k l pending s =
    if (empty s) (wants (in_code k l pending j) 0)
    (if pending (shows E.NoMoreAuxBox (in_code k l false j) 0)
    (code_part j k l (length s)))

-- inside a side box, with n bytes of input, at least one. AUX_DATA: all input that belongs to the box, never empty.
-- AUX_END when 0 bytes are left
abbrev pub aux_part : JxlpIndexState → ℕ → BytesLeft → ℕ → Told
aux_part j t ToEnd n = shows (E.AuxBoxData t 0 n) (at (S.InAuxBox t ToEnd) j) n
aux_part j t (Bytes m) n =
    if (eqb m 0) (shows (E.AuxBoxEnd t) (at S.WaitingBoxHeader j) 0)
    (shows (E.AuxBoxData t 0 (min m n)) (at (S.InAuxBox t (Bytes (m - min m n))) j) (min m n))

-- the row of `jxlp` boxes behind index i: bit 31 marks the last
abbrev pub row : ℕ → ℕ → JxlpIndexState
row word i = if (leb 0x80000000 word) JxlpFinished (Jxlp i)

-- a `jxlp` payload: 4 bytes (WANT below that): bit 31 marks last, the other 31 are the index. Another index than i is
-- refused, the 4 bytes consumed: i was expected, the other found
unfoldable pub index_step : ℕ → BytesLeft → List ℕ → Told
index_step i l s =
    if (ltb (length s) 4) (wants (at (S.WaitingJxlpIndex l) (Jxlp i)) 0)
    (if (eqb (be32 s 0 % 0x80000000) i)
    (ahead 4 (code_step (row (be32 s 0) i) K.Container (less l 4) (to_end l) (drop 4 s)))
    (refuse (WrongIndex (be32 s 0 % 0x80000000) i) (at (S.WaitingJxlpIndex l) (Jxlp i)) 4))

-- a `brob` payload: 4 bytes of inner type (WANT below). A reserved type: refusal 2, the 4 bytes consumed.
-- Else AUX_START: the inner type, whether compressed, whether to the end
unfoldable pub inner_step : JxlpIndexState → BytesLeft → List ℕ → Told
inner_step j l s =
    if (ltb (length s) 4) (wants (at (S.WaitingInnerType l) j) 0)
    (if (reserved (be32 s 0)) (refuse ValidationFailed (at (S.WaitingInnerType l) j) 4)
    (shows (E.AuxBoxStart (be32 s 0) true (to_end l)) (at (S.InAuxBox (be32 s 0) (less l 4)) j) 4))

-- the refusal of a box, behind its header
abbrev pub refuse_box : BoxRefusal → JxlpIndexState → Told
refuse_box r j = refuse r (at S.WaitingBoxHeader j) 0

-- `jxlc`: refused if any `jxlc` or `jxlp` came before
abbrev pub jxlc_step : JxlpIndexState → BytesLeft → List ℕ → Told
jxlc_step Initial l s = code_step SingleJxlc K.Container l (to_end l) s
jxlc_step SingleJxlc l s = refuse_box SecondJxlc SingleJxlc
jxlc_step (Jxlp i) l s = refuse_box JxlcAfterJxlp (Jxlp i)
jxlc_step JxlpFinished l s = refuse_box JxlcAfterJxlp JxlpFinished

-- `jxlp`: refused after a `jxlc`, or after a last `jxlp`. The index counts up from 0 over the `jxlp` boxes
abbrev pub jxlp_next : JxlpIndexState → BytesLeft → List ℕ → Told
jxlp_next Initial l s = index_step 0 l s
jxlp_next SingleJxlc l s = refuse_box JxlpAfterJxlc SingleJxlc
jxlp_next (Jxlp i) l s = index_step (i + 1) l s
jxlp_next JxlpFinished l s = refuse_box JxlpAfterLast JxlpFinished

-- `jxlp`: a payload under 4 is refused, wherever it stands
abbrev pub jxlp_step : JxlpIndexState → BytesLeft → List ℕ → Told
jxlp_step j l s = if (under 4 l) (refuse_box JxlpTooSmall j) (jxlp_next j l s)

-- `brob`: a payload of 0 to 3 is refused
abbrev pub brob_step : JxlpIndexState → BytesLeft → List ℕ → Told
brob_step j l s = if (under 4 l) (refuse_box BrobTooSmall j) (inner_step j l s)

-- a box of type t, behind its header. Any other type, `ftyp` and a second `JXL ` too: AUX_START, plain
unfoldable pub box_step : JxlpIndexState → ℕ → BytesLeft → List ℕ → Told
box_step j t l s =
    if (eqb t jxlc) (jxlc_step j l s)
    (if (eqb t jxlp) (jxlp_step j l s)
    (if (eqb t brob) (brob_step j l s)
    (shows (E.AuxBoxStart t false (to_end l)) (at (S.InAuxBox t l) j) 0)))

-- a refusal in the header consumes nothing; the refusals behind it consume the header
abbrev pub header_step : JxlpIndexState → List ℕ → Header → Told
header_step j s short = wants (at S.WaitingBoxHeader j) 0
header_step j s (bad r) = refuse r (at S.WaitingBoxHeader j) 0
header_step j s (box t l n) = ahead n (box_step j t l (drop n s))

-- the index awaited; a record with no `jxlp` open awaits none, and is refused before this is asked
abbrev pub awaited : JxlpIndexState → ℕ
awaited Initial = 0
awaited SingleJxlc = 0
awaited (Jxlp i) = i
awaited JxlpFinished = 0

-- by what the parser waits for or is inside of; a refused parser answers its refusal to every later feed, with 0 consumed
abbrev pub state_step : DetectState → JxlpIndexState → List ℕ → Told
state_step S.WaitingSignature j s = signature_step j (signature_of s)
state_step S.WaitingBoxHeader j s = header_step j s (header_of s)
state_step (S.WaitingJxlpIndex l) j s = index_step (awaited j) l s
state_step (S.WaitingInnerType l) j s = inner_step j l s
state_step (S.InAuxBox t l) j s = aux_part j t l (length s)
state_step (S.InCodestream k l pending) j s = code_step j k l pending s
state_step (S.Refused k r) j s = refuses r (at (S.Refused k r) j) 0

-- an empty input answers WANT before anything else, except in a refused parser; a record that no file leads to is refused
-- with input there and 0 consumed
unfoldable pub step_of : BoxParser → List ℕ → Told
step_of p s =
    if (and (empty s) (not (is_refused p))) (wants p 0)
    (if (impossible p) (refuse ImpossibleRecord p 0)
    (state_step p.state p.jxlp s))
