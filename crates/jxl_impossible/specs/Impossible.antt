-- The records that no file leads to.
use Rattle.std.specs.Prelude.{Bool, true, false, ltb, leb}
use Rattle.jxl_headers.specs.Bytes.{or}
use Rattle.jxl_reach.specs.Reach.{under}
use Rattle.jxl_record.specs.declared.JxlpIndexState.{JxlpIndexState}
use Rattle.jxl_record.specs.declared.JxlpIndexState.TheVariants.{Initial, SingleJxlc, Jxlp, JxlpFinished}
use Rattle.jxl_record.specs.declared.DetectState.{DetectState}
use Rattle.jxl_record.specs.declared.DetectState.TheVariants as S
use Rattle.jxl_record.specs.declared.BoxParser.{BoxParser}

-- a current `jxlp` index above 2^31 - 1, with none awaited
abbrev pub over_index : JxlpIndexState → Bool
over_index Initial = false
over_index SingleJxlc = false
over_index (Jxlp i) = leb 0x80000000 i
over_index JxlpFinished = false

-- an index awaited with no `jxlp` open, or above 2^31
abbrev pub no_index : JxlpIndexState → Bool
no_index Initial = true
no_index SingleJxlc = true
no_index (Jxlp i) = ltb 0x80000000 i
no_index JxlpFinished = true

-- the records that are refused since no file leads to them, an index or an inner type awaited in a payload under 4 among them; other
-- records are read as they stand
abbrev pub impossible_in : DetectState → JxlpIndexState → Bool
impossible_in S.WaitingSignature j = over_index j
impossible_in S.WaitingBoxHeader j = over_index j
impossible_in (S.WaitingJxlpIndex l) j = or (no_index j) (under 4 l)
impossible_in (S.WaitingInnerType l) j = or (over_index j) (under 4 l)
impossible_in (S.InAuxBox t l) j = over_index j
impossible_in (S.InCodestream k l pending) j = over_index j
impossible_in (S.Refused k r) j = false

abbrev pub impossible : BoxParser → Bool
impossible p = impossible_in p.state p.jxlp
