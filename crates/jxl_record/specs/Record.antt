-- The parser's record: a new one, its kind, and the refused ones.
use Rattle.std.specs.Prelude.{Bool, true, false}
use Rattle.jxl_record.specs.declared.BitstreamKind.{BitstreamKind}
use Rattle.jxl_record.specs.declared.BitstreamKind.TheVariants as K
use Rattle.jxl_record.specs.declared.JxlpIndexState.{JxlpIndexState}
use Rattle.jxl_record.specs.declared.JxlpIndexState.TheVariants.{Initial}
use Rattle.jxl_record.specs.declared.DetectState.{DetectState}
use Rattle.jxl_record.specs.declared.DetectState.TheVariants as S
use Rattle.jxl_record.specs.declared.BoxParser.{BoxParser}

abbrev pub at : DetectState → JxlpIndexState → BoxParser
at state jxlp = record { state = state; jxlp = jxlp }

abbrev pub fresh : BoxParser
fresh = at S.WaitingSignature Initial

-- the kind told on request is unknown before KIND, then KIND's; a refused parser's stays what it was
abbrev pub kind_in : DetectState → BitstreamKind
kind_in S.WaitingSignature = K.Unknown
kind_in S.WaitingBoxHeader = K.Container
kind_in (S.WaitingJxlpIndex l) = K.Container
kind_in (S.WaitingInnerType l) = K.Container
kind_in (S.InAuxBox t l) = K.Container
kind_in (S.InCodestream k l pending) = k
kind_in (S.Refused k r) = k

abbrev pub kind_of : BoxParser → BitstreamKind
kind_of p = kind_in p.state

abbrev pub refused_in : DetectState → Bool
refused_in S.WaitingSignature = false
refused_in S.WaitingBoxHeader = false
refused_in (S.WaitingJxlpIndex l) = false
refused_in (S.WaitingInnerType l) = false
refused_in (S.InAuxBox t l) = false
refused_in (S.InCodestream k l pending) = false
refused_in (S.Refused k r) = true

-- a refused parser
abbrev pub is_refused : BoxParser → Bool
is_refused p = refused_in p.state
