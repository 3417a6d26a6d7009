-- One answer: each promise determines what its function gives; proofs/Unique.antt has a proof of each under the same name in small letters.
use Rattle.std.specs.Prelude.{◌≡◌}
use Rattle.jxl_base.specs.OneAnswer.{OneAnswer}
use Rattle.jxl_record.specs.Record.{at, fresh, kind_of}
use Rattle.jxl_record.specs.declared.DetectState.{DetectState}
use Rattle.jxl_record.specs.declared.JxlpIndexState.{JxlpIndexState}
use Rattle.jxl_record.specs.declared.BoxParser.{BoxParser}

abbrev pub OneParser : Type 0
OneParser = OneAnswer (λ r. r ≡ fresh)

abbrev pub OneAt : Type 0
OneAt = (s : DetectState) (j : JxlpIndexState) → OneAnswer (λ r. r ≡ at s j)

abbrev pub OneKind : Type 0
OneKind = (p : BoxParser) → OneAnswer (λ r. r ≡ kind_of p)
