-- One answer: each promise determines what its function gives; proofs/Unique.antt has a proof of each under the same name in small letters.
use Rattle.std.specs.Prelude.{◌≡◌}
use Rattle.jxl_base.specs.OneAnswer.{OneAnswer}
use Rattle.jxl_impossible.specs.Impossible.{over_index, impossible}
use Rattle.jxl_record.specs.declared.JxlpIndexState.{JxlpIndexState}
use Rattle.jxl_record.specs.declared.BoxParser.{BoxParser}

abbrev pub OneOverIndex : Type 0
OneOverIndex = (j : JxlpIndexState) → OneAnswer (λ r. r ≡ over_index j)

abbrev pub OneIsImpossible : Type 0
OneIsImpossible = (p : BoxParser) → OneAnswer (λ r. r ≡ impossible p)
