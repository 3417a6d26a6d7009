-- A `jxlp` box behind its header, for every row of them.
use Rattle.std.specs.Prelude.{List, ℕ}
use Rattle.jxl_headers.specs.Bytes.{if}
use Rattle.jxl_reach.specs.declared.BytesLeft.{BytesLeft}
use Rattle.jxl_impossible.specs.Impossible.{over_index}
use Rattle.jxl_record.specs.declared.JxlpIndexState.{JxlpIndexState}
use Rattle.jxl_refusals.specs.declared.BoxRefusal.TheVariants.{ImpossibleRecord}
use Rattle.jxl_grammar.specs.Step.{Told, refuse_box, jxlp_step}

-- as `jxlp_step` has it; a row whose index no file leads to has no next one, and is refused
abbrev pub row_step : JxlpIndexState → BytesLeft → List ℕ → Told
row_step j l s = if (over_index j) (refuse_box ImpossibleRecord j) (jxlp_step j l s)
