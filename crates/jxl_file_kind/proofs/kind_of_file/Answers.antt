-- The kind that the parser tells behind its first step.
use Rattle.std.proofs.Common.{◌∙◌}
use Rattle.jxl_file_kind.proofs.FirstStep.{kind_after}
use Rattle.jxl_file_kind.proofs.kind_of_file.Goals as goal

pub returns : goal.returns
returns c = c.kind.ensures ∙ kind_after c.feed_bytes.result c.feed_bytes.new.parser c.args.input.now (rw c.new-parser.ensures at c.feed_bytes.ensures)
