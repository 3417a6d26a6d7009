use Rattle.std.proofs.Common.{ap, arith, length, List}
use Rattle.jxl_lines.specs.declared.Line.{Line}
use Rattle.jxl_list_rules.specs.Listed.{text_of}
use Rattle.jxl_list_file.proofs.Left.{all_left}
use Rattle.jxl_list_file.proofs.measure.Goals as goal

pub loop-line-init : goal.loop-line-init
loop-line-init c =
    let all = all_left c.args.file.now c.into_iter-line-iterator.ensures.into_iter_gives c.of-line-items.ensures in
    record { fits = omega arith; summed = omega (arith, ap length all) }

pub returns : goal.returns
returns c = omega (arith, c.loop-line.invariant.fits, c.loop-line.invariant.summed, ap (λ (ls : List Line). length (text_of ls)) c.in-None.ensures.steps.0)
