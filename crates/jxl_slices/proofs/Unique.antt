-- Two answers that meet the promise are equal.
use Rattle.jxl_base.proofs.OneAnswer.{one_named}
use Rattle.jxl_slices.specs.Part.{between}
use Rattle.jxl_slices.specs.Theorems.{OnePart}

pub one_part : OnePart
one_part s from upto = one_named (between s from upto)
