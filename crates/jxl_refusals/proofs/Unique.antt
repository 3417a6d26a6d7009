-- Two answers that meet a promise are equal.
use Rattle.jxl_base.proofs.OneAnswer.{one_named}
use Rattle.jxl_refusals.specs.Refusals.{number_of, why}
use Rattle.jxl_refusals.specs.Theorems.{OneNumber}

pub one_number : OneNumber
one_number w = one_named (number_of (why w))
