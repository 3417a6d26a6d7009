-- Two answers that meet a promise are equal.
use Rattle.jxl_totals.specs.Step.{step_of}
use Rattle.jxl_totals.specs.Naming.{numbered}
use Rattle.jxl_counts.proofs.Unique.{one_result}
use Rattle.jxl_container.specs.Theorems.{OneStep}

pub one_step : OneStep
one_step p s = one_result (numbered (step_of p s))
