-- Two answers that meet a promise are equal.
use Rattle.jxl_base.proofs.OneAnswer.{one_named}
use Rattle.jxl_grammar.specs.Step.{step_of}
use Rattle.jxl_grammar.specs.Naming.{numbered}
use Rattle.jxl_payloads.proofs.Unique.{one_result}
use Rattle.jxl_boxes.specs.Theorems.{OneStep, OneSame}

pub one_step : OneStep
one_step p s = one_result (numbered (step_of p s))

pub one_same : OneSame
one_same p = one_named p
