-- What an answer of a step says in the terms of its definition.
use Rattle.jxl_totals.specs.Step.{shows, wants, refuses}
use Rattle.jxl_totals.specs.Naming.{Numbered, closed, says_refusal}
use Rattle.jxl_counts.specs.declared.StepResult.{StepResult}
use Rattle.jxl_counts.specs.declared.StepResult.TheVariants as A

abbrev pub told : StepResult → Numbered
told (A.Shown p n e) = shows e p n
told (A.Want p n) = wants p n
told (A.Refused p n r) = refuses (says_refusal r) p n
told (A.Closed p n) = refuses (closed p.total p.total) p n
