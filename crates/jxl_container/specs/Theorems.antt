-- One answer: what a step tells is determined by its promise, and the answer by what it tells; proofs/Unique.antt.
use Rattle.std.specs.Prelude.{◌≡◌, List, ℕ}
use Rattle.jxl_base.specs.OneAnswer.{OneAnswer}
use Rattle.jxl_totals.specs.Step.{step_of}
use Rattle.jxl_totals.specs.Naming.{numbered}
use Rattle.jxl_totals.specs.declared.ContainerParser.{ContainerParser}
use Rattle.jxl_counts.specs.Told.{told}

abbrev pub OneStep : Type 0
OneStep = (p : ContainerParser) (s : List ℕ) → OneAnswer (λ r. told r ≡ numbered (step_of p s))
