-- One answer: a step's answer is determined by what it tells; proofs/Unique.antt.
use Rattle.std.specs.Prelude.{◌≡◌}
use Rattle.jxl_base.specs.OneAnswer.{OneAnswer}
use Rattle.jxl_totals.specs.Naming.{Numbered}
use Rattle.jxl_counts.specs.Told.{told}

abbrev pub OneResult : Type 0
OneResult = (x : Numbered) → OneAnswer (λ r. told r ≡ x)
