-- One answer: what an end call tells is determined by its promise, and the answer by what it tells; proofs/Unique.antt.
use Rattle.std.specs.Prelude.{◌≡◌, List, ℕ}
use Rattle.jxl_base.specs.OneAnswer.{OneAnswer}
use Rattle.jxl_endings.specs.End.{end_of, numbered_end}
use Rattle.jxl_totals.specs.declared.ContainerParser.{ContainerParser}
use Rattle.jxl_end.specs.Told.{told_end}

abbrev pub OneEnd : Type 0
OneEnd = (p : ContainerParser) (unread : List ℕ) → OneAnswer (λ r. told_end r ≡ numbered_end (end_of p unread))
