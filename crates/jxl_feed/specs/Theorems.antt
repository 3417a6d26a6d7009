-- One answer: each promise determines what its function gives, and what it leaves behind the lent reference; proofs/Unique.antt.
use Rattle.std.specs.Prelude.{◌≡◌, List, ℕ}
use Rattle.jxl_base.specs.OneAnswer.{OneAnswer}
use Rattle.jxl_totals.specs.Step.{kind_of}
use Rattle.jxl_totals.specs.declared.ContainerParser.{ContainerParser}
use Rattle.jxl_totals.specs.Step.{step_of}
use Rattle.jxl_totals.specs.Naming.{numbered}
use Rattle.jxl_feed.specs.Fed.{told_fed}
use Rattle.jxl_feed.specs.declared.Fed.{Fed}

-- the answer, and the parser where it stands
abbrev pub OneFeedBytes : Type 0
OneFeedBytes =
    (p : ContainerParser) (s : List ℕ) (x y : Fed) (q r : ContainerParser) → told_fed x q ≡ numbered (step_of p s) → told_fed y r ≡ numbered (step_of p s)
    → (x ≡ y) × (q ≡ r)

abbrev pub OneKindLent : Type 0
OneKindLent = (p : ContainerParser) → OneAnswer (λ r. r ≡ kind_of p)
