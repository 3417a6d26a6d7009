-- One answer: the promise determines what its function gives; proofs/Unique.antt.
use Rattle.std.specs.Prelude.{◌≡◌, List, ℕ}
use Rattle.jxl_base.specs.OneAnswer.{OneAnswer}
use Rattle.jxl_slices.specs.Part.{between}

abbrev pub OnePart : Type 0
OnePart = (s : List ℕ) (from upto : ℕ) → OneAnswer (λ r. r ≡ between s from upto)
