-- One answer: each promise determines what its function gives; proofs/Unique.antt has a proof of each under the same name in small letters.
use Rattle.std.specs.Prelude.{◌≡◌, ℕ}
use Rattle.jxl_base.specs.OneAnswer.{OneAnswer}
use Rattle.jxl_reach.specs.Reach.{under, less, to_end}
use Rattle.jxl_reach.specs.declared.BytesLeft.{BytesLeft}

abbrev pub OneUnder : Type 0
OneUnder = (l : BytesLeft) (n : ℕ) → OneAnswer (λ r. r ≡ under n l)

abbrev pub OneLess : Type 0
OneLess = (l : BytesLeft) (n : ℕ) → OneAnswer (λ r. r ≡ less l n)

abbrev pub OneToEnd : Type 0
OneToEnd = (l : BytesLeft) → OneAnswer (λ r. r ≡ to_end l)
