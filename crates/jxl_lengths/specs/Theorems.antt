-- What is proved of the promise, each statement a type that proofs/ has a proof of under the same name in small letters.
use Rattle.std.specs.Prelude.{◌≡◌, ℕ, ◌≤◌, length}
use Rattle.jxl_base.specs.OneAnswer.{OneAnswer}
use Rattle.jxl_lines.specs.Digits.{decimal}
use Rattle.jxl_lines.specs.Lines.{text}
use Rattle.jxl_lines.specs.declared.Line.{Line}

-- one answer: the promise determines what its function gives
abbrev pub OneDigits : Type 0
OneDigits = (n : ℕ) → OneAnswer (λ r. (r ≡ length (decimal n)) × (r ≤ 20))

abbrev pub OneLineLength : Type 0
OneLineLength = (l : Line) → OneAnswer (λ r. r ≡ length (text l))
