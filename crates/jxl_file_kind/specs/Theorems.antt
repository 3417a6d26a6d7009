-- One answer: each promise determines what its function gives; proofs/Unique.antt.
use Rattle.std.specs.Prelude.{◌≡◌, List, ℕ}
use Rattle.jxl_base.specs.OneAnswer.{OneAnswer}
use Rattle.jxl_headers.specs.Bytes.{starts}
use Rattle.jxl_signatures.specs.Signature.{container_sig}
use Rattle.jxl_file_kind.specs.FileKind.{kind_of_file}

abbrev pub OneKindOfFile : Type 0
OneKindOfFile = (s : List ℕ) → OneAnswer (λ r. r ≡ kind_of_file s)

abbrev pub OneIsContainer : Type 0
OneIsContainer = (s : List ℕ) → OneAnswer (λ r. r ≡ starts container_sig s)
