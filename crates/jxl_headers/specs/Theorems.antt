-- One answer: each promise determines what its function gives; proofs/Unique.antt has a proof of each under the same name in small letters.
use Rattle.std.specs.Prelude.{◌≡◌, List, ℕ}
use Rattle.jxl_base.specs.OneAnswer.{OneAnswer}
use Rattle.jxl_headers.specs.Bytes.{be32}
use Rattle.jxl_headers.specs.Header.{header_of, numbered, told_header}

abbrev pub OneHeader : Type 0
OneHeader = (s : List ℕ) → OneAnswer (λ r. told_header r ≡ numbered (header_of s))

abbrev pub OneWord : Type 0
OneWord = (s : List ℕ) (at : ℕ) → OneAnswer (λ r. r ≡ be32 s at)
