-- One answer: the promise determines what its function gives; proofs/Unique.antt.
use Rattle.std.specs.Prelude.{◌≡◌, List, ℕ}
use Rattle.jxl_base.specs.OneAnswer.{OneAnswer}
use Rattle.jxl_signatures.specs.Signature.{signature_of}

abbrev pub OneSignature : Type 0
OneSignature = (s : List ℕ) → OneAnswer (λ r. r ≡ signature_of s)
