-- Two answers that meet a promise are equal.
use Rattle.jxl_base.proofs.OneAnswer.{one_named}
use Rattle.jxl_signatures.specs.Signature.{signature_of}
use Rattle.jxl_signatures.specs.Theorems.{OneSignature}

pub one_signature : OneSignature
one_signature s = one_named (signature_of s)
