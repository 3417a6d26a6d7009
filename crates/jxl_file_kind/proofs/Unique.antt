-- Two answers that meet a promise are equal.
use Rattle.jxl_base.proofs.OneAnswer.{one_named}
use Rattle.jxl_headers.specs.Bytes.{starts}
use Rattle.jxl_signatures.specs.Signature.{container_sig}
use Rattle.jxl_file_kind.specs.FileKind.{kind_of_file}
use Rattle.jxl_file_kind.specs.Theorems.{OneIsContainer, OneKindOfFile}

pub one_kind_of_file : OneKindOfFile
one_kind_of_file s = one_named (kind_of_file s)

pub one_is_container : OneIsContainer
one_is_container s = one_named (starts container_sig s)
