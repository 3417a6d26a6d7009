-- Each promise determines its answer.
-- Assumes nothing.
use Rattle.jxl_base.proofs.OneAnswer.{one_named}
use Rattle.jxl_unpack.specs.Theorems.{OneUnpackSigned}
use Rattle.jxl_unpack.specs.UnpackSigned.{unpacked}

pub one_unpack_signed : OneUnpackSigned
one_unpack_signed x = one_named (unpacked x)
