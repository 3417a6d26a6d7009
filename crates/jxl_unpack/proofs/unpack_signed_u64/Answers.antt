-- The law once over the width, at this one.
use Rattle.std.proofs.Common.{w64}
use Rattle.jxl_unpack.proofs.Unpack.{unpacks}
use Rattle.jxl_unpack.proofs.unpack_signed_u64.Goals as goal

pub returns : goal.returns
returns c = unpacks w64 c.args.x c.ranges.x.fits
