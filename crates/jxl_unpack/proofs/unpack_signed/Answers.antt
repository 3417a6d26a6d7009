-- The law once over the width, at this one.
use Rattle.std.proofs.Common.{w32}
use Rattle.jxl_unpack.proofs.Unpack.{unpacks}
use Rattle.jxl_unpack.proofs.unpack_signed.Goals as goal

pub returns : goal.returns
returns c = unpacks w32 c.args.x c.ranges.x.fits
