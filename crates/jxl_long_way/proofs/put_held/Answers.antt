use Rattle.std.proofs.Common.{sym}
use Rattle.jxl_long_way.proofs.Putting.{put_nothing}
use Rattle.jxl_long_way.proofs.put_held.Goals as goal

pub returns-in-None : goal.returns-in-None
returns-in-None c = rw c.in-None.is (sym (put_nothing c.args.out.now c.args.at c.requires))
