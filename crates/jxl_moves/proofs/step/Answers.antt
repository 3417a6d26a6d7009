-- The test says whether the bits are there.
use Rattle.std.proofs.Common.{◌+◌, arith}
use borrow.Author.Tests.{le-leb, lt-leb}
use Rattle.jxl_bit_rules.specs.Bits.{end}
use Rattle.jxl_bit_rules.specs.Readers.{move}
use Rattle.jxl_moves.proofs.step.Goals as goal

pub returns-then-n-place : goal.returns-then-n-place
unfolding move
returns-then-n-place c = rw (le-leb (c.args.place.at + c.args.n) (end c.args.place.bytes.now) (omega arith))

pub returns-else-n-place : goal.returns-else-n-place
unfolding move
returns-else-n-place c = rw (lt-leb (c.args.place.at + c.args.n) (end c.args.place.bytes.now) (omega arith))
