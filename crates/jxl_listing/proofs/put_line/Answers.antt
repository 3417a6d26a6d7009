use Rattle.std.proofs.Common.{arith, rules}
use Rattle.jxl_lines.proofs.Sizes.{most_bytes}
use Rattle.jxl_lines.proofs.Ranges.{in_range}
use Rattle.jxl_lines.proofs.Putting.{room}
use Rattle.jxl_listing.proofs.put_line.Goals as goal

pub add_line-requires : goal.add_line-requires
add_line-requires c =
    let line = c.args.line in
    let most = most_bytes line (in_range line _ c.well_formed.1.1.0) in
    grind arith

pub returns : goal.returns
returns c = let put = room c.add_line.ensures.put in search rules
