-- The 4 bits lie above the 60.
use Rattle.std.proofs.Common.{lit≤}
use Rattle.jxl_bit_rules.proofs.Parts.{given}
use Rattle.jxl_field_rules.proofs.ChunkLaws.{last, placed}
use Rattle.jxl_u64.proofs.last_chunk.Goals as goal

pub returns : goal.returns
returns c =
    let s = c.args.place.bytes.now in
    let four = rw c.in_ok-flag.ensures.0 at c.in_ok-x.ensures.1 in
    let g = given 4 s _ _ _ four in
    rw (c.from.ensures, last c.args.value s c.args.place.at _ _ c.in_ok-flag.ensures.1 _ _ c.if-flag-ne1.false four, placed c.args.value c.in_ok-x.x 4 60 c.requires g.below (lit≤ tt))
