use Rattle.jxl_listing.proofs.Adding.{added_then}
use Rattle.jxl_listing.proofs.Page.add_span.Goals as goal

pub returns : goal.returns
returns c =
    added_then c.add_byte.ensures
    (added_then c.add_decimal.ensures (added_then c.add_byte-2.ensures (added_then c.add_decimal-2.ensures c.add_byte-3.ensures)))
