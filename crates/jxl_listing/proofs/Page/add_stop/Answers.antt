use Rattle.jxl_lines.proofs.Sizes.{stop_text}
use Rattle.jxl_listing.proofs.Adding.{added_as, added_then}
use Rattle.jxl_listing.proofs.Page.add_stop.Goals as goal

pub returns : goal.returns
returns c =
    added_as (stop_text c.args.why c.args.consumed)
    (added_then (added_as c.stop_head.ensures c.add_words.ensures) (added_then c.add_decimal.ensures c.add_byte.ensures))
