use Rattle.jxl_listing.proofs.Adding.{added_as, added_then}
use Rattle.jxl_listing.proofs.Page.add_start.Goals as goal

pub returns : goal.returns
returns c =
    added_then c.add_words.ensures (added_then c.add_type.ensures (added_as c.start_tail.ensures c.add_words-2.ensures))
