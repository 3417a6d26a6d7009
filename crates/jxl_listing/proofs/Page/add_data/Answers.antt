use Rattle.jxl_listing.proofs.Adding.{added_then}
use Rattle.jxl_listing.proofs.Page.add_data.Goals as goal

pub returns : goal.returns
returns c = added_then c.add_words.ensures (added_then c.add_type.ensures c.add_span.ensures)
