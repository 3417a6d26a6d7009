use Rattle.std.proofs.Common.{append_assoc, arith}
use Rattle.jxl_lines.proofs.Bytes.{pasted_as, pasted_then}
use Rattle.jxl_lines.proofs.Putting.{room}
use Rattle.jxl_refusal_words.proofs.Sizes.{wrong_index_size}
use Rattle.jxl_refusal_text.proofs.put_wrong_index.Goals as goal

pub returns : goal.returns
returns c =
    let size = wrong_index_size c.args.found c.args.expected in
    let last = c.copy_in.ensures.fits (omega arith) in
    room (pasted_as (simp append_assoc) (pasted_then (pasted_then c.put_both-a.ensures c.put_both-b.ensures) last))
