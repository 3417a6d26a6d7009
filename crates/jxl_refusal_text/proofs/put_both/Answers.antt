use Rattle.std.proofs.Common.{arith, length-append}
use Rattle.jxl_lines.specs.Digits.{decimal}
use Rattle.jxl_lines.proofs.Bytes.{pasted_then}
use Rattle.jxl_refusal_text.proofs.put_both.Goals as goal

pub returns : goal.returns
returns c =
    let size = length-append c.args.words.now (decimal c.args.n) in
    let first = c.copy_in-a.ensures.fits (omega arith) in
    pasted_then first (c.put_decimal.ensures.fits (omega arith))
