use Rattle.std.proofs.Common.{[], length, ap, ◌∙◌, arith}
use Rattle.jxl_lines.proofs.Bytes.{pasted_as, pasted_stored, pasted_then}
use Rattle.jxl_lines.proofs.Numbers.{glyph_small, decimal_small, decimal_by_two, decimal_two_longer}
use Rattle.jxl_line_fields.proofs.+write_decimal.Goals as goal

pub returns-then-n-lt10 : goal.returns-then-n-lt10
returns-then-n-lt10 t c =
    let small = decimal_small c.args.n c.if-n-lt10.true in
    let digit = c.glyph.ensures ∙ glyph_small c.args.n c.if-n-lt10.true in
    pasted_as (cc (small, digit)) (pasted_stored _ _ c.glyph.result [] (omega (arith, ap length small)))

pub put_two-requires-2 : goal.put_two-requires-2
put_two-requires-2 t c =
    omega (arith, decimal_two_longer c.args.n c.if-n-lt100.false, c.write_decimal-next.auto.out, c.write_decimal-next.ensures.next)

pub returns : goal.returns
returns t c =
    rw (decimal_by_two c.args.n c.if-n-lt100.false)
    (pasted_then c.write_decimal-next.ensures c.put_two-2.ensures)
