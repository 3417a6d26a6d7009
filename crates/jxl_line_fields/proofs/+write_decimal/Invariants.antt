-- The measure is the number, of which each turn leaves a hundredth.
use Rattle.jxl_line_fields.proofs.+write_decimal.Given as goal

abbrev pub decreases-write_decimal : goal.decreases-write_decimal
decreases-write_decimal l = l.n
