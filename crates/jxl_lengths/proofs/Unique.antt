-- Two answers that meet a promise are equal.
use mathlib.Core.Path.{sym, ◌∙◌}
use lib.ListN.{length}
use Rattle.jxl_base.proofs.OneAnswer.{one_named}
use Rattle.jxl_lines.specs.Lines.{text}
use Rattle.jxl_lengths.specs.Theorems.{OneDigits, OneLineLength}

pub one_digits : OneDigits
one_digits n r q (e, f) (g, h) = e ∙ sym g

pub one_line_length : OneLineLength
one_line_length l = one_named (length (text l))
