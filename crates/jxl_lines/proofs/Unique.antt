-- Two answers that meet a promise are equal, and so are the buffers that they leave.
use mathlib.Core.Path.{sym, ◌∙◌}
use Rattle.jxl_base.proofs.OneAnswer.{one_named}
use Rattle.jxl_refusals.specs.Refusals.{why}
use Rattle.jxl_lines.specs.Lines.{printed, text}
use Rattle.jxl_lines.specs.Theorems.{OneRefused, OnePutBytes, OnePut}

pub one_refused : OneRefused
one_refused w = one_named (printed (why w))

pub one_put_bytes : OnePutBytes
one_put_bytes d at w x y b c p q = let same = p ∙ sym q in (cc, cc)

pub one_put : OnePut
one_put d at l = one_put_bytes d at (text l)
