-- The bits lie in the eight bytes, and the mask leaves n of them.
use Rattle.jxl_bit_rules.proofs.Numbers.{looked}
use Rattle.jxl_begin.proofs.look.Goals as goal

pub returns : goal.returns
returns c =
    looked c.args.s.now (λ i. (c.type_inv.s i).fits) c.args.at c.args.n c.requires c.window.result c.window.ensures
