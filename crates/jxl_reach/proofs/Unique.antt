-- Two answers that meet a promise are equal.
use Rattle.jxl_base.proofs.OneAnswer.{one_named}
use Rattle.jxl_reach.specs.Reach.{under, less, to_end}
use Rattle.jxl_reach.specs.Theorems.{OneUnder, OneLess, OneToEnd}

pub one_under : OneUnder
one_under l n = one_named (under n l)

pub one_less : OneLess
one_less l n = one_named (less l n)

pub one_to_end : OneToEnd
one_to_end l = one_named (to_end l)
