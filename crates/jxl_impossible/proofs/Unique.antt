-- Two answers that meet a promise are equal.
use Rattle.jxl_base.proofs.OneAnswer.{one_named}
use Rattle.jxl_impossible.specs.Impossible.{over_index, impossible}
use Rattle.jxl_impossible.specs.Theorems.{OneOverIndex, OneIsImpossible}

pub one_over_index : OneOverIndex
one_over_index j = one_named (over_index j)

pub one_is_impossible : OneIsImpossible
one_is_impossible p = one_named (impossible p)
