-- Two answers that meet the promise are equal.
use mathlib.Core.Path.{◌≡◌}
use Rattle.jxl_base.proofs.OneAnswer.{one_told}
use Rattle.jxl_grammar.specs.End.{close_of}
use Rattle.jxl_owed.specs.Told.{told_close}
use Rattle.jxl_owed.specs.Theorems.{OneClose}
use Rattle.jxl_owed.specs.declared.Close.{Close}
use Rattle.jxl_owed.specs.declared.Close.TheVariants as A

told_one : (x y : Close) → told_close x ≡ told_close y → x ≡ y
told_one A.Missing A.Missing h = cc
told_one A.Missing (A.Owes f) h = cc
told_one A.Missing A.Nothing h = cc
told_one (A.Owes e) A.Missing h = cc
told_one (A.Owes e) (A.Owes f) h = cc
told_one (A.Owes e) A.Nothing h = cc
told_one A.Nothing A.Missing h = cc
told_one A.Nothing (A.Owes f) h = cc
told_one A.Nothing A.Nothing h = cc

pub one_close : OneClose
one_close p unread = one_told told_close told_one (close_of p unread)
