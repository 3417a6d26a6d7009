-- What an end comes to, in the terms of its definition.
use Rattle.jxl_grammar.specs.End as Spec
use Rattle.jxl_owed.specs.declared.Close.{Close}
use Rattle.jxl_owed.specs.declared.Close.TheVariants as A

abbrev pub told_close : Close → Spec.Close
told_close A.Missing = Spec.missing
told_close (A.Owes e) = Spec.owes e
told_close A.Nothing = Spec.nothing
