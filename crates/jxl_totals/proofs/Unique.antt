-- Two answers that meet a promise are equal.
use Rattle.jxl_base.proofs.OneAnswer.{one_named}
use Rattle.jxl_grammar.specs.Step as Boxes
use Rattle.jxl_totals.specs.Step.{counted, fresh, kind_of}
use Rattle.jxl_totals.specs.Laws.{OneParser, OneKind, OneStopped}

pub one_parser : OneParser
one_parser = one_named fresh

pub one_kind : OneKind
one_kind p = one_named (kind_of p)

pub one_stopped : OneStopped
one_stopped p w = one_named (counted (Boxes.refused w p.boxes) p.total p.header)
