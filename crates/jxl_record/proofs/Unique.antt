-- Two answers that meet a promise are equal.
use Rattle.jxl_base.proofs.OneAnswer.{one_named}
use Rattle.jxl_record.specs.Record.{at, fresh, kind_of}
use Rattle.jxl_record.specs.Theorems.{OneParser, OneAt, OneKind}

pub one_parser : OneParser
one_parser = one_named fresh

pub one_at : OneAt
one_at s j = one_named (at s j)

pub one_kind : OneKind
one_kind p = one_named (kind_of p)
