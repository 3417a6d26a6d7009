-- One answer: the promise determines what its function gives; proofs/Unique.antt.
use Rattle.std.specs.Prelude.{◌≡◌, List, ℕ}
use Rattle.jxl_base.specs.OneAnswer.{OneAnswer}
use Rattle.jxl_record.specs.declared.BoxParser.{BoxParser}
use Rattle.jxl_grammar.specs.End.{close_of}
use Rattle.jxl_owed.specs.Told.{told_close}

abbrev pub OneClose : Type 0
OneClose = (p : BoxParser) (unread : List ℕ) → OneAnswer (λ r. told_close r ≡ close_of p unread)
