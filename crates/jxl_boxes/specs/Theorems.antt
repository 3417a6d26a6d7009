-- One answer: a step's promise determines what it gives; proofs/Unique.antt.
use Rattle.std.specs.Prelude.{◌≡◌, List, ℕ}
use Rattle.jxl_base.specs.OneAnswer.{OneAnswer}
use Rattle.jxl_record.specs.declared.BoxParser.{BoxParser}
use Rattle.jxl_grammar.specs.Step.{step_of}
use Rattle.jxl_grammar.specs.Naming.{numbered}
use Rattle.jxl_payloads.specs.Told.{told}

abbrev pub OneStep : Type 0
OneStep = (p : BoxParser) (s : List ℕ) → OneAnswer (λ r. told r ≡ numbered (step_of p s))

-- two records that are the one given are equal: it was said of a record made anew, and a record is copied now
abbrev pub OneSame : Type 0
OneSame = (p : BoxParser) → OneAnswer (λ r. r ≡ p)
