-- What an answer of a step says in the terms of its definition.
use Rattle.jxl_refusals.specs.Refusals.{why}
use Rattle.jxl_grammar.specs.Step.{shows, wants, refuses}
use Rattle.jxl_grammar.specs.Naming.{Numbered}
use Rattle.jxl_payloads.specs.declared.BoxResult.{BoxResult}
use Rattle.jxl_payloads.specs.declared.BoxResult.TheVariants as A

abbrev pub told : BoxResult → Numbered
told (A.Shown p n e) = shows e p n
told (A.Want p n) = wants p n
told (A.Refused p n r) = refuses (why r) p n
