-- A step's answer by the rule that broke, which the number and the values tell.
use mathlib.Core.Path.{◌≡◌, refl, ◌∙◌}
use Rattle.jxl_grammar.specs.Step.{Told, shows, wants, refuses}
use Rattle.jxl_grammar.specs.Naming.{numbered}
use Rattle.jxl_grammar.proofs.Naming.{unnumbered}
use Rattle.jxl_payloads.specs.Told.{told}
use Rattle.jxl_payloads.specs.declared.BoxResult.{BoxResult}
use Rattle.jxl_payloads.specs.declared.BoxResult.TheVariants as A

abbrev pub ruled : BoxResult → Told
ruled (A.Shown p n e) = shows e p n
ruled (A.Want p n) = wants p n
ruled (A.Refused p n r) = refuses r p n

numbered_ruled : (x : BoxResult) → numbered (ruled x) ≡ told x
numbered_ruled (A.Shown p n e) = refl
numbered_ruled (A.Want p n) = refl
numbered_ruled (A.Refused p n r) = refl

pub by_rule : (x : BoxResult) (t : Told) → told x ≡ numbered t → ruled x ≡ t
by_rule x t e = unnumbered (ruled x) t (numbered_ruled x ∙ e)
