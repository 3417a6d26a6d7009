-- What a lent parser answers, with the parser that is left there: the step of jxl_totals.
use Rattle.jxl_totals.specs.declared.ContainerParser.{ContainerParser}
use Rattle.jxl_totals.specs.Step.{shows, wants, refuses}
use Rattle.jxl_totals.specs.Naming.{Numbered, closed, says_refusal}
use Rattle.jxl_feed.specs.declared.Fed.{Fed}
use Rattle.jxl_feed.specs.declared.Fed.TheVariants as A

abbrev pub told_fed : Fed → ContainerParser → Numbered
told_fed (A.Shown e n) p = shows e p n
told_fed (A.Want n) p = wants p n
told_fed (A.Refused r n) p = refuses (says_refusal r) p n
told_fed (A.Closed n) p = refuses (closed p.total p.total) p n
