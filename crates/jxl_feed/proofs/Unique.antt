-- Two answers that meet a promise are equal.
use mathlib.Core.Path.{◌≡◌, sym, ◌∙◌}
use Rattle.jxl_base.proofs.OneAnswer.{one_named}
use Rattle.jxl_totals.specs.Step.{kind_of}
use Rattle.jxl_totals.specs.Naming.{says_refusal}
use Rattle.jxl_totals.specs.declared.ContainerParser.{ContainerParser}
use Rattle.jxl_counts.proofs.Unique.{says_tells}
use Rattle.jxl_feed.specs.Fed.{told_fed}
use Rattle.jxl_feed.specs.Theorems.{OneFeedBytes, OneKindLent}
use Rattle.jxl_feed.specs.declared.Fed.{Fed}
use Rattle.jxl_feed.specs.declared.Fed.TheVariants as A

told_one : (x y : Fed) (q r : ContainerParser) → told_fed x q ≡ told_fed y r → (x ≡ y) × (q ≡ r)
told_one (A.Shown e n) (A.Shown f m) q r h = (cc, cc)
told_one (A.Shown e n) (A.Want m) q r h = (cc, cc)
told_one (A.Shown e n) (A.Refused u m) q r h = (cc, cc)
told_one (A.Shown e n) (A.Closed m) q r h = (cc, cc)
told_one (A.Want n) (A.Shown f m) q r h = (cc, cc)
told_one (A.Want n) (A.Want m) q r h = (cc, cc)
told_one (A.Want n) (A.Refused u m) q r h = (cc, cc)
told_one (A.Want n) (A.Closed m) q r h = (cc, cc)
told_one (A.Refused w n) (A.Shown f m) q r h = (cc, cc)
told_one (A.Refused w n) (A.Want m) q r h = (cc, cc)
told_one (A.Refused w n) (A.Refused u m) q r h =
    let same : says_refusal w ≡ says_refusal u = cc in
    let refusal : w ≡ u = says_tells w u same in
    (cc, cc)
told_one (A.Refused w n) (A.Closed m) q r h = (cc, cc)
told_one (A.Closed n) (A.Shown f m) q r h = (cc, cc)
told_one (A.Closed n) (A.Want m) q r h = (cc, cc)
told_one (A.Closed n) (A.Refused u m) q r h = (cc, cc)
told_one (A.Closed n) (A.Closed m) q r h = (cc, cc)

pub one_feed_bytes : OneFeedBytes
one_feed_bytes p s x y q r a b = told_one x y q r (a ∙ sym b)

pub one_kind_lent : OneKindLent
one_kind_lent p = one_named (kind_of p)
