-- One answer: the promise of `keep` determines what it gives, and the buffer that it leaves.
use Rattle.std.specs.Prelude.{◌≡◌, List, ℕ, length}
use Rattle.jxl_base.specs.OneAnswer.{OneAnswerAndBuffer}
use Rattle.jxl_lines.specs.Pasting.{pasted}
use Rattle.jxl_unread.specs.Kept.{kept}

abbrev pub OneKeep : Type 0
OneKeep = (d : List ℕ) (from upto : ℕ) → OneAnswerAndBuffer (λ r b. (r ≡ length (kept from upto d)) × (b ≡ pasted d 0 (kept from upto d)))
