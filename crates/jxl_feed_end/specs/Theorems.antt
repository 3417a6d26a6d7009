-- One answer: the promise determines what the end call gives, and what it leaves behind the lent reference; proofs/Unique.antt.
use Rattle.std.specs.Prelude.{◌≡◌, Option, Result, List, ℕ}
use Rattle.jxl_events.specs.declared.FileEvent.{FileEvent}
use Rattle.jxl_totals.specs.declared.ContainerParser.{ContainerParser}
use Rattle.jxl_totals.specs.declared.FileRefusal.{FileRefusal}
use Rattle.jxl_endings.specs.End.{end_of, numbered_end}
use Rattle.jxl_feed_end.specs.Ended.{told_ended}

-- the answer, and the parser where it stands
abbrev pub OneEndBytes : Type 0
OneEndBytes =
    (p : ContainerParser) (s : List ℕ) (x y : Result (Option FileEvent) FileRefusal) (q r : ContainerParser)
    → told_ended x q ≡ numbered_end (end_of p s) → told_ended y r ≡ numbered_end (end_of p s) → (x ≡ y) × (q ≡ r)
