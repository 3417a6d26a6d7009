-- One answer: each promise determines what its function gives; proofs/Unique.antt has a proof of each under the same name in small letters.
use Rattle.std.specs.Prelude.{◌≡◌, ℕ}
use Rattle.jxl_base.specs.OneAnswer.{OneAnswer}
use Rattle.jxl_queue.specs.Queue.{saturated, most_events}

abbrev pub OneSaturatingSum : Type 0
OneSaturatingSum = (a b : ℕ) → OneAnswer (λ r. r ≡ saturated a b)

abbrev pub OneMostEvents : Type 0
OneMostEvents = (n k : ℕ) → OneAnswer (λ r. r ≡ most_events n k)
