-- Two answers that meet a promise are equal.
use Rattle.jxl_base.proofs.OneAnswer.{one_named}
use Rattle.jxl_queue.specs.Queue.{saturated, most_events}
use Rattle.jxl_queue.specs.Theorems.{OneSaturatingSum, OneMostEvents}

pub one_saturating_sum : OneSaturatingSum
one_saturating_sum a b = one_named (saturated a b)

pub one_most_events : OneMostEvents
one_most_events n k = one_named (most_events n k)
