-- What stands in the buffer is no more than it has room for.
use Rattle.std.proofs.Common.{◌≤◌, length}
use Rattle.box_answers.proofs.whole_into.Given as goal

abbrev pub invariant-loop-cut : goal.invariant-loop-cut
invariant-loop-cut l =
    (goal.iterator-loop-cut).can_next l.cut-iterator × (goal.iterator-loop-cut).is_finite l.cut-iterator × (l.at ≤ length l.out)
