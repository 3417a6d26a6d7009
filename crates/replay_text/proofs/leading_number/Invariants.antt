-- The digits that are left go on from the value so far.
use Rattle.std.proofs.Common.{◌≡◌, length}
use Rattle.replay_text.specs.Numbers.{number}
use Rattle.replay_text.proofs.leading_number.Given as goal

abbrev pub invariant-loop-b : goal.invariant-loop-b
invariant-loop-b l = number l.radix l.rest l.value ≡ number l.radix l.fn.text 0

abbrev pub decreases-loop-b : goal.decreases-loop-b
decreases-loop-b l = length l.rest
