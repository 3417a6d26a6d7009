-- Each turn but the last takes one event of those that the input still has. The bytes counted and those left are together no more than
-- when the first turn began.
use Rattle.std.proofs.Common.{◌+◌, ◌≤◌, length}
use Rattle.example_boxes.proofs.Ending.{counted}
use Rattle.example_boxes.proofs.feed.Given as goal

abbrev pub invariant-loop-next : goal.invariant-loop-next
invariant-loop-next g l = (l.fn.parser.total ≤ l.parser.total) × (l.parser.total + length l.unread ≤ l.fn.parser.total + length l.fn.unread)

abbrev pub decreases-loop-next : goal.decreases-loop-next
decreases-loop-next g l = counted l.parser l.unread
