-- The loop's invariant: the lines so far are at the front of the buffer, and what is still to come of the turn stands behind them. The
-- measure is how many events are still to come.
use Rattle.std.proofs.Common.{length}
use Rattle.jxl_list_rules.specs.Turned.{turn_of}
use Rattle.jxl_list_rules.proofs.Text.{count}
use Rattle.jxl_long_way.proofs.Going.{Going}
use Rattle.jxl_long_way.proofs.turn_from.Given as goal

abbrev pub invariant-loop-next : goal.invariant-loop-next
invariant-loop-next l =
    Going l.input l.fn.out (turn_of l.input (length l.fn.out) l.fn.parser l.fn.joiner.held) l.out l.t

abbrev pub decreases-loop-next : goal.decreases-loop-next
decreases-loop-next l = count l.t.parser l.t.consumed l.input
