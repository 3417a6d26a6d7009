-- The bytes so far are no more than a buffer has.
use Rattle.std.proofs.Common.{◌≤◌, length}
use Rattle.replay_text.specs.Held.{held}
use Rattle.field_lines.proofs.Buffer.from_line.Given as goal

abbrev pub invariant-loop-pair : goal.invariant-loop-pair
invariant-loop-pair l = length (held l.bytes) ≤ 32
