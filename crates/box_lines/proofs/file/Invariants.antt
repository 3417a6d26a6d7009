-- The bytes so far are no more than a file has.
use Rattle.std.proofs.Common.{◌≤◌, length}
use Rattle.replay_text.specs.Held.{held}
use Rattle.box_lines.proofs.file.Given as goal

abbrev pub invariant-loop-digits : goal.invariant-loop-digits
invariant-loop-digits l = length (held l.bytes) ≤ 128
