-- The token goes behind the line, with a space before it or not.
use Rattle.std.proofs.Common.{◌≤◌, length, ap, arith}
use Rattle.replay_text.specs.Held.{held}
use Rattle.box_lines.proofs.Front.{stays, stays_parted}
use Rattle.box_lines.proofs.put.Goals as goal
use Rattle.box_lines.proofs.put.Goals.{then-not-is_empty, else-not-is_empty}

pub returns : goal.returns
returns g c =
    let within : length (held c.args.line.now) ≤ g.row.N = omega (arith, ap length c.as_bytes.ensures.value) in
    rw c.push-2.ensures.bytes
    (elim c.if-not-is_empty.branch [
      | then-not-is_empty w ↦ rw (w.line-is, w.push.ensures.bytes) (stays_parted g.row.N _ _ _ within)
      | else-not-is_empty w ↦ rw w.line-is (stays g.row.N _ _ within)
    ])
