-- Either is too short, or what the loop has passed is alike.
use Rattle.std.proofs.Common.{sym, ◌∙◌, arith}
use Rattle.jxl_signatures.proofs.Bytes.{starts_short, starts_differ, starts_agree, starts_over}
use Rattle.jxl_signatures.proofs.starts_with.Goals as goal

pub returns-then-s-prefix : goal.returns-then-s-prefix
returns-then-s-prefix c = sym (starts_short c.args.prefix.now c.args.s.now c.if-s-prefix.true)
