use Rattle.std.proofs.Common.{ap, arith, length}
use Rattle.jxl_list_file.proofs.Left.{shown_left, stopped_left}
use Rattle.jxl_list_file.proofs.LinesIterator.next.Goals as goal

pub returns-in-Ok-clause-steps : goal.returns-in-Ok-clause-steps
returns-in-Ok-clause-steps c = shown_left _ c.in_ok-parser.was c.next-then.ensures c.in-Ok.is

pub returns-in-Ok-clause-goes : goal.returns-in-Ok-clause-goes
returns-in-Ok-clause-goes c =
    let fewer = ap length (shown_left _ c.in_ok-parser.was c.next-then.ensures c.in-Ok.is) in
    record { on = λ finite. (tt, tt, omega (arith, fewer)); keeps = tt; rests = λ finite. tt }

pub returns-in-Err-clause-steps : goal.returns-in-Err-clause-steps
returns-in-Err-clause-steps c = stopped_left _ c.in_ok-parser.was c.next-then.ensures c.in-Err.is
