use Rattle.jxl_list_turn.proofs.Short.{told_short}
use Rattle.jxl_list_turn.proofs.turn.Goals as goal

pub returns-in-Some : goal.returns-in-Some
returns-in-Some c =
    told_short c.args.input.now c.args.out.now c.args.parser c.args.joiner.held c.way.result c.way.ensures c.in-Some.is
