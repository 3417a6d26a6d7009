-- `step` meets its promise: the rules on boxes are asked about the input that is there, and what they tell is counted.
use Rattle.std.proofs.Common.{sym, ap, ◌∙◌}
use Rattle.jxl_payloads.specs.declared.BoxResult.TheVariants as A
use Rattle.jxl_totals.specs.Naming.{numbered}
use Rattle.jxl_container.proofs.Counting.{total_fits, shown, wanted, limited, refused_there}
use Rattle.jxl_container.proofs.step.Goals as goal

pub overflow_add-total : goal.overflow_add-total
overflow_add-total c =
    record { fits = total_fits c.args.parser _ c.args.input.now _ (A.Shown _ _ _) c.well_formed.0 c.visible-n.ensures c.in-Shown.ensures }

pub overflow_add-total-in-Want : goal.overflow_add-total-in-Want
overflow_add-total-in-Want c =
    record { fits = total_fits c.args.parser _ c.args.input.now _ (A.Want _ _) c.well_formed.0 c.visible-n.ensures c.in-Want.ensures }

pub overflow_add-total-in-Refused : goal.overflow_add-total-in-Refused
overflow_add-total-in-Refused c =
    record { fits = total_fits c.args.parser _ c.args.input.now _ (A.Refused _ _ _) c.well_formed.0 c.visible-n.ensures c.in-Refused.ensures }

pub returns-in-Shown : goal.returns-in-Shown
returns-in-Shown c =
    rw (c.at.ensures, c.newest-header.ensures, c.at_header-starts.ensures)
    (ap numbered (sym (shown c.args.parser c.args.input.now _ _ _ _ c.visible-n.ensures c.in-Shown.ensures)))

pub returns-then-n-input : goal.returns-then-n-input
returns-then-n-input c =
    rw (c.at-next.ensures, c.newest-header-in-Want.ensures, c.at_header-starts.ensures)
    (ap numbered (sym (wanted c.args.parser c.args.input.now _ _ _ c.visible-n.ensures c.if-n-input.true c.in-Want.ensures)))

pub returns-else-n-input : goal.returns-else-n-input
returns-else-n-input c =
    c.limited.ensures
    ∙ rw (c.at-next.ensures, c.newest-header-in-Want.ensures, c.at_header-starts.ensures)
    (ap numbered (sym (limited c.args.parser c.args.input.now _ _ _ c.visible-n.ensures c.if-n-input.false c.in-Want.ensures)))

pub returns-in-Refused : goal.returns-in-Refused
returns-in-Refused c =
    c.refused.ensures
    ∙ rw (c.at-next-in-Refused.ensures, c.looked_at-header.ensures, c.at_header-starts.ensures)
    (ap numbered (sym (refused_there c.args.parser c.args.input.now _ c.in-Refused.refusal c.in-Refused.next c.in-Refused.consumed c.visible-n.ensures c.in-Refused.ensures)))
