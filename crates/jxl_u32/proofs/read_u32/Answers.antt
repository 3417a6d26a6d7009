-- The choices laid out as widths and offsets, the beginning with the four widths, then the choice.
use Rattle.std.proofs.Common.{ℕ, List, Bor, ap, ◌∙◌}
use Rattle.jxl_bit_rules.proofs.Parts.{begun, handed_on}
use Rattle.jxl_field_rules.specs.Fields.{select, u32}
use Rattle.jxl_field_rules.proofs.Choices.{laid, any_over_lem, selects}
use Rattle.jxl_u32.proofs.read_u32.Goals as goal

pub returns-in_err-place : goal.returns-in_err-place
unfolding u32
returns-in_err-place c =
    let four = laid c.args.d _ _ _ _ _ _ _ _ c.width_of.ensures c.width_of-2.ensures c.width_of-3.ensures c.width_of-4.ensures c.offset_of.ensures c.offset_of-2.ensures c.offset_of-3.ensures c.offset_of-4.ensures c.offset_of.type_inv c.offset_of-2.type_inv c.offset_of-3.type_inv c.offset_of-4.type_inv in
    handed_on c.from_residual.result c.in_err-place.field-0.0 c.from_residual.ensures.1 ∙ rw (← any_over_lem _ _ _ four, ← c.in_err-place.ensures)

pub select-requires : goal.select-requires
select-requires c = (begun _ c.args.s.now c.args.at _ c.in_ok-place.ensures.1).narrow

pub returns : goal.returns
unfolding u32
returns c =
    let four = laid c.args.d _ _ _ _ _ _ _ _ c.width_of.ensures c.width_of-2.ensures c.width_of-3.ensures c.width_of-4.ensures c.offset_of.ensures c.offset_of-2.ensures c.offset_of-3.ensures c.offset_of-4.ensures c.offset_of.type_inv c.offset_of-2.type_inv c.offset_of-3.type_inv c.offset_of-4.type_inv in
    rw (← any_over_lem _ _ _ four, ← c.in_ok-place.ensures.1)
    (c.select.ensures ∙ selects _ _ _ four _ _ ∙ ap (λ (s : Bor (List ℕ)). select c.args.d s.now c.in_ok-place.place.at) c.in_ok-place.ensures.0)
