-- The beginning, in which none of the four widths is over 32, the value, then the list.
use Rattle.std.proofs.Common.{sym, ◌∙◌}
use Rattle.jxl_field_rules.specs.Fields.{any_wide, u32, enum_of}
use Rattle.jxl_field_rules.proofs.Lists.{contained}
use Rattle.jxl_fields.proofs.read_enum.Goals as goal

pub returns-then-contains : goal.returns-then-contains
unfolding enum_of u32 any_wide
returns-then-contains c =
    let value = rw c.in_ok-place.ensures.0 at c.in_ok-v.ensures in
    let listed = sym (contained c.in_ok-v.v c.args.list.now) ∙ sym c.contains.ensures.value ∙ c.if-contains.true in
    rw (← c.in_ok-place.ensures.1, ← value, listed)

pub returns-else-contains : goal.returns-else-contains
unfolding enum_of u32 any_wide
returns-else-contains c =
    let value = rw c.in_ok-place.ensures.0 at c.in_ok-v.ensures in
    let unlisted = sym (contained c.in_ok-v.v c.args.list.now) ∙ sym c.contains.ensures.value ∙ c.if-contains.false in
    rw (← c.in_ok-place.ensures.1, ← value, unlisted)
