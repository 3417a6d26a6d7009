-- The beginning, 16 bits, then what they say.
use Rattle.std.proofs.Common.{◌≡◌}
use Rattle.jxl_bit_rules.specs.Answer.{gives}
use Rattle.jxl_field_rules.specs.Fields.{f16}
use Rattle.jxl_field_rules.proofs.Halves.{given_exactly, half_refused, half_given}
use Rattle.jxl_fields.proofs.read_f16_as_f32.Goals as goal

pub returns-in-Some : goal.returns-in-Some
unfolding f16
returns-in-Some c =
    let s = c.args.s.now in
    let read = rw c.in_ok-place.ensures.0 at c.in_ok-v.ensures.1 in
    let value : gives c.in-Some.x c.in_ok-v.next.at ≡ f16 s c.args.at =
    rw (← c.in_ok-place.ensures.1, ← read) (half_given _ _ s _ c.in-Some.ensures.result_value) in
    record { result_value = value; exactly_given = (given_exactly s c.args.at _ value).1 }

pub returns-in-None-clause-result_value : goal.returns-in-None-clause-result_value
unfolding f16
returns-in-None-clause-result_value c =
    let s = c.args.s.now in
    let read = rw c.in_ok-place.ensures.0 at c.in_ok-v.ensures.1 in
    rw (← c.in_ok-place.ensures.1, ← read) (half_refused _ s _ c.in-None.ensures.result_value)
