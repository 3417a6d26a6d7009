-- By the exponent. No answer names the number 31, so that the edit of it is refused for a fact.
use Rattle.std.proofs.Common.{◌≡◌, ℕ, ◌+◌, ◌*◌, ◌^◌, arith, ap, ◌∙◌}
use Rattle.std.specs.Float.{binary32}
use Rattle.std.specs.Float.Ieee.{of_bits}
use borrow.Author.Tests.{ne_eqb}
use Rattle.jxl_half.specs.Half.{sign, exponent, mantissa, magnitude, pattern}
use Rattle.jxl_half.specs.Widen.{widened, gives}
use Rattle.jxl_half.proofs.Halves.{no_nan, magnitude_above, widened_exactly}
use Rattle.jxl_half.proofs.widen.Goals as goal

pub returns-then-exponent-eq0 : goal.returns-then-exponent-eq0
unfolding widened pattern
returns-then-exponent-eq0 c =
    let v = c.args.code in
    let zero : 0 ≡ exponent v = omega (arith, c.from-v.ensures) in
    let p = widened_exactly v c.ranges.code.fits (gives c.subnormal.result)
    (rw (ne_eqb (exponent v) 31 (λ e. omega arith)) (ap gives (c.subnormal.ensures ∙ ap (λ (n : ℕ). of_bits binary32 (sign n * 2 ^ 31 + magnitude 0 (mantissa n))) c.from-v.ensures ∙ ap (λ (e : ℕ). of_bits binary32 (sign v * 2 ^ 31 + magnitude e (mantissa v))) zero))) in
    record { result_value = p.0; exactly_widened = p.1 }

pub float_from_bits-result : goal.float_from_bits-result
float_from_bits-result c = no_nan _ (λ e. omega arith)

pub returns-else-exponent-eq0 : goal.returns-else-exponent-eq0
unfolding widened pattern
returns-else-exponent-eq0 c =
    let v = c.args.code in
    let n = c.from-v.result in
    let p = widened_exactly v c.ranges.code.fits (gives (of_bits binary32 (sign n * 2 ^ 31 + (exponent n + 112) * 2 ^ 23 + mantissa n * 2 ^ 13)))
    (rw (ne_eqb (exponent v) 31 (λ e. omega arith)) (ap (λ b. gives (of_bits binary32 b)) (omega (arith, c.from-v.ensures, magnitude_above (exponent v) (mantissa v) (λ e. omega (arith, c.from-v.ensures)))))) in
    record { result_value = p.0; exactly_widened = p.1 }
