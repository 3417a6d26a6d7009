-- The test over all mantissas says the bits, with either sign.
use Rattle.std.proofs.Common.{◌≡◌, true, false, arith}
use native.Mathlib.Nat.{add-zero}
use Rattle.jxl_half.specs.Half.{magnitude}
use Rattle.jxl_half.proofs.Halves.{computed_bits, no_nan}
use Rattle.jxl_half.proofs.subnormal.Goals as goal

pub float_from_bits-result : goal.float_from_bits-result
float_from_bits-result c = no_nan _ (λ e. omega arith)

pub returns-then-m-eq0 : goal.returns-then-m-eq0
unfolding magnitude
returns-then-m-eq0 c = rw (c.if-m-eq0.true, add-zero)

pub returns-then-sign-eq0 : goal.returns-then-sign-eq0
returns-then-sign-eq0 c = rw c.if-sign-eq0.true (computed_bits false c.args.m c.requires.1)

pub returns-else-sign-eq0 : goal.returns-else-sign-eq0
returns-else-sign-eq0 c =
    let one : c.args.sign ≡ 1 = omega arith in
    rw one (computed_bits true c.args.m c.requires.1)
