-- A number has one digit more than the power of ten at or below it.
use mathlib.Core.Path.{◌≡◌, ap, ◌∙◌}
use Prim.Native.Nat.{ℕ, zero, suc, ◌+◌, ◌*◌, ◌/◌, ◌^◌, ◌<◌, ◌≤◌}
use native.Mathlib.Nat.{pow-suc}
use native.Mathlib.Omega.{arith}
use lib.ListN.{length}
use Rattle.jxl_lines.specs.Digits.{decimal}
use Rattle.jxl_lines.proofs.Numbers.{decimal_small, decimal_longer}

pub one_digit : length (decimal 0) ≡ 1
one_digit = ap length (decimal_small 0 (omega arith))

pub digits_by_power : (k n : ℕ) → 10 ^ k ≤ n → n < 10 * 10 ^ k → length (decimal n) ≡ k + 1
digits_by_power zero n h g = ap length (decimal_small n (omega arith))
digits_by_power (suc k) n h g =
    let tens = pow-suc 10 k in
    let shorter = digits_by_power k (n / 10) (omega arith) (omega arith) in
    decimal_longer n (omega arith) ∙ omega arith
