-- UnpackSigned: even x gives x/2, odd x gives -(x+1)/2.
use Rattle.std.specs.Prelude.{Bool, true, false, ℕ, ◌+◌, ◌/◌, ◌%◌, eqb, ℤ, pos, neg_ℤ}

abbrev choose : Bool → ℤ → ℤ → ℤ
choose true a b = a
choose false a b = b

unfoldable pub unpacked : ℕ → ℤ
unpacked x = choose (eqb (x % 2) 0) (pos (x / 2)) (neg_ℤ (pos ((x + 1) / 2)))
