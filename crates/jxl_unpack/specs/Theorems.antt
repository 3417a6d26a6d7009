-- What is proved of UnpackSigned besides the functions' promises: each statement is a type, which proofs/ proves
-- under the same name in small letters.
use Rattle.std.specs.Prelude.{◌≡◌, ℕ, ◌/◌, ◌^◌, ◌<◌, ℤ, pos, ◌-ℤ◌}
use Rattle.std.specs.Int.Bits.{bit_and, bit_xor}
use Rattle.std.specs.Int.{Width}
use mir.Val as Machine
use Rattle.jxl_base.specs.OneAnswer.{OneAnswer}
use Rattle.jxl_unpack.specs.UnpackSigned.{unpacked}

-- what the code computes: x / 2, with every bit flipped where x is odd
abbrev pub flipped : Width → ℕ → ℤ
flipped w x = Machine.to_z w (bit_xor (x / 2) (Machine.of_z w (pos 0 -ℤ Machine.to_z w (bit_and x 1))))

-- once over the width: that is the paper's number
abbrev pub Unpacks : Type 0
Unpacks = (w : Width) (x : ℕ) → x < 2 ^ Machine.bits w → flipped w x ≡ unpacked x

-- one answer, at both widths
abbrev pub OneUnpackSigned : Type 0
OneUnpackSigned = (x : ℕ) → OneAnswer (λ (r : ℤ). r ≡ unpacked x)
