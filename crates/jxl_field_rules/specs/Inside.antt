-- What the functions inside rely on and answer. No public promise cites this file.
use Rattle.std.specs.Prelude.{Bool, ◌||◌, List, ℕ, get_or}
use Rattle.jxl_bit_rules.specs.Answer.{Field, ◌>>=◌}
use Rattle.jxl_bit_rules.specs.Readers.{over, part}
use Rattle.jxl_field_rules.specs.Fields.{choice}
use Rattle.jxl_field_rules.specs.declared.U32Specifier.TheVariants.{Constant, BitsOffset}
use Rattle.jxl_field_rules.specs.declared.U32Specifier.{U32Specifier}

-- a choice as an offset and a width: a constant has no bits
abbrev pub width_of : U32Specifier → ℕ
width_of (Constant c) = 0
width_of (BitsOffset o n) = n

abbrev pub offset_of : U32Specifier → ℕ
offset_of (Constant c) = c
offset_of (BitsOffset o n) = o

abbrev pub any_over : List ℕ → Bool
any_over ws = over (get_or ws 0 0) || over (get_or ws 1 0) || over (get_or ws 2 0) || over (get_or ws 3 0)

-- the selector, and the choice of the width and the offset that it names
unfoldable pub select_of : List ℕ → List ℕ → Field ℕ
select_of ws os = part 2 >>= λ k. choice (BitsOffset (get_or os k 0) (get_or ws k 0))
