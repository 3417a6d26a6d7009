-- What making the struct does, and a call through it: the call by position, at the struct's slice and position.
use Rattle.std.specs.Prelude.{List, ◌≡◌, ℕ, Result}
use Rattle.std.specs.Borrow.{Bor}
use Rattle.jxl_bit_rules.specs.Answer.{Field}
use Rattle.jxl_bit_rules.specs.declared.FieldRefusal.{FieldRefusal}
use Rattle.jxl_results.specs.Results.{result_at}
use Rattle.jxl_reader.specs.declared.Bitstream.{Bitstream}

-- a new reader: the slice, from its first bit on
abbrev pub Made : Bor (List ℕ) → Bitstream → Type 0
Made bytes r = (r.bytes ≡ bytes) × (r.at ≡ 0)

-- From `was` to `is`: the slice is the same slice, and the result with the new position is the field's answer at the old one.
abbrev pub Through : {A : Type 0} → Field A → Bitstream → Bitstream → Result A FieldRefusal → Type 0
Through field was is r = (is.bytes ≡ was.bytes) × (result_at r is.at ≡ field was.bytes.now was.at)
