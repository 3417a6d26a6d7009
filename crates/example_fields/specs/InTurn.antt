-- Fields in turn: each is read from where the one before it left off.
use Rattle.std.specs.Prelude.{List, ◌≡◌, ℕ}
use Rattle.jxl_bit_rules.specs.Answer.{Answer, gives, refuses}
use Rattle.jxl_bit_rules.specs.Readers as R
use Rattle.jxl_field_rules.specs.Fields as F
use Rattle.jxl_field_rules.specs.declared.U32Specifier.{U32Specifier}
use Rattle.jxl_results.specs.Results.{result_at}
use Rattle.example_fields.specs.declared.Fields.{Fields}

-- where an answer leaves the reader
abbrev pub leaves : {A : Type 0} → Answer A → ℕ
leaves (gives a p) = p
leaves (refuses r told p) = p

-- a skip from the start, and a Bool behind it
abbrev pub after_skip : List ℕ → ℕ → ℕ
after_skip s at = leaves (R.skip at s 0)

abbrev pub after_flag : List ℕ → ℕ → ℕ
after_flag s at = leaves (R.bool s (after_skip s at))

-- the skip, the Bool behind it, and a U32 behind that
pub record InTurn (s : List ℕ) (at : ℕ) (d : List U32Specifier) (r : Fields) : Type 0 where
  pub start : result_at r.start (after_skip s at) ≡ R.skip at s 0
  pub flag : result_at r.flag (after_flag s at) ≡ R.bool s (after_skip s at)
  pub value : result_at r.value r.bits ≡ F.u32 d s (after_flag s at)
