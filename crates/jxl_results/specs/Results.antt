-- A result with the position after the call: what document 01 says a field answers.
use Rattle.std.specs.Prelude.{ℕ, Result, Ok, Err}
use Rattle.jxl_bit_rules.specs.Answer.{Answer, gives, refuses}
use Rattle.jxl_bit_rules.specs.Refusals.{numbered, tells}
use Rattle.jxl_bit_rules.specs.declared.FieldRefusal.{FieldRefusal}

abbrev pub result_at : {A : Type 0} → Result A FieldRefusal → ℕ → Answer A
result_at (Ok v) at = gives v at
result_at (Err r) at = refuses (numbered r) (tells r) at
