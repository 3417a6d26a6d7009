-- What is proved of results besides the functions' promises: each statement is a type, which proofs/ proves under the same name in small letters.
use Rattle.std.specs.Prelude.{◌≡◌, Bool, ℕ, Float, Result}
use Rattle.jxl_base.specs.OneAnswer.{OneAnswer}
use Rattle.jxl_bit_rules.specs.Answer.{Answer}
use Rattle.jxl_bit_rules.specs.Told.{told, told_moved}
use Rattle.jxl_bit_rules.specs.declared.FieldRefusal.{FieldRefusal}
use Rattle.jxl_bit_rules.specs.declared.Refused.{Refused}
use Rattle.jxl_results.specs.Results.{result_at}

-- an answer is of one result and one position
abbrev pub OneAt : Type 0 → Type 0
OneAt A = (a : Answer A) → OneAnswer (λ (x : Result A FieldRefusal × ℕ). result_at x.0 x.1 ≡ a)

abbrev pub OneU32 : Type 0
OneU32 = OneAt ℕ

abbrev pub OneBool : Type 0
OneBool = OneAt Bool

abbrev pub OneUnit : Type 0
OneUnit = OneAt (Unit {0})

abbrev pub OneU64 : Type 0
OneU64 = OneAt ℕ

abbrev pub OneF32 : Type 0
OneF32 = OneAt Float

-- ---- one answer of each function
abbrev pub OneSplit : Type 0 → Type 0
OneSplit A = (answer : Result (A × ℕ) Refused) → OneAnswer (λ (x : Result A FieldRefusal × ℕ). result_at x.0 x.1 ≡ told answer)

abbrev pub OneSplitU32 : Type 0
OneSplitU32 = OneSplit ℕ

abbrev pub OneSplitBool : Type 0
OneSplitBool = OneSplit Bool

abbrev pub OneSplitUnit : Type 0
OneSplitUnit = (answer : Result ℕ Refused) → OneAnswer (λ (x : Result (Unit {0}) FieldRefusal × ℕ). result_at x.0 x.1 ≡ told_moved answer)

abbrev pub OneSplitU64 : Type 0
OneSplitU64 = OneSplit ℕ

abbrev pub OneSplitF32 : Type 0
OneSplitF32 = OneSplit Float
