-- Each promise determines its answer: what a result and a position answer says which they are.
-- Assumes nothing.
use Rattle.std.specs.Prelude.{Result, Ok, Err}
use mathlib.Core.Path.{◌≡◌, refl, ap}
use Prim.Native.Nat.{ℕ}
use Rattle.jxl_bit_rules.proofs.Unique.{unique, named, renamed}
use Rattle.jxl_bit_rules.specs.Answer.{Answer, gives, refuses}
use Rattle.jxl_bit_rules.specs.Told.{told, told_moved}
use Rattle.jxl_bit_rules.specs.declared.FieldRefusal.{FieldRefusal}
use Rattle.jxl_results.specs.Results.{result_at}
use Rattle.jxl_results.specs.Theorems.{OneAt, OneU32, OneBool, OneUnit, OneU64, OneF32, OneSplit, OneSplitU32, OneSplitBool, OneSplitUnit, OneSplitU64, OneSplitF32}

-- a result and its position, from what they answer
abbrev pub both : {A : Type 0} → Answer A → Result A FieldRefusal × ℕ
both (gives a at) = (Ok a, at)
both (refuses n t at) = (Err (named n t), at)

same : {A : Type 0} (r : Result A FieldRefusal) (at : ℕ) → both (result_at r at) ≡ (r, at)
same (Ok v) at = refl
same (Err r) at = ap (λ x. (Err x, at)) (renamed r)

-- of any type
pub one_at : {A : Type 0} → OneAt A
one_at = unique (λ x. result_at x.0 x.1) both (λ x. same x.0 x.1)

one_split : {A : Type 0} → OneSplit A
one_split answer = one_at (told answer)

pub one_u32 : OneU32
one_u32 = one_at

pub one_bool : OneBool
one_bool = one_at

pub one_unit : OneUnit
one_unit = one_at

pub one_u64 : OneU64
one_u64 = one_at

pub one_f32 : OneF32
one_f32 = one_at

-- ---- each function's
pub one_split_u32 : OneSplitU32
one_split_u32 = one_split

pub one_split_bool : OneSplitBool
one_split_bool = one_split

pub one_split_unit : OneSplitUnit
one_split_unit answer = one_at (told_moved answer)

pub one_split_u64 : OneSplitU64
one_split_u64 = one_split

pub one_split_f32 : OneSplitF32
one_split_f32 = one_split
