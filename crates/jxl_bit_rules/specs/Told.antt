-- What document 01 calls each case of each answer.
use Rattle.std.specs.Prelude.{ℕ, Result, Ok, Err}
use Rattle.jxl_bit_rules.specs.Answer.{Answer, gives, refuses}
use Rattle.jxl_bit_rules.specs.Refusals.{numbered, tells}
use Rattle.jxl_bit_rules.specs.declared.Refused.{Refused}

-- a refusal, where it leaves the reader
abbrev pub refused : {A : Type 0} → Refused → Answer A
refused e = refuses (numbered e.refusal) (tells e.refusal) e.at

-- of a read of any type: a value and the position after it, or a refusal
abbrev pub told : {A : Type 0} → Result (A × ℕ) Refused → Answer A
told (Ok x) = gives x.0 x.1
told (Err e) = refused e

-- of a move
abbrev pub told_moved : Result ℕ Refused → Answer (Unit {0})
told_moved (Ok at) = gives tt at
told_moved (Err e) = refused e
