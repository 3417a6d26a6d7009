-- A field read at a place, and answers that hold the place after them.
use Rattle.std.specs.Prelude.{◌≡◌, ℕ, List, Result, Ok, Err}
use Rattle.std.specs.Borrow.{Bor}
use Rattle.jxl_bit_rules.specs.Answer.{Answer, Field, gives}
use Rattle.jxl_bit_rules.specs.Told.{refused}
use Rattle.jxl_bit_rules.specs.declared.Refused.{Refused}
use Rattle.jxl_begin.specs.declared.Place.{Place}

abbrev pub here : {A : Type 0} → Field A → Place → Answer A
here field p = field p.bytes.now p.at

-- the answer, and the place after it in the same slice
abbrev pub GoesOn : {A : Type 0} → Bor (List ℕ) → Answer A → Result (A × Place) Refused → Type 0
GoesOn s a (Ok x) = (x.1.bytes ≡ s) × (gives x.0 x.1.at ≡ a)
GoesOn s a (Err e) = refused e ≡ a

abbrev pub BeginsAt : Bor (List ℕ) → Answer (Unit {0}) → Result Place Refused → Type 0
BeginsAt s a (Ok p) = (p.bytes ≡ s) × (gives tt p.at ≡ a)
BeginsAt s a (Err e) = refused e ≡ a
