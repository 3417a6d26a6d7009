-- What is proved of the texts, each statement a type that proofs/ has a proof of under the same name in small letters.
use Rattle.std.specs.Prelude.{◌≡◌, ◌≤◌, length}
use Rattle.jxl_refusals.specs.declared.BoxRefusal.{BoxRefusal}
use Rattle.jxl_refusal_words.specs.Text.{text, InRange}

-- a text has at most 61 bytes
abbrev pub MostBytes : Type 0
MostBytes = (r : BoxRefusal) → InRange r → length (text r) ≤ 61

-- two different refusals never have the same text
abbrev pub NoTwoAlike : Type 0
NoTwoAlike = (r q : BoxRefusal) → text r ≡ text q → r ≡ q
