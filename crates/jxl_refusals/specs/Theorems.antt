-- What is proved of refusals, each statement a type that proofs/ has a proof of under the same name in small letters.
use Rattle.std.specs.Prelude.{◌≡◌}
use Rattle.jxl_base.specs.OneAnswer.{OneAnswer}
use Rattle.jxl_refusals.specs.Refusals.{number_of, why, in_document01, merged}
use Rattle.jxl_refusals.specs.declared.BoxRefusal.{BoxRefusal}

-- merges back: with 10 to 19 merged into 1 each refusal is document 01's
abbrev pub MergesBack : Type 0
MergesBack = (r : BoxRefusal) → merged (why r) ≡ in_document01 r

-- the number and the values tell the rule
abbrev pub WhyTells : Type 0
WhyTells = (r q : BoxRefusal) → why r ≡ why q → r ≡ q

-- one answer: the promise determines what its function gives
abbrev pub OneNumber : Type 0
OneNumber = (w : BoxRefusal) → OneAnswer (λ r. r ≡ number_of (why w))
