-- The parsers that are to be caught list a bare file of two bytes otherwise than the grammar does: it has three events and wants more.
use mathlib.Core.Path.{◌≡◌, ap}
use mathlib.Core.List.{[], ◌∷◌}
use Prim.Native.Nat.{ℕ}
use native.Mathlib.Omega.{arith}
use lib.ListN.{length}
use Rattle.jxl_signatures.specs.Signature.{signature_of}
use Rattle.jxl_grammar.specs.Step.{step_of}
use Rattle.jxl_cuts.specs.Feeding.{Stop, want, refused, taking, fed}
use Rattle.jxl_refusals.specs.Refusals.{Why}
use Rattle.jxl_grammar.specs.Grammar.{ListingBy, file}
use Rattle.jxl_grammar.specs.Theorems.{Caught}

-- what tells the listings apart, in numbers
abbrev refusals : Stop Why → ℕ
refusals want = 0
refusals (refused r) = 1

abbrev count : ListingBy Why → ℕ
count l = length l.events

pub caught : Caught
unfolding file signature_of step_of taking fed
caught =
    record {
      refuses_caught = λ every. let wrong : ◌≡◌ {A = ℕ} 1 0 = ap (λ (l : ListingBy Why). refusals l.stop) (every (0xff ∷ 0x0a ∷ [])) in absurd (omega arith);
      invalid_caught = λ every. let wrong : ◌≡◌ {A = ℕ} 12 3 = ap count (every (0xff ∷ 0x0a ∷ [])) in absurd (omega arith);
      wants_caught = λ every. let wrong : ◌≡◌ {A = ℕ} 0 3 = ap count (every (0xff ∷ 0x0a ∷ [])) in absurd (omega arith);
      first_caught = λ every. let wrong : ◌≡◌ {A = ℕ} 1 3 = ap count (every (0xff ∷ 0x0a ∷ [])) in absurd (omega arith);
    }
