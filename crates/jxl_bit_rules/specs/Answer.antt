-- What a field answers, and fields in sequence.
use Rattle.std.specs.Prelude.{List, ℕ}

-- a value and the next position; or a refusal by its number, what it tells, and the position that it leaves
pub data Answer (A : Type 0) : Type 0 where
  gives : A → ℕ → Answer A
  refuses : ℕ → List ℕ → ℕ → Answer A

-- a function of the bytes and a bit position
abbrev pub Field : Type 0 → Type 0
Field A = List ℕ → ℕ → Answer A

abbrev pub onward : {A B : Type 0} → List ℕ → Answer A → (A → Field B) → Answer B
onward s (gives a at) next = next a s at
onward s (refuses r told at) next = refuses r told at

-- one part, then what follows it, from where the part left off; a refusal ends the field there
infixl 20 ◌>>=◌
abbrev pub ◌>>=◌ : {A B : Type 0} → Field A → (A → Field B) → Field B
◌>>=◌ part next s at = onward s (part s at) next

-- nothing more is read
abbrev pub done : {A : Type 0} → A → Field A
done a s at = gives a at

abbrev pub refuse : {A : Type 0} → ℕ → List ℕ → Field A
refuse r told s at = refuses r told at
