-- One answer: two answers that meet a promise are equal. Each public function has such a law for its promise.
use Rattle.std.specs.Prelude.{◌≡◌, List, ℕ}

abbrev pub OneAnswer : {R : Type 0} → (R → Type 0) → Type 0
OneAnswer {R} Meets = (r q : R) → Meets r → Meets q → r ≡ q

-- the same of an answer and the bytes that it leaves in a lent buffer
abbrev pub OneAnswerAndBuffer : {R : Type 0} → (R → List ℕ → Type 0) → Type 0
OneAnswerAndBuffer {R} Meets = (r q : R) (b c : List ℕ) → Meets r b → Meets q c → (r ≡ q) × (b ≡ c)
