-- Bytes put into a lent buffer.
use Rattle.std.specs.Prelude.{◌≡◌, List, ◌++◌, ℕ, ◌+◌, ◌≤◌, length, take, drop}

-- the buffer with w at `at`, every other byte as it was
abbrev pub pasted : List ℕ → ℕ → List ℕ → List ℕ
pasted d at w = take at d ++ w ++ drop (at + length w) d

-- w was put at `at` into d, where it fits, which gave e; the next byte goes to r
pub record Pasted (d : List ℕ) (at : ℕ) (w e : List ℕ) (r : ℕ) : Type 0 where
  pub room : at + length w ≤ length d
  pub bytes : e ≡ pasted d at w
  pub next : r ≡ at + length w
