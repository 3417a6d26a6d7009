-- The first line of a text, and the text behind its line end.
use Rattle.std.specs.Prelude.{ℕ, List, [], ◌∷◌, ◌++◌, ◌==◌, ◌≡◌, MatchOption, length, position}

-- a line that ends, or the last one, behind which nothing stands
abbrev pub IsNextLine : List ℕ → List ℕ → List ℕ → Type 0
IsNextLine text line rest = MatchOption (position (λ b. b == 10) text) ((line ≡ text) × (rest ≡ [])) (λ at. (length line ≡ at) × (line ++ (10 ∷ rest) ≡ text))
