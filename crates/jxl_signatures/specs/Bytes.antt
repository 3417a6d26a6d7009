-- Whether bytes start with others, and what two answers of a test come to.
use Rattle.std.specs.Prelude.{Bool, true, false, List, [], ◌∷◌, ℕ, eqb}
pub use Rattle.jxl_cuts.specs.Machine.{if}

abbrev pub and : Bool → Bool → Bool
and true b = b
and false b = false

abbrev pub or : Bool → Bool → Bool
or true b = true
or false b = b

-- every byte of the first list stands at its place in the second
abbrev pub starts : List ℕ → List ℕ → Bool
starts [] s = true
starts (x ∷ xs) [] = false
starts (x ∷ xs) (y ∷ ys) = and (eqb x y) (starts xs ys)

abbrev pub empty : List ℕ → Bool
empty [] = true
empty (x ∷ xs) = false
