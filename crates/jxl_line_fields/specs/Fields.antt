-- Bytes put into a lent buffer if they fit there, where the answer tells only where the next byte goes.
use Rattle.std.specs.Prelude.{Bool, true, false, ◌≡◌, List, ℕ, ◌+◌, ◌≤◌, ◌<◌, length}
use Rattle.jxl_lines.specs.Pasting.{Pasted}

-- w put at `at` into d if it fits there, which gave e, and the next byte goes to r; else the buffer stays as it was, and r is `at`
pub record PutIfRoom (d : List ℕ) (at : ℕ) (w e : List ℕ) (r : ℕ) : Type 0 where
  pub fits : at + length w ≤ length d → Pasted d at w e r
  pub full : length d < at + length w → (e ≡ d) × (r ≡ at)

-- r tells whether n bytes fit at `at` into a buffer of len
pub record HasRoom (len at n : ℕ) (r : Bool) : Type 0 where
  pub yes : r ≡ true → at + n ≤ len
  pub no : r ≡ false → len < at + n
