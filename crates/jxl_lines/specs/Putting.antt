-- A line put into a lent buffer if it fits there.
use Rattle.std.specs.Prelude.{List, ℕ, ◌+◌, leb, length, Result, Ok, Err}
use Rattle.jxl_headers.specs.Bytes.{if}
use Rattle.jxl_lines.specs.Pasting.{pasted}
use Rattle.jxl_lines.specs.declared.NoRoom.{NoRoom}

-- an answer, and the buffer then
pub data Outcome : Type 0 where
  leaves : Result ℕ NoRoom → List ℕ → Outcome

-- w put at `at` if it fits there; else its length is told, and the buffer stays as it was
unfoldable pub put_of : List ℕ → ℕ → List ℕ → Outcome
put_of d at w =
    if (leb (at + length w) (length d)) (leaves (Ok (at + length w)) (pasted d at w))
    (leaves (Err (record { needed = length w })) d)
