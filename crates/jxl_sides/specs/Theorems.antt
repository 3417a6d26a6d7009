-- No side box is lost: "lose a side box and the note that says whose foot it is goes with it". proofs/ proves each statement under the same
-- name in small letters.
use Rattle.std.specs.Prelude.{◌≡◌, List, ℕ}
use Rattle.jxl_totals.specs.Step.{fresh}
use Rattle.jxl_totals.specs.Feeding.{bytes_of}
use Rattle.jxl_endings.specs.Ended.{done, finished}
use Rattle.jxl_sides.specs.Sides.{sides_of}
use Rattle.jxl_sides.specs.Telling.{told, told_sides}

-- on DONE the events, in any packets, tell every byte of every side box of the file exactly once, in order, with the box's type, and each
-- AUX_START has its AUX_END
abbrev pub EverySideBox : Type 0
EverySideBox = (xs : List (List ℕ)) → (finished fresh xs).stop ≡ done → told_sides (finished fresh xs) ≡ told (sides_of (bytes_of xs))
