-- A part of a list: its elements from one place up to another.
use Rattle.std.specs.Prelude.{cond, List, [], ℕ, ◌-◌, leb, length, take, drop}

-- empty where it would end before it starts, or behind the list's end
abbrev pub between : List ℕ → ℕ → ℕ → List ℕ
between s from upto = cond (leb from upto) (cond (leb upto (length s)) (take (upto - from) (drop from s)) []) []
