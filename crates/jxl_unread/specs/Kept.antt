-- The bytes left unread.
use Rattle.std.specs.Prelude.{List, ℕ, ◌-◌, take, drop}

-- the bytes from `from` up to `upto`, or up to the end
abbrev pub kept : ℕ → ℕ → List ℕ → List ℕ
kept from upto s = take (upto - from) (drop from s)
