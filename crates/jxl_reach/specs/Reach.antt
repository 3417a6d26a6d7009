-- How far a payload reaches.
use Rattle.std.specs.Prelude.{Bool, true, false, ℕ, ◌-◌, ltb}
use Rattle.jxl_reach.specs.declared.BytesLeft.{BytesLeft}
use Rattle.jxl_reach.specs.declared.BytesLeft.TheVariants.{ToEnd, Bytes}

-- the payload has fewer than n bytes
abbrev pub under : ℕ → BytesLeft → Bool
under n ToEnd = false
under n (Bytes m) = ltb m n

-- the payload behind its first n bytes
abbrev pub less : BytesLeft → ℕ → BytesLeft
less ToEnd n = ToEnd
less (Bytes m) n = Bytes (m - n)

abbrev pub to_end : BytesLeft → Bool
to_end ToEnd = true
to_end (Bytes m) = false
