-- The buffer as one number, its first byte lowest; reading is division.
use Rattle.std.specs.Prelude.{List, [], ◌∷◌, ℕ, ◌+◌, ◌*◌, ◌/◌, ◌%◌, ◌^◌, ◌<◌, min, length, get_or}

unfoldable pub number : List ℕ → ℕ
number [] = 0
number (b ∷ s) = b + 256 * number s

-- The n bits at a position: the first bit read is the lowest of the value, and missing bits are 0.
unfoldable pub bits : List ℕ → ℕ → ℕ → ℕ
bits s at n = number s / 2 ^ at % 2 ^ n

-- One bit of the buffer: lowest first within a byte. (`LowestFirst` of `specs/Theorems.antt`: `bits` takes these one after the other.)
unfoldable pub bit : List ℕ → ℕ → ℕ
bit s i = get_or s (i / 8) 0 / 2 ^ (i % 8) % 2

-- how many bits there are: the position of the end
abbrev pub end : List ℕ → ℕ
end s = 8 * length s

-- where a call starts to read: a position beyond the end is moved to the end
abbrev pub start : List ℕ → ℕ → ℕ
start s at = min at (end s)

-- every element is a byte
abbrev pub Bytes : List ℕ → Type 0
Bytes s = (i : ℕ) → get_or s i 0 < 256
