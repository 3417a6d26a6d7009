-- Bytes as numbers.
use Rattle.std.specs.Prelude.{List, ℕ, ◌+◌, ◌*◌, get_or}
pub use Rattle.jxl_signatures.specs.Bytes.{if, and, or, starts, empty}

-- the 4 bytes at `i`, the first the highest
abbrev pub be32 : List ℕ → ℕ → ℕ
be32 s i = ((get_or s i 0 * 256 + get_or s (i + 1) 0) * 256 + get_or s (i + 2) 0) * 256 + get_or s (i + 3) 0

-- the 8 bytes at `i`, the first the highest
abbrev pub be64 : List ℕ → ℕ → ℕ
be64 s i = be32 s i * 4294967296 + be32 s (i + 4)
