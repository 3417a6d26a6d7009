-- Bits by position, as document 01 has them.
use Rattle.std.specs.Prelude.{Bool, false, cond, [], ℕ, ◌+◌, ◌-◌, ◌%◌, ◌^◌, ltb, leb, eqb, length}
use Rattle.jxl_bit_rules.specs.Answer.{Field, gives, refuses, ◌>>=◌, done, refuse}
use Rattle.jxl_bit_rules.specs.Bits.{bits, end, start}
use Rattle.jxl_bit_rules.specs.Refusals.{eof, padding, width, long}

-- Order for fields: 8, 7, then the reading. A position beyond the end is moved to the end first, unless 8 or 7 is given.
unfoldable pub begin : Bool → Field (Unit {0})
begin wide s at =
    cond (ltb (2 ^ 61 - 1) (length s)) (refuses long [] at)
    (cond wide (refuses width [] at)
    (gives tt (start s at)))

abbrev pub over : ℕ → Bool
over n = ltb 32 n

-- A field part: n bits. Needs more bits than are left: refusal 3, the reader after the parts already read.
unfoldable pub part : ℕ → Field ℕ
part n s at = cond (leb (at + n) (end s)) (gives (bits s at n) (at + n)) (refuses eof [] at)

-- Read n, 0 to 32.
unfoldable pub read : ℕ → Field ℕ
read n = begin (over n) >>= λ _. part n

-- Peek is the same with missing bits as 0, nothing consumed, never refusal 3.
abbrev pub look : ℕ → Field ℕ
look n s at = gives (bits s at n) at

unfoldable pub peek : ℕ → Field ℕ
peek n = begin (over n) >>= λ _. look n

-- Consume n and skip n move on by n if that many bits are left; else refusal 3, which leaves the reader at `stop`.
unfoldable pub move : ℕ → ℕ → Field (Unit {0})
move n stop s at = cond (leb (at + n) (end s)) (gives tt (at + n)) (refuses eof [] stop)

-- Consume refuses 3 and stays.
unfoldable pub consume : ℕ → Field (Unit {0})
consume n = begin (over n) >>= λ _ s at. move n at s at

-- A skip that is too long goes to the end and refuses 3. Skip has no width limit.
unfoldable pub skip : ℕ → Field (Unit {0})
skip n = begin false >>= λ _ s at. move n (end s) s at

-- Pad: the 0 to 7 bits up to the next byte boundary. Not all 0: refusal 4, the reader after them.
abbrev pub to_byte : ℕ → ℕ
to_byte at = (8 - at % 8) % 8

abbrev pub zeros : Field (Unit {0})
zeros s at = (part (to_byte at) >>= λ x. cond (eqb x 0) (done tt) (refuse padding [])) s at

unfoldable pub pad : Field (Unit {0})
pad = begin false >>= λ _. zeros

-- Bool: 1 bit; 1 is true.
unfoldable pub bool : Field Bool
bool = read 1 >>= λ x. done (eqb x 1)
