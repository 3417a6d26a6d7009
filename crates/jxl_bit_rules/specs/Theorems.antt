-- What is proved of bits by position besides the functions' promises: each statement is a type, which proofs/ proves
-- under the same name in small letters.
use Rattle.std.specs.Prelude.{Bool, ◌≡◌, List, ℕ, suc, ◌+◌, ◌-◌, ◌*◌, ◌/◌, ◌%◌, ◌^◌, ◌≤◌, length, drop}
use Rattle.jxl_bit_rules.specs.Answer.{Answer, Field, gives, ◌>>=◌, done}
use Rattle.jxl_bit_rules.specs.Bits.{Bytes, number, bits, bit, end, start}
use Rattle.jxl_bit_rules.specs.Readers.{begin, read, peek, consume, skip, pad, bool}
use Rattle.jxl_base.specs.OneAnswer.{OneAnswer}
use Rattle.jxl_bit_rules.specs.Told.{told, told_moved}

-- ---- the order of the bits
-- Bits come lowest first within a byte; the first bit read is the lowest of the value.
abbrev pub LowestFirst : Type 0
LowestFirst = (s : List ℕ) → Bytes s → (at : ℕ) → (bits s at 0 ≡ 0) × ((n : ℕ) → bits s at (suc n) ≡ bit s at + 2 * bits s (at + 1) n)

-- n + m bits are n bits, and m above them
abbrev pub Together : Type 0
Together = (s : List ℕ) (at n m : ℕ) → bits s at (n + m) ≡ bits s at n + 2 ^ n * bits s (at + n) m

-- ---- readers
-- A read gives the n bits from where it starts, and the position behind them, exactly where those bits are there.
pub record Reads (n : ℕ) (s : List ℕ) (at v p : ℕ) : Type 0 where
  pub short : length s ≤ 2 ^ 61 - 1
  pub narrow : n ≤ 32
  pub within : start s at + n ≤ end s
  pub value : v ≡ bits s (start s at) n
  pub next : p ≡ start s at + n

abbrev pub ReadGave : Type 0
ReadGave = (n : ℕ) (s : List ℕ) (at v p : ℕ) → read n s at ≡ gives v p → Reads n s at v p

abbrev pub ReadGives : Type 0
ReadGives = (n : ℕ) (s : List ℕ) (at v p : ℕ) → Reads n s at v p → read n s at ≡ gives v p

-- reading n and then m bits is reading n + m
abbrev pub ReadRead : Type 0
ReadRead =
    (n m : ℕ) (s : List ℕ) (at v p : ℕ) → read (n + m) s at ≡ gives v p
    → (read n >>= λ x. read m >>= λ y. done (x + 2 ^ n * y)) s at ≡ gives v p

-- a peek and then a consume is a read, refusals too
abbrev pub PeekConsume : Type 0
PeekConsume = (n : ℕ) (s : List ℕ) (at : ℕ) → (peek n >>= λ x. consume n >>= λ _. done x) s at ≡ read n s at

-- ---- one answer
-- of a field: whatever the bytes and the position
abbrev pub OneOf : {R A : Type 0} → (R → Answer A) → Field A → Type 0
OneOf told field = (s : List ℕ) (at : ℕ) → OneAnswer (λ r. told r ≡ field s at)

abbrev pub OneWindow : Type 0
OneWindow = (s : List ℕ) (at : ℕ) → OneAnswer (λ (r : ℕ). r ≡ number (drop (at / 8) s) % 2 ^ 64)

abbrev pub OneBegin : Type 0
OneBegin = (wide : Bool) → OneOf told_moved (begin wide)

abbrev pub OnePeekBits : Type 0
OnePeekBits = (n : ℕ) → OneOf told (peek n)

abbrev pub OneReadBits : Type 0
OneReadBits = (n : ℕ) → OneOf told (read n)

abbrev pub OneConsumeBits : Type 0
OneConsumeBits = (n : ℕ) → OneOf told_moved (consume n)

abbrev pub OneSkipBits : Type 0
OneSkipBits = (n : ℕ) → OneOf told_moved (skip n)

abbrev pub OneZeroPadToByte : Type 0
OneZeroPadToByte = OneOf told_moved pad

abbrev pub OneReadBool : Type 0
OneReadBool = OneOf told bool

abbrev pub OneNumReadBits : Type 0
OneNumReadBits = (position : ℕ) → OneAnswer (λ (r : ℕ). r ≡ position)
