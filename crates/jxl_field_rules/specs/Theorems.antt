-- What is proved of the fields besides the functions' promises: each statement is a type, which proofs/ proves
-- under the same name in small letters.
use Rattle.std.specs.Prelude.{◌≡◌, List, ℕ, ◌+◌, ◌≤◌, ◌<◌, length, get_or}
use Rattle.jxl_bit_rules.specs.Answer.{gives}
use Rattle.jxl_bit_rules.specs.Bits.{start}
use Rattle.jxl_bit_rules.specs.Theorems.{OneOf}
use Rattle.jxl_bit_rules.specs.Told.{told}
use Rattle.jxl_field_rules.specs.Fields.{u32, u64, enum_of, f16, ExactlyGiven}
use Rattle.jxl_field_rules.specs.declared.U32Specifier.{U32Specifier}

-- U64: at most 73 bits.
abbrev pub AtMost73 : Type 0
AtMost73 = (s : List ℕ) (at v p : ℕ) → u64 s at ≡ gives v p → p ≤ start s at + 73

-- What F16 gives is exactly the number of the bits read.
abbrev pub F16Exact : Type 0
F16Exact = (s : List ℕ) (at : ℕ) → ExactlyGiven s at (f16 s at)

-- What Enum gives stands somewhere in the caller's list.
abbrev pub EnumListed : Type 0
EnumListed = (list s : List ℕ) (at v p : ℕ) → enum_of list s at ≡ gives v p → (i : ℕ) × (i < length list) × (get_or list i 0 ≡ v)

-- ---- one answer
abbrev pub OneReadU32 : Type 0
OneReadU32 = (d : List U32Specifier) → OneOf told (u32 d)

abbrev pub OneReadU64 : Type 0
OneReadU64 = OneOf told u64

abbrev pub OneReadEnum : Type 0
OneReadEnum = (list : List ℕ) → OneOf told (enum_of list)

-- its first clause alone says which
abbrev pub OneReadF16AsF32 : Type 0
OneReadF16AsF32 = OneOf told f16
