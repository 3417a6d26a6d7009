-- What is proved of the reader besides the functions' promises: each statement is a type, which proofs/ proves under the same name in small letters.
use Rattle.std.specs.Prelude.{◌≡◌, List, ℕ, Result}
use Rattle.std.specs.Borrow.{Bor}
use Rattle.jxl_base.specs.OneAnswer.{OneAnswer}
use Rattle.jxl_bit_rules.specs.Answer.{Field}
use Rattle.jxl_bit_rules.specs.Readers as R
use Rattle.jxl_bit_rules.specs.declared.FieldRefusal.{FieldRefusal}
use Rattle.jxl_field_rules.specs.Fields as F
use Rattle.jxl_field_rules.specs.declared.U32Specifier.{U32Specifier}
use Rattle.jxl_reader.specs.Through.{Made, Through}
use Rattle.jxl_reader.specs.declared.Bitstream.{Bitstream}

-- ---- one answer
abbrev pub OneNew : Type 0
OneNew = (bytes : Bor (List ℕ)) → OneAnswer (Made bytes)

abbrev pub OneNumReadBits : Type 0
OneNumReadBits = (was : Bitstream) → OneAnswer (λ (r : ℕ). r ≡ was.at)

-- of a call: the result, and the struct that it leaves
abbrev pub OneThrough : {A : Type 0} → Field A → Type 0
OneThrough {A} field = (was : Bitstream) → OneAnswer (λ (x : Result A FieldRefusal × Bitstream). Through field was x.1 x.0)

abbrev pub OnePeekBits : Type 0
OnePeekBits = (n : ℕ) → OneThrough (R.peek n)

abbrev pub OneConsumeBits : Type 0
OneConsumeBits = (n : ℕ) → OneThrough (R.consume n)

abbrev pub OneReadBits : Type 0
OneReadBits = (n : ℕ) → OneThrough (R.read n)

abbrev pub OneSkipBits : Type 0
OneSkipBits = (n : ℕ) → OneThrough (R.skip n)

abbrev pub OneZeroPadToByte : Type 0
OneZeroPadToByte = OneThrough R.pad

abbrev pub OneReadU32 : Type 0
OneReadU32 = (d : List U32Specifier) → OneThrough (F.u32 d)

abbrev pub OneReadU64 : Type 0
OneReadU64 = OneThrough F.u64

abbrev pub OneReadBool : Type 0
OneReadBool = OneThrough R.bool

abbrev pub OneReadF16AsF32 : Type 0
OneReadF16AsF32 = OneThrough F.f16

abbrev pub OneReadEnum : Type 0
OneReadEnum = (list : List ℕ) → OneThrough (F.enum_of list)
