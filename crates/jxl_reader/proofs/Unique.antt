-- Each promise determines its answer: the result, and the struct that the call leaves.
-- Assumes nothing.
use Rattle.std.specs.Prelude.{Result}
use Rattle.jxl_bit_rules.specs.declared.FieldRefusal.{FieldRefusal}
use mathlib.Core.Path.{◌≡◌, sym, ◌∙◌}
use Prim.Native.Nat.{ℕ}
use Rattle.jxl_base.proofs.OneAnswer.{one_named}
use Rattle.jxl_bit_rules.specs.Answer.{Field}
use Rattle.jxl_bit_rules.specs.Readers as R
use Rattle.jxl_field_rules.specs.Fields as F
use Rattle.jxl_results.proofs.Unique.{one_at}
use Rattle.jxl_reader.specs.Theorems.{OneNew, OneNumReadBits, OneThrough, OnePeekBits, OneConsumeBits, OneReadBits, OneSkipBits, OneZeroPadToByte, OneReadU32, OneReadU64, OneReadBool, OneReadF16AsF32, OneReadEnum}
use Rattle.jxl_reader.specs.declared.Bitstream.{Bitstream}

-- two structs with the same parts
same : (r q : Bitstream) → r.bytes ≡ q.bytes → r.at ≡ q.at → r ≡ q
same r q e f i = record { bytes = e i; at = f i }

pub one_new : OneNew
one_new bytes r q e f = same r q (e.0 ∙ sym f.0) (e.1 ∙ sym f.1)

pub one_num_read_bits : OneNumReadBits
one_num_read_bits was = one_named was.at

through : {A : Type 0} (field : Field A) → OneThrough field
through {A} field was x y e f =
    let both : ◌≡◌ {A = Result A FieldRefusal × ℕ} (x.0, x.1.at) (y.0, y.1.at) = one_at (field was.bytes.now was.at) (x.0, x.1.at) (y.0, y.1.at) e.1 f.1 in
    λ i. ((both i).0, same x.1 y.1 (e.0 ∙ sym f.0) (λ j. (both j).1) i)

-- ---- each function's
pub one_peek_bits : OnePeekBits
one_peek_bits n = through (R.peek n)

pub one_consume_bits : OneConsumeBits
one_consume_bits n = through (R.consume n)

pub one_read_bits : OneReadBits
one_read_bits n = through (R.read n)

pub one_skip_bits : OneSkipBits
one_skip_bits n = through (R.skip n)

pub one_zero_pad_to_byte : OneZeroPadToByte
one_zero_pad_to_byte = through R.pad

pub one_read_u32 : OneReadU32
one_read_u32 d = through (F.u32 d)

pub one_read_u64 : OneReadU64
one_read_u64 = through F.u64

pub one_read_bool : OneReadBool
one_read_bool = through R.bool

pub one_read_f16_as_f32 : OneReadF16AsF32
one_read_f16_as_f32 = through F.f16

pub one_read_enum : OneReadEnum
one_read_enum list = through (F.enum_of list)
