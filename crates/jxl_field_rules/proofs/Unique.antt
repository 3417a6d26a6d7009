-- Each promise determines its answer: two answers that meet it are equal, since what document 01 calls an answer says which it is.
-- Assumes nothing.
use Rattle.jxl_bit_rules.proofs.Unique.{one_of}
use Rattle.jxl_field_rules.specs.Fields.{u32, u64, enum_of, f16}
use Rattle.jxl_field_rules.specs.Theorems.{OneReadU32, OneReadU64, OneReadEnum, OneReadF16AsF32}

pub one_read_u32 : OneReadU32
one_read_u32 d = one_of (u32 d)

pub one_read_u64 : OneReadU64
one_read_u64 = one_of u64

pub one_read_enum : OneReadEnum
one_read_enum list = one_of (enum_of list)

pub one_read_f16_as_f32 : OneReadF16AsF32
one_read_f16_as_f32 = one_of f16
