-- The fields made of bits, as document 01 has them.
use Rattle.std.specs.Prelude.{Bool, false, cond, ◌||◌, List, [], ◌∷◌, ℕ, ◌+◌, ◌*◌, ◌%◌, ◌^◌, eqb, Float, get_or}
use Rattle.std.specs.Float.{binary32}
use Rattle.std.specs.Float.Ieee.{of_bits}
use Rattle.jxl_bit_rules.specs.Answer.{Answer, Field, gives, refuses, ◌>>=◌, done, refuse}
use Rattle.jxl_bit_rules.specs.Bits.{bits, start}
use Rattle.jxl_bit_rules.specs.Readers.{begin, over, part}
use Rattle.jxl_bit_rules.specs.Refusals.{float, enum}
use Rattle.jxl_half.specs.Half.{exponent, pattern, Exactly}
use Rattle.jxl_field_rules.specs.declared.U32Specifier.TheVariants.{Constant, BitsOffset}
use Rattle.jxl_field_rules.specs.declared.U32Specifier.{U32Specifier}

-- U32: 2 selector bits choose one of four choices; a choice is a constant, or an offset and a width. The sum is taken modulo 2^32.
abbrev pub choice : U32Specifier → Field ℕ
choice (Constant c) = done c
choice (BitsOffset o n) = part n >>= λ x. done ((x + o) % 2 ^ 32)

abbrev pub chosen : List U32Specifier → ℕ → U32Specifier
chosen d k = get_or d k (Constant 0)

unfoldable pub select : List U32Specifier → Field ℕ
select d = part 2 >>= λ k. choice (chosen d k)

abbrev pub wide : U32Specifier → Bool
wide (Constant c) = false
wide (BitsOffset o n) = over n

-- U32 looks at all four widths before its selector.
unfoldable pub any_wide : List U32Specifier → Bool
any_wide d = wide (chosen d 0) || wide (chosen d 1) || wide (chosen d 2) || wide (chosen d 3)

unfoldable pub u32 : List U32Specifier → Field ℕ
u32 d = begin (any_wide d) >>= λ _. select d

-- U64, selector 3: while a 1 bit follows, 8 bits placed at each of these places in turn; after them, behind a seventh 1 bit, 4 bits at 60,
-- and stop with no further flag.
abbrev pub places : List ℕ
places = 12 ∷ 20 ∷ 28 ∷ 36 ∷ 44 ∷ 52 ∷ []

unfoldable pub chunks : List ℕ → ℕ → Field ℕ
chunks [] v = part 1 >>= λ flag. cond (eqb flag 1) (part 4 >>= λ x. done (v + x * 2 ^ 60)) (done v)
chunks (p ∷ ps) v = part 1 >>= λ flag. cond (eqb flag 1) (part 8 >>= λ x. chunks ps (v + x * 2 ^ p)) (done v)

abbrev pub plus : ℕ → ℕ → Field ℕ
plus n offset = part n >>= λ x. done (offset + x)

-- Selector 0: 0. 1: 1 + 4 bits. 2: 17 + 8 bits. 3: 12 bits, then the chunks.
abbrev pub u64_by : ℕ → Field ℕ
u64_by k =
    cond (eqb k 0) (done 0)
    (cond (eqb k 1) (plus 4 1)
    (cond (eqb k 2) (plus 8 17)
    (part 12 >>= λ x. chunks places x)))

unfoldable pub u64 : Field ℕ
u64 = begin false >>= λ _. part 2 >>= λ k. u64_by k

-- Enum: U32 of 0, 1, 2 + 4 bits, 18 + 6 bits, then the list. Not in the caller's list: refusal 6, and the value is told.
abbrev pub four : List U32Specifier
four = Constant 0 ∷ Constant 1 ∷ BitsOffset 2 4 ∷ BitsOffset 18 6 ∷ []

unfoldable pub member : ℕ → List ℕ → Bool
member v [] = false
member v (x ∷ xs) = eqb x v || member v xs

unfoldable pub enum_of : List ℕ → Field ℕ
enum_of list = u32 four >>= λ v. cond (member v list) (done v) (refuse enum (v ∷ []))

-- F16: exponent 31 is refusal 5, the reader after 16 bits; else the f32 with those bits.
unfoldable pub half : ℕ → Field Float
half v = cond (eqb (exponent v) 31) (refuse float []) (done (of_bits binary32 (pattern v)))

unfoldable pub f16 : Field Float
f16 = begin false >>= λ _. part 16 >>= half

-- What is given is that exact number: of the 16 bits where the reading starts.
abbrev pub ExactlyGiven : List ℕ → ℕ → Answer Float → Type 0
ExactlyGiven s at (gives x p) = Exactly (bits s (start s at) 16) x
ExactlyGiven s at (refuses r told p) = Unit {0}
