-- Each promise determines its answer: two answers that meet it are equal, since what document 01 calls an answer says which it is.
-- Assumes nothing.
use mathlib.Core.Bool.{cond}
use mathlib.Core.List.{List}
use Rattle.std.specs.Prelude.{Result, Ok, Err}
use mathlib.Core.Path.{◌≡◌, refl, sym, ap, ◌∙◌}
use Prim.Native.Nat.{ℕ, ◌/◌, ◌%◌, ◌^◌}
use lib.Dec.{eqb}
use lib.ListN.{get_or, drop}
use Rattle.jxl_bit_rules.specs.Answer.{Answer, Field, gives, refuses}
use Rattle.jxl_bit_rules.specs.Bits.{number}
use Rattle.jxl_bit_rules.specs.Readers.{begin, read, peek, consume, skip, pad, bool}
use Rattle.jxl_base.specs.OneAnswer.{OneAnswer}
use Rattle.jxl_base.proofs.OneAnswer.{one_named, one_told}
use Rattle.jxl_bit_rules.specs.Refusals.{eof, padding, float, enum, width, numbered, tells}
use Rattle.jxl_bit_rules.specs.Theorems.{OneOf, OneWindow, OneBegin, OnePeekBits, OneReadBits, OneConsumeBits, OneSkipBits, OneZeroPadToByte, OneReadBool, OneNumReadBits}
use Rattle.jxl_bit_rules.specs.Told.{told, told_moved}
use Rattle.jxl_bit_rules.specs.declared.Refused.{Refused}
use Rattle.jxl_bit_rules.specs.declared.FieldRefusal.TheVariants.{UnexpectedEof, NonZeroPadding, InvalidFloat, InvalidEnum, Width, TooLong}
use Rattle.jxl_bit_rules.specs.declared.FieldRefusal.{FieldRefusal}

-- what is told can be read back, so it is told of one answer only
pub unique : {A B : Type 0} (told : A → B) (back : B → A) → ((r : A) → back (told r) ≡ r) → (x : B) → OneAnswer (λ r. told r ≡ x)
unique told back e = one_told told (λ r q same. sym (e r) ∙ ap back same ∙ e q)

-- a refusal, from its number and what it tells
abbrev pub named : ℕ → List ℕ → FieldRefusal
named n t =
    cond (eqb n eof) UnexpectedEof
    (cond (eqb n padding) NonZeroPadding
    (cond (eqb n float) InvalidFloat
    (cond (eqb n enum) (InvalidEnum (get_or t 0 0))
    (cond (eqb n width) Width TooLong))))

pub renamed : (r : FieldRefusal) → named (numbered r) (tells r) ≡ r
renamed UnexpectedEof = refl
renamed NonZeroPadding = refl
renamed InvalidFloat = refl
renamed (InvalidEnum v) = refl
renamed Width = refl
renamed TooLong = refl

-- a refusal with its position, from what is told of it
abbrev pub back_refused : ℕ → List ℕ → ℕ → Refused
back_refused n t at = record { refusal = named n t; at = at }

pub same_refused : (e : Refused) → back_refused (numbered e.refusal) (tells e.refusal) e.at ≡ e
same_refused e = ap (λ (r : FieldRefusal). record { refusal = r; at = e.at }) (renamed e.refusal)

-- an answer, from what is told of it
abbrev pub back : {A : Type 0} → Answer A → Result (A × ℕ) Refused
back (gives a at) = Ok (a, at)
back (refuses n t at) = Err (back_refused n t at)

same : {A : Type 0} (r : Result (A × ℕ) Refused) → back (told r) ≡ r
same (Ok x) = refl
same (Err e) = ap Err (same_refused e)

abbrev back_moved : Answer (Unit {0}) → Result ℕ Refused
back_moved (gives u at) = Ok at
back_moved (refuses n t at) = Err (back_refused n t at)

same_moved : (r : Result ℕ Refused) → back_moved (told_moved r) ≡ r
same_moved (Ok at) = refl
same_moved (Err e) = ap Err (same_refused e)

-- a read of any type is told of one answer only, and so is a move
pub one_of : {A : Type 0} (f : Field A) → OneOf told f
one_of f s at = unique told back same (f s at)

one_moved : (f : Field (Unit {0})) → OneOf told_moved f
one_moved f s at = unique told_moved back_moved same_moved (f s at)

-- ---- each function's
pub one_window : OneWindow
one_window s at = one_named (number (drop (at / 8) s) % 2 ^ 64)

pub one_begin : OneBegin
one_begin wide = one_moved (begin wide)

pub one_peek_bits : OnePeekBits
one_peek_bits n = one_of (peek n)

pub one_read_bits : OneReadBits
one_read_bits n = one_of (read n)

pub one_consume_bits : OneConsumeBits
one_consume_bits n = one_moved (consume n)

pub one_skip_bits : OneSkipBits
one_skip_bits n = one_moved (skip n)

pub one_zero_pad_to_byte : OneZeroPadToByte
one_zero_pad_to_byte = one_moved pad

pub one_read_bool : OneReadBool
one_read_bool = one_of bool

pub one_num_read_bits : OneNumReadBits
one_num_read_bits position = one_named position
