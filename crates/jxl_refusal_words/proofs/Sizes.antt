-- A text has at most 61 bytes: 31 of words, a number of 32 bits, which has at most 10 digits, and one of 64, which has at most 20.
use mathlib.Core.Path.{◌≡◌, refl, ap}
use mathlib.Core.Bool.{Bool, true, false}
use Prim.Native.Nat.{ℕ, zero, suc, ◌+◌, ◌/◌, ◌^◌, ◌<◌, ◌≤◌}
use native.Mathlib.Nat.{pow-suc}
use native.Mathlib.Omega.{arith}
use lib.Dec.{ltb}
use lib.ListN.{length, length-append}
use borrow.Author.Tests.{ltb-true, ltb-false}
use Rattle.jxl_refusals.specs.declared.BoxRefusal.TheVariants.{ShortSize, ExtendedSize, SecondJxlc, JxlcAfterJxlp, JxlpTooSmall, JxlpAfterJxlc, JxlpAfterLast, WrongIndex, BrobTooSmall, ImpossibleRecord, ValidationFailed, StreamLimit, CutShort, Closed}
use Rattle.jxl_lines.specs.Digits.{decimal}
use Rattle.jxl_lines.proofs.Numbers.{decimal_small, decimal_longer, decimal_most}
use Rattle.jxl_refusal_words.specs.Text.{text}
use Rattle.jxl_refusal_words.specs.Theorems.{MostBytes}

-- a number below the power 10 ^ k has at most k digits, and any number has one
digits_most : (k n : ℕ) → n < 10 ^ suc k → length (decimal n) ≤ suc k
digits_most zero n h = omega (arith, ap length (decimal_small n (omega arith)))
digits_most (suc k) n h = go (ltb n 10) refl (digits_most k (n / 10))
  where
    go : (t : Bool) → ltb n 10 ≡ t → (n / 10 < 10 ^ suc k → length (decimal (n / 10)) ≤ suc k) → length (decimal n) ≤ suc (suc k)
    go true e shorter = omega (arith, ap length (decimal_small n (ltb-true n 10 e)))
    go false e shorter =
        let tens = pow-suc 10 (suc k) in
        let big = ltb-false n 10 e in
        omega (arith, decimal_longer n (omega arith), shorter (omega arith))

pub wrong_index_size : (found expected : ℕ) → length (text (WrongIndex found expected)) ≡ 31 + length (decimal found) + length (decimal expected)
wrong_index_size found expected = simp length-append (omega arith)

pub most_bytes : MostBytes
most_bytes ShortSize h = omega arith
most_bytes ExtendedSize h = omega arith
most_bytes SecondJxlc h = omega arith
most_bytes JxlcAfterJxlp h = omega arith
most_bytes JxlpTooSmall h = omega arith
most_bytes JxlpAfterJxlc h = omega arith
most_bytes JxlpAfterLast h = omega arith
most_bytes (WrongIndex found expected) (h, g) =
    omega (arith, wrong_index_size found expected, digits_most 9 found (omega arith), decimal_most expected g)
most_bytes BrobTooSmall h = omega arith
most_bytes ImpossibleRecord h = omega arith
most_bytes ValidationFailed h = omega arith
most_bytes StreamLimit h = omega arith
most_bytes CutShort h = omega arith
most_bytes Closed h = omega arith
