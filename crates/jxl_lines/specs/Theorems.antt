-- What is proved of lines, each statement a type that proofs/ has a proof of under the same name in small letters.
use Rattle.std.specs.Prelude.{◌≡◌, List, ℕ, ◌+◌, ◌≤◌, ◌<◌, length, Ok, Err}
use Rattle.jxl_base.specs.OneAnswer.{OneAnswer, OneAnswerAndBuffer}
use Rattle.jxl_refusals.specs.Refusals.{why}
use Rattle.jxl_refusals.specs.declared.BoxRefusal.{BoxRefusal}
use Rattle.jxl_lines.specs.Lines.{printed, text, InRange}
use Rattle.jxl_lines.specs.Pasting.{pasted}
use Rattle.jxl_lines.specs.Putting.{leaves, put_of}
use Rattle.jxl_lines.specs.declared.Line.{Line}

-- a line has at most 56 bytes
abbrev pub MostBytes : Type 0
MostBytes = (l : Line) → InRange l → length (text l) ≤ 56

-- a line has at least 7 bytes
abbrev pub LeastBytes : Type 0
LeastBytes = (l : Line) → 7 ≤ length (text l)

-- two different lines never have the same text
abbrev pub NoTwoAlike : Type 0
NoTwoAlike = (x y : Line) → InRange x → InRange y → text x ≡ text y → x ≡ y

-- bytes that fit at `at` are put there, and the next byte goes behind them
abbrev pub PutWhereRoom : Type 0
PutWhereRoom = (d : List ℕ) (at : ℕ) (w : List ℕ) → at + length w ≤ length d
    → put_of d at w ≡ leaves (Ok (at + length w)) (pasted d at w)

-- of bytes that do not fit the length is told, and the buffer stays as it was
abbrev pub KeptWithoutRoom : Type 0
KeptWithoutRoom = (d : List ℕ) (at : ℕ) (w : List ℕ) → length d < at + length w → put_of d at w ≡ leaves (Err (record { needed = length w })) d

-- one answer: each promise determines what its function gives
abbrev pub OneRefused : Type 0
OneRefused = (w : BoxRefusal) → OneAnswer (λ r. r ≡ printed (why w))

-- the same of any bytes put: the answer, and the buffer that it leaves
abbrev pub OnePutBytes : Type 0
OnePutBytes = (d : List ℕ) (at : ℕ) (w : List ℕ) → OneAnswerAndBuffer (λ r b. leaves r b ≡ put_of d at w)

-- and so of a line put
abbrev pub OnePut : Type 0
OnePut = (d : List ℕ) (at : ℕ) (l : Line) → OneAnswerAndBuffer (λ r b. leaves r b ≡ put_of d at (text l))
