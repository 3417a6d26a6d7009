-- A line has at least 7 bytes and at most 56; some lines have 7, and some 56.
use mathlib.Core.Bool.{Bool, true, false}
use mathlib.Core.Path.{◌≡◌}
use mathlib.Core.List.{[], ◌∷◌, ◌++◌, append_assoc}
use Prim.Native.Nat.{ℕ, ◌+◌, ◌≤◌}
use native.Mathlib.Omega.{arith}
use lib.ListN.{length, length-append}
use Rattle.jxl_record.specs.declared.BitstreamKind.{BitstreamKind}
use Rattle.jxl_record.specs.declared.BitstreamKind.TheVariants as K
use Rattle.jxl_events.specs.declared.ParseEvent.TheVariants as E
use Rattle.jxl_lines.specs.Digits.{decimal}
use Rattle.jxl_lines.specs.Lines.{kind_word, brob_word, end_word, stop, stop_word, rest, text}
use Rattle.jxl_lines.specs.Theorems.{MostBytes, LeastBytes}
use Rattle.jxl_lines.specs.declared.StopWord.{StopWord}
use Rattle.jxl_lines.specs.declared.StopWord.TheVariants.{Want, Refused1, Refused2, Limit, Done, CutShort, Closed}
use Rattle.jxl_lines.specs.declared.Line.TheVariants.{Shown, Stopped}
use Rattle.jxl_lines.proofs.Numbers.{decimal_most, type_length}

kind_most : (k : BitstreamKind) → length (kind_word k) ≤ 9
kind_most K.Unknown = omega arith
kind_most K.BareCodestream = omega arith
kind_most K.Container = omega arith
kind_most K.Invalid = omega arith

kind_least : (k : BitstreamKind) → 4 ≤ length (kind_word k)
kind_least K.Unknown = omega arith
kind_least K.BareCodestream = omega arith
kind_least K.Container = omega arith
kind_least K.Invalid = omega arith

brob_most : (b : Bool) → length (brob_word b) ≤ 5
brob_most true = omega arith
brob_most false = omega arith

end_most : (b : Bool) → length (end_word b) ≤ 7
end_most true = omega arith
end_most false = omega arith

stop_most : (s : StopWord) → length (stop_word s) ≤ 8
stop_most Want = omega arith
stop_most Refused1 = omega arith
stop_most Refused2 = omega arith
stop_most Limit = omega arith
stop_most Done = omega arith
stop_most CutShort = omega arith
stop_most Closed = omega arith

pub start_size : (t : ℕ) (b e : Bool) → length (text (Shown (E.AuxBoxStart t b e))) ≡ 17 + length (brob_word b) + length (end_word e)
start_size t b e = simp length-append (omega (arith, type_length t))

pub data_size : (t a n : ℕ) → length (text (Shown (E.AuxBoxData t a n))) ≡ 16 + length (decimal a) + length (decimal n)
data_size t a n = simp length-append (omega (arith, type_length t))

pub end_size : (t : ℕ) → length (text (Shown (E.AuxBoxEnd t))) ≡ 13
end_size t = simp length-append (omega (arith, type_length t))

pub span_size : (a n : ℕ) → length (rest (decimal a ∷ decimal n ∷ [])) ≡ 3 + length (decimal a) + length (decimal n)
span_size a n = simp length-append (omega arith)

pub code_size : (a n : ℕ) → length (text (Shown (E.Codestream a n))) ≡ 7 + length (decimal a) + length (decimal n)
code_size a n = simp length-append (omega arith)

pub stop_size : (s : StopWord) (n : ℕ) → length (text (Stopped s n)) ≡ 7 + length (stop_word s) + length (decimal n)
stop_size s n = simp length-append (omega arith)

-- the start of a stop's line, and the whole of it
pub stop_start_size : (s : StopWord) → length (stop ++ (9 ∷ (stop_word s ++ (9 ∷ [])))) ≡ 6 + length (stop_word s)
stop_start_size s = simp length-append (omega arith)

pub stop_text : (s : StopWord) (n : ℕ) → (stop ++ (9 ∷ (stop_word s ++ (9 ∷ [])))) ++ (decimal n ++ (10 ∷ [])) ≡ text (Stopped s n)
stop_text s n = simp append_assoc

pub most_bytes : MostBytes
most_bytes (Shown (E.BitstreamKind k)) h = simp length-append (omega (arith, kind_most k))
most_bytes (Shown E.NoMoreAuxBox) h = omega arith
most_bytes (Shown (E.Codestream a n)) (h, g) = omega (arith, code_size a n, decimal_most a h, decimal_most n g)
most_bytes (Shown (E.AuxBoxStart t b e)) h = omega (arith, start_size t b e, brob_most b, end_most e)
most_bytes (Shown (E.AuxBoxData t a n)) (h, g, i) = omega (arith, data_size t a n, decimal_most a g, decimal_most n i)
most_bytes (Shown (E.AuxBoxEnd t)) h = omega (arith, end_size t)
most_bytes (Stopped s n) h = omega (arith, stop_size s n, stop_most s, decimal_most n h)

pub least_bytes : LeastBytes
least_bytes (Shown (E.BitstreamKind k)) = simp length-append (omega (arith, kind_least k))
least_bytes (Shown E.NoMoreAuxBox) = omega arith
least_bytes (Shown (E.Codestream a n)) = omega (arith, code_size a n)
least_bytes (Shown (E.AuxBoxStart t b e)) = omega (arith, start_size t b e)
least_bytes (Shown (E.AuxBoxData t a n)) = omega (arith, data_size t a n)
least_bytes (Shown (E.AuxBoxEnd t)) = omega (arith, end_size t)
least_bytes (Stopped s n) = omega (arith, stop_size s n)
