-- Two different lines never have the same text: the line can be read back from its fields.
use mathlib.Core.Path.{◌≡◌, refl, sym, ap, ◌∙◌}
use mathlib.Core.Bool.{Bool, true, false}
use mathlib.Core.List.{List, []}
use Prim.Native.Nat.{ℕ, ◌+◌}
use lib.Dec.{eqb}
use lib.ListN.{get_or}
use Rattle.jxl_headers.specs.Bytes.{if}
use Rattle.jxl_record.specs.declared.BitstreamKind.{BitstreamKind}
use Rattle.jxl_record.specs.declared.BitstreamKind.TheVariants as K
use Rattle.jxl_events.specs.declared.ParseEvent.TheVariants as E
use Rattle.jxl_lines.specs.Lines.{kind_word, brob_word, end_word, stop_word, fields, InRange}
use Rattle.jxl_lines.specs.Theorems.{NoTwoAlike}
use Rattle.jxl_lines.specs.declared.StopWord.{StopWord}
use Rattle.jxl_lines.specs.declared.StopWord.TheVariants.{Want, Refused1, Refused2, Limit, Done, CutShort, Closed}
use Rattle.jxl_lines.specs.declared.Line.{Line}
use Rattle.jxl_lines.specs.declared.Line.TheVariants.{Shown, Stopped}
use Rattle.jxl_lines.proofs.Values.{value, decimal_value, type_value}
use Rattle.jxl_lines.proofs.Fields.{same_fields}

abbrev letter : List ℕ → ℕ → ℕ
letter w i = get_or w i 0

abbrev kind_of : List ℕ → BitstreamKind
kind_of w =
    if (eqb (letter w 0) 117) K.Unknown
    (if (eqb (letter w 0) 98) K.BareCodestream
    (if (eqb (letter w 0) 99) K.Container K.Invalid))

abbrev stop_of : List ℕ → StopWord
stop_of w =
    if (eqb (letter w 0) 119) Want
    (if (eqb (letter w 0) 108) Limit
    (if (eqb (letter w 0) 100) Done
    (if (eqb (letter w 0) 99) (if (eqb (letter w 1) 117) CutShort Closed)
    (if (eqb (letter w 7) 49) Refused1 Refused2))))

abbrev field : List (List ℕ) → ℕ → List ℕ
field fs i = get_or fs i []

abbrev type_of : List (List ℕ) → ℕ
type_of fs = value 16 0 (field fs 1)

abbrev number_of : List (List ℕ) → ℕ → ℕ
number_of fs i = value 10 0 (field fs i)

-- the first word by two of its letters, whose sum no other first word has
abbrev mark : List (List ℕ) → ℕ
mark fs = letter (field fs 0) 0 + letter (field fs 0) 2

abbrev back : List (List ℕ) → Line
back fs =
    if (eqb (mark fs) 217) (Shown (E.BitstreamKind (kind_of (field fs 1))))
    (if (eqb (mark fs) 219) (Shown E.NoMoreAuxBox)
    (if (eqb (mark fs) 199) (Shown (E.Codestream (number_of fs 1) (number_of fs 2)))
    (if (eqb (mark fs) 212) (Shown (E.AuxBoxStart (type_of fs) (eqb (letter (field fs 2) 0) 98) (eqb (letter (field fs 3) 0) 116)))
    (if (eqb (mark fs) 216) (Shown (E.AuxBoxData (type_of fs) (number_of fs 2) (number_of fs 3)))
    (if (eqb (mark fs) 201) (Shown (E.AuxBoxEnd (type_of fs)))
    (Stopped (stop_of (field fs 1)) (number_of fs 2)))))))

kind_back : (k : BitstreamKind) → kind_of (kind_word k) ≡ k
kind_back K.Unknown = refl
kind_back K.BareCodestream = refl
kind_back K.Container = refl
kind_back K.Invalid = refl

brob_back : (b : Bool) → eqb (letter (brob_word b) 0) 98 ≡ b
brob_back true = refl
brob_back false = refl

end_back : (b : Bool) → eqb (letter (end_word b) 0) 116 ≡ b
end_back true = refl
end_back false = refl

stop_back : (s : StopWord) → stop_of (stop_word s) ≡ s
stop_back Want = refl
stop_back Refused1 = refl
stop_back Refused2 = refl
stop_back Limit = refl
stop_back Done = refl
stop_back CutShort = refl
stop_back Closed = refl

back_fields : (l : Line) → InRange l → back (fields l) ≡ l
back_fields (Shown (E.BitstreamKind k)) h = cc (kind_back k)
back_fields (Shown E.NoMoreAuxBox) h = refl
back_fields (Shown (E.Codestream a n)) h = cc (decimal_value a, decimal_value n)
back_fields (Shown (E.AuxBoxStart t b e)) h = cc (type_value t h, brob_back b, end_back e)
back_fields (Shown (E.AuxBoxData t a n)) (h, g, i) = cc (type_value t h, decimal_value a, decimal_value n)
back_fields (Shown (E.AuxBoxEnd t)) h = cc (type_value t h)
back_fields (Stopped s n) h = cc (stop_back s, decimal_value n)

pub no_two_alike : NoTwoAlike
no_two_alike x y h g e = sym (back_fields x h) ∙ ap back (same_fields x y e) ∙ back_fields y g
