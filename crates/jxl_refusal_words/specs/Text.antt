-- The texts of refusals, for a fault log: one for each rule, and one for Closed. A wrong index tells both numbers, decimal. No line feed
-- ends a text.
use Rattle.std.specs.Prelude.{List, [], ◌∷◌, ◌++◌, ℕ, ◌^◌, ◌<◌}
use Rattle.jxl_refusals.specs.declared.BoxRefusal.{BoxRefusal}
use Rattle.jxl_refusals.specs.declared.BoxRefusal.TheVariants.{ShortSize, ExtendedSize, SecondJxlc, JxlcAfterJxlp, JxlpTooSmall, JxlpAfterJxlc, JxlpAfterLast, WrongIndex, BrobTooSmall, ImpossibleRecord, ValidationFailed, StreamLimit, CutShort, Closed}
use Rattle.jxl_lines.specs.Digits.{decimal}

-- `box size from 2 to 7`
abbrev pub short_size : List ℕ
short_size = 98 ∷ 111 ∷ 120 ∷ 32 ∷ 115 ∷ 105 ∷ 122 ∷ 101 ∷ 32 ∷ 102 ∷ 114 ∷ 111 ∷ 109 ∷ 32 ∷ 50 ∷ 32 ∷ 116 ∷ 111 ∷ 32 ∷ 55 ∷ []

-- `extended box size under 16`
abbrev pub extended_size : List ℕ
extended_size = 101 ∷ 120 ∷ 116 ∷ 101 ∷ 110 ∷ 100 ∷ 101 ∷ 100 ∷ 32 ∷ 98 ∷ 111 ∷ 120 ∷ 32 ∷ 115 ∷ 105 ∷ 122 ∷ 101 ∷ 32 ∷ 117 ∷ 110 ∷ 100 ∷ 101 ∷ 114 ∷ 32 ∷ 49 ∷ 54 ∷ []

-- `second jxlc`
abbrev pub second_jxlc : List ℕ
second_jxlc = 115 ∷ 101 ∷ 99 ∷ 111 ∷ 110 ∷ 100 ∷ 32 ∷ 106 ∷ 120 ∷ 108 ∷ 99 ∷ []

-- `jxlc after jxlp`
abbrev pub jxlc_after_jxlp : List ℕ
jxlc_after_jxlp = 106 ∷ 120 ∷ 108 ∷ 99 ∷ 32 ∷ 97 ∷ 102 ∷ 116 ∷ 101 ∷ 114 ∷ 32 ∷ 106 ∷ 120 ∷ 108 ∷ 112 ∷ []

-- `jxlp too small for its index`
abbrev pub jxlp_too_small : List ℕ
jxlp_too_small = 106 ∷ 120 ∷ 108 ∷ 112 ∷ 32 ∷ 116 ∷ 111 ∷ 111 ∷ 32 ∷ 115 ∷ 109 ∷ 97 ∷ 108 ∷ 108 ∷ 32 ∷ 102 ∷ 111 ∷ 114 ∷ 32 ∷ 105 ∷ 116 ∷ 115 ∷ 32 ∷ 105 ∷ 110 ∷ 100 ∷ 101 ∷ 120 ∷ []

-- `jxlp after jxlc`
abbrev pub jxlp_after_jxlc : List ℕ
jxlp_after_jxlc = 106 ∷ 120 ∷ 108 ∷ 112 ∷ 32 ∷ 97 ∷ 102 ∷ 116 ∷ 101 ∷ 114 ∷ 32 ∷ 106 ∷ 120 ∷ 108 ∷ 99 ∷ []

-- `jxlp after the last jxlp`
abbrev pub jxlp_after_last : List ℕ
jxlp_after_last = 106 ∷ 120 ∷ 108 ∷ 112 ∷ 32 ∷ 97 ∷ 102 ∷ 116 ∷ 101 ∷ 114 ∷ 32 ∷ 116 ∷ 104 ∷ 101 ∷ 32 ∷ 108 ∷ 97 ∷ 115 ∷ 116 ∷ 32 ∷ 106 ∷ 120 ∷ 108 ∷ 112 ∷ []

-- `jxlp index `
abbrev pub index_word : List ℕ
index_word = 106 ∷ 120 ∷ 108 ∷ 112 ∷ 32 ∷ 105 ∷ 110 ∷ 100 ∷ 101 ∷ 120 ∷ 32 ∷ []

-- ` where `
abbrev pub where_word : List ℕ
where_word = 32 ∷ 119 ∷ 104 ∷ 101 ∷ 114 ∷ 101 ∷ 32 ∷ []

-- ` was expected`
abbrev pub expected_word : List ℕ
expected_word = 32 ∷ 119 ∷ 97 ∷ 115 ∷ 32 ∷ 101 ∷ 120 ∷ 112 ∷ 101 ∷ 99 ∷ 116 ∷ 101 ∷ 100 ∷ []

-- `brob too small for its type`
abbrev pub brob_too_small : List ℕ
brob_too_small = 98 ∷ 114 ∷ 111 ∷ 98 ∷ 32 ∷ 116 ∷ 111 ∷ 111 ∷ 32 ∷ 115 ∷ 109 ∷ 97 ∷ 108 ∷ 108 ∷ 32 ∷ 102 ∷ 111 ∷ 114 ∷ 32 ∷ 105 ∷ 116 ∷ 115 ∷ 32 ∷ 116 ∷ 121 ∷ 112 ∷ 101 ∷ []

-- `impossible record`
abbrev pub impossible_record : List ℕ
impossible_record = 105 ∷ 109 ∷ 112 ∷ 111 ∷ 115 ∷ 115 ∷ 105 ∷ 98 ∷ 108 ∷ 101 ∷ 32 ∷ 114 ∷ 101 ∷ 99 ∷ 111 ∷ 114 ∷ 100 ∷ []

-- `reserved type in brob`
abbrev pub validation_failed : List ℕ
validation_failed = 114 ∷ 101 ∷ 115 ∷ 101 ∷ 114 ∷ 118 ∷ 101 ∷ 100 ∷ 32 ∷ 116 ∷ 121 ∷ 112 ∷ 101 ∷ 32 ∷ 105 ∷ 110 ∷ 32 ∷ 98 ∷ 114 ∷ 111 ∷ 98 ∷ []

-- `more bytes than the 2^63 - 1 that a file may have`
abbrev pub stream_limit : List ℕ
stream_limit = 109 ∷ 111 ∷ 114 ∷ 101 ∷ 32 ∷ 98 ∷ 121 ∷ 116 ∷ 101 ∷ 115 ∷ 32 ∷ 116 ∷ 104 ∷ 97 ∷ 110 ∷ 32 ∷ 116 ∷ 104 ∷ 101 ∷ 32 ∷ 50 ∷ 94 ∷ 54 ∷ 51 ∷ 32 ∷ 45 ∷ 32 ∷ 49 ∷ 32 ∷ 116 ∷ 104 ∷ 97 ∷ 116 ∷ 32 ∷ 97 ∷ 32 ∷ 102 ∷ 105 ∷ 108 ∷ 101 ∷ 32 ∷ 109 ∷ 97 ∷ 121 ∷ 32 ∷ 104 ∷ 97 ∷ 118 ∷ 101 ∷ []

-- `file cut short`
abbrev pub cut_short : List ℕ
cut_short = 102 ∷ 105 ∷ 108 ∷ 101 ∷ 32 ∷ 99 ∷ 117 ∷ 116 ∷ 32 ∷ 115 ∷ 104 ∷ 111 ∷ 114 ∷ 116 ∷ []

-- `parser closed by its end`
abbrev pub closed : List ℕ
closed = 112 ∷ 97 ∷ 114 ∷ 115 ∷ 101 ∷ 114 ∷ 32 ∷ 99 ∷ 108 ∷ 111 ∷ 115 ∷ 101 ∷ 100 ∷ 32 ∷ 98 ∷ 121 ∷ 32 ∷ 105 ∷ 116 ∷ 115 ∷ 32 ∷ 101 ∷ 110 ∷ 100 ∷ []

-- the text of a refusal; of a wrong index as in `jxlp index 3 where 2 was expected`
abbrev pub text : BoxRefusal → List ℕ
text ShortSize = short_size
text ExtendedSize = extended_size
text SecondJxlc = second_jxlc
text JxlcAfterJxlp = jxlc_after_jxlp
text JxlpTooSmall = jxlp_too_small
text JxlpAfterJxlc = jxlp_after_jxlc
text JxlpAfterLast = jxlp_after_last
text (WrongIndex found expected) = index_word ++ (decimal found ++ (where_word ++ (decimal expected ++ expected_word)))
text BrobTooSmall = brob_too_small
text ImpossibleRecord = impossible_record
text ValidationFailed = validation_failed
text StreamLimit = stream_limit
text CutShort = cut_short
text Closed = closed

-- the index found fits 32 bits and the one expected 64, as those of the code do
abbrev pub InRange : BoxRefusal → Type 0
InRange ShortSize = Unit {0}
InRange ExtendedSize = Unit {0}
InRange SecondJxlc = Unit {0}
InRange JxlcAfterJxlp = Unit {0}
InRange JxlpTooSmall = Unit {0}
InRange JxlpAfterJxlc = Unit {0}
InRange JxlpAfterLast = Unit {0}
InRange (WrongIndex found expected) = (found < 2 ^ 32) × (expected < 2 ^ 64)
InRange BrobTooSmall = Unit {0}
InRange ImpossibleRecord = Unit {0}
InRange ValidationFailed = Unit {0}
InRange StreamLimit = Unit {0}
InRange CutShort = Unit {0}
InRange Closed = Unit {0}
