-- The refusals of the container, by number: document 02, P2, which tells ten rules apart that document 01 calls refusal 1, and P3, which
-- adds the limit of a file, and P4, which adds its end: CutShort, and Closed, which is the answer to a feed behind an end and no refusal of
-- the file. The rules on boxes never give these three of their own; a record that holds one repeats it.
use Rattle.std.specs.Prelude.{List, [], ◌∷◌, ℕ, ltb}
use Rattle.jxl_cuts.specs.Machine.{if}
use Rattle.jxl_refusals.specs.declared.BoxRefusal.{BoxRefusal}
use Rattle.jxl_refusals.specs.declared.BoxRefusal.TheVariants.{ShortSize, ExtendedSize, SecondJxlc, JxlcAfterJxlp, JxlpTooSmall, JxlpAfterJxlc, JxlpAfterLast, WrongIndex, BrobTooSmall, ImpossibleRecord, ValidationFailed, StreamLimit, CutShort, Closed}

-- a refusal: its number, and the values that it tells
pub data Why : Type 0 where
  refusal : ℕ → List ℕ → Why

abbrev pub number_of : Why → ℕ
number_of (refusal n values) = n

-- a naming: what the refusal is called that comes of a broken rule
abbrev pub Naming : Type 0
Naming = BoxRefusal → Why

-- each rule by its number, in document 02's order; a wrong index tells the one expected and the one found
abbrev pub why : Naming
why ShortSize = refusal 10 []
why ExtendedSize = refusal 11 []
why SecondJxlc = refusal 12 []
why JxlcAfterJxlp = refusal 13 []
why JxlpTooSmall = refusal 14 []
why JxlpAfterJxlc = refusal 15 []
why JxlpAfterLast = refusal 16 []
why (WrongIndex found expected) = refusal 17 (expected ∷ found ∷ [])
why BrobTooSmall = refusal 18 []
why ImpossibleRecord = refusal 19 []
why ValidationFailed = refusal 2 []
why StreamLimit = refusal 20 []
why CutShort = refusal 21 []
why Closed = refusal 22 []

-- document 01's naming: InvalidBox, which is refusal 1, for each of the ten; ValidationFailed is refusal 2. StreamLimit,
-- CutShort and Closed are not in it, and keep their numbers
abbrev pub in_document01 : Naming
in_document01 ShortSize = refusal 1 []
in_document01 ExtendedSize = refusal 1 []
in_document01 SecondJxlc = refusal 1 []
in_document01 JxlcAfterJxlp = refusal 1 []
in_document01 JxlpTooSmall = refusal 1 []
in_document01 JxlpAfterJxlc = refusal 1 []
in_document01 JxlpAfterLast = refusal 1 []
in_document01 (WrongIndex found expected) = refusal 1 []
in_document01 BrobTooSmall = refusal 1 []
in_document01 ImpossibleRecord = refusal 1 []
in_document01 ValidationFailed = refusal 2 []
in_document01 StreamLimit = refusal 20 []
in_document01 CutShort = refusal 21 []
in_document01 Closed = refusal 22 []

-- numbers 10 to 19 merged back into 1; any other refusal as it is
abbrev pub merged : Why → Why
merged (refusal n values) =
    if (ltb n 10) (refusal n values)
    (if (ltb n 20) (refusal 1 [])
    (refusal n values))
