-- Two different refusals never have the same text: the refusal can be read back from it.
use mathlib.Core.Path.{◌≡◌, refl, sym, ap, ◌∙◌}
use mathlib.Core.Bool.{Bool, true, false}
use mathlib.Core.List.{List, [], ◌∷◌, ◌++◌, append_assoc, append-nil}
use Prim.Native.Nat.{ℕ, zero, suc, ◌+◌, ◌/◌, ◌%◌, ◌<◌}
use native.Mathlib.Nat.{not-suc-le-zero}
use native.Mathlib.Omega.{arith}
use lib.Dec.{ltb, eqb}
use lib.ListN.{get_or, drop}
use borrow.Author.Tests.{ltb-true, ltb-false, ne_eqb}
use Rattle.jxl_headers.specs.Bytes.{if}
use Rattle.jxl_refusals.specs.declared.BoxRefusal.{BoxRefusal}
use Rattle.jxl_refusals.specs.declared.BoxRefusal.TheVariants.{ShortSize, ExtendedSize, SecondJxlc, JxlcAfterJxlp, JxlpTooSmall, JxlpAfterJxlc, JxlpAfterLast, WrongIndex, BrobTooSmall, ImpossibleRecord, ValidationFailed, StreamLimit, CutShort, Closed}
use Rattle.jxl_lines.specs.Digits.{glyph, decimal}
use Rattle.jxl_lines.proofs.Numbers.{decimal_small, decimal_more}
use Rattle.jxl_lines.proofs.Values.{value, decimal_value}
use Rattle.jxl_refusal_words.specs.Text.{text}
use Rattle.jxl_refusal_words.specs.Theorems.{NoTwoAlike}

-- up to the first space, which is character 32
abbrev word : List ℕ → List ℕ
word [] = []
word (c ∷ cs) = if (eqb c 32) [] (c ∷ word cs)

-- from the first space on
abbrev others : List ℕ → List ℕ
others [] = []
others (c ∷ cs) = if (eqb c 32) (c ∷ cs) (others cs)

no_space : (d : ℕ) → eqb (glyph d) 32 ≡ false
no_space d = go (ltb d 10)
  where
    go : (t : Bool) → eqb (if t (48 + d) (87 + d)) 32 ≡ false
    go true = ne_eqb (48 + d) 32 (λ e. omega arith)
    go false = ne_eqb (87 + d) 32 (λ e. omega arith)

-- a number's digits are all before the first space
abbrev Spaceless : List ℕ → Type 0
Spaceless w = (u : List ℕ) → (word (w ++ u) ≡ w ++ word u) × (others (w ++ u) ≡ others u)

one_digit : (d : ℕ) → Spaceless (glyph d ∷ [])
one_digit d u = let e = no_space d in (rw e, rw e)

one_more_lem : (w : List ℕ) (d : ℕ) → Spaceless w → Spaceless (w ++ (glyph d ∷ []))
one_more_lem w d h u =
    let e = no_space d in
    let both = h (glyph d ∷ u) in
    (simp append_assoc (both.0 ∙ rw e), rw append_assoc (both.1 ∙ rw e))

spaceless : (turns n : ℕ) → n < turns → Spaceless (decimal n)
spaceless zero n h = absurd (not-suc-le-zero h)
spaceless (suc turns) n h = go (ltb n 10) refl (spaceless turns (n / 10))
  where
    go : (t : Bool) → ltb n 10 ≡ t → (n / 10 < turns → Spaceless (decimal (n / 10))) → Spaceless (decimal n)
    go true e shorter = rw (decimal_small n (ltb-true n 10 e)) (one_digit n)
    go false e shorter =
        let big = ltb-false n 10 e in
        rw (decimal_more n (omega arith)) (one_more_lem (decimal (n / 10)) (n % 10) (shorter (omega arith)))

number_back : (n : ℕ) (u : List ℕ) → value 10 0 (word (decimal n ++ (32 ∷ u))) ≡ n
number_back n u =
    ap (value 10 0) ((spaceless (suc n) n (omega arith) (32 ∷ u)).0 ∙ append-nil (decimal n)) ∙ decimal_value n

others_back : (n : ℕ) (u : List ℕ) → others (decimal n ++ (32 ∷ u)) ≡ 32 ∷ u
others_back n u = (spaceless (suc n) n (omega arith) (32 ∷ u)).1

abbrev letter : List ℕ → ℕ → ℕ
letter w i = get_or w i 0

-- a text by two of its letters, whose sum no other text has; only a `jxlp` out of its turn has two texts that start alike
abbrev mark : List ℕ → ℕ
mark w = letter w 3 + letter w 5

-- the index found stands behind the 11 letters `jxlp index `; behind it and the 7 letters ` where ` the one expected
abbrev index_back : List ℕ → BoxRefusal
index_back w = WrongIndex (value 10 0 (word (drop 11 w))) (value 10 0 (word (drop 7 (others (drop 11 w)))))

abbrev back : List ℕ → BoxRefusal
back w =
    if (eqb (mark w) 137) ShortSize
    (if (eqb (mark w) 201) ExtendedSize
    (if (eqb (mark w) 211) SecondJxlc
    (if (eqb (mark w) 196) JxlcAfterJxlp
    (if (eqb (mark w) 228) JxlpTooSmall
    (if (eqb (mark w) 209) (if (eqb (letter w 11) 106) JxlpAfterJxlc JxlpAfterLast)
    (if (eqb (mark w) 217) (index_back w)
    (if (eqb (mark w) 214) BrobTooSmall
    (if (eqb (mark w) 226) ImpossibleRecord
    (if (eqb (mark w) 199) StreamLimit
    (if (eqb (mark w) 200) CutShort
    (if (eqb (mark w) 229) Closed ValidationFailed)))))))))))

again : (r : BoxRefusal) → back (text r) ≡ r
again ShortSize = refl
again ExtendedSize = refl
again SecondJxlc = refl
again JxlcAfterJxlp = refl
again JxlpTooSmall = refl
again JxlpAfterJxlc = refl
again JxlpAfterLast = refl
again (WrongIndex found expected) =
    rw (others_back found, number_back found, number_back expected)
again BrobTooSmall = refl
again ImpossibleRecord = refl
again ValidationFailed = refl
again StreamLimit = refl
again CutShort = refl
again Closed = refl

pub no_two_alike : NoTwoAlike
no_two_alike r q e = sym (again r) ∙ ap back e ∙ again q
