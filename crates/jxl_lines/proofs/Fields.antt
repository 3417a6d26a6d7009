-- Fields hold no tab and no line feed, so a line has only one way to be parted into them.
use mathlib.Core.Path.{◌≡◌, refl, sym, ap, ◌∙◌}
use mathlib.Core.Bool.{Bool, true, false}
use mathlib.Core.List.{List, [], ◌∷◌, ◌++◌}
use Prim.Native.Nat.{ℕ, zero, suc, ◌+◌, ◌/◌, ◌%◌, ◌≤◌}
use native.Mathlib.Omega.{arith}
use lib.Dec.{ltb}
use borrow.Author.Tests.{lt-ltb, ltb-true}
use Rattle.jxl_headers.specs.Bytes.{if, and}
use Rattle.jxl_record.specs.declared.BitstreamKind.{BitstreamKind}
use Rattle.jxl_record.specs.declared.BitstreamKind.TheVariants as K
use Rattle.jxl_events.specs.declared.ParseEvent.TheVariants as E
use Rattle.jxl_lines.specs.Digits.{glyph, hex_digits, hex8, decimal_in, decimal}
use Rattle.jxl_lines.specs.Lines.{kind_word, brob_word, end_word, stop_word, fields, rest, text}
use Rattle.jxl_lines.specs.declared.StopWord.{StopWord}
use Rattle.jxl_lines.specs.declared.StopWord.TheVariants.{Want, Refused1, Refused2, Limit, Done, CutShort, Closed}
use Rattle.jxl_lines.specs.declared.Line.{Line}
use Rattle.jxl_lines.specs.declared.Line.TheVariants.{Shown, Stopped}

-- no tab and no line feed: every byte is above both
abbrev clean : List ℕ → Bool
clean [] = true
clean (c ∷ cs) = and (ltb 10 c) (clean cs)

abbrev all_clean : List (List ℕ) → Bool
all_clean [] = true
all_clean (f ∷ fs) = and (clean f) (all_clean fs)

both : {t u : Bool} → t ≡ true → u ≡ true → and t u ≡ true
both p q = rw (p, q)

first : (t u : Bool) → and t u ≡ true → t ≡ true
first true u e = refl
first false u e = e

second : (t u : Bool) → and t u ≡ true → u ≡ true
second true u e = e
second false u e = absurd (let z : ◌≡◌ {A = ℕ} 0 1 = cc in omega arith)

clean_append : (f g : List ℕ) → clean f ≡ true → clean g ≡ true → clean (f ++ g) ≡ true
clean_append [] g p q = q
clean_append (c ∷ f) g p q = both (first (ltb 10 c) (clean f) p) (clean_append f g (second (ltb 10 c) (clean f) p) q)

glyph_clean : (d : ℕ) → clean (glyph d ∷ []) ≡ true
glyph_clean d = both (go (ltb d 10)) refl
  where
    go : (t : Bool) → ltb 10 (if t (48 + d) (87 + d)) ≡ true
    go true = lt-ltb 10 (48 + d) (omega arith)
    go false = lt-ltb 10 (87 + d) (omega arith)

hex_clean : (k n : ℕ) → clean (hex_digits k n) ≡ true
hex_clean zero n = refl
hex_clean (suc k) n = clean_append (hex_digits k (n / 16)) (glyph (n % 16) ∷ []) (hex_clean k (n / 16)) (glyph_clean (n % 16))

type_clean : (t : ℕ) → clean (hex8 t) ≡ true
unfolding hex8
type_clean t = hex_clean 8 t

in_clean : (turns n : ℕ) → clean (decimal_in turns n) ≡ true
in_clean zero n = refl
in_clean (suc turns) n = go (ltb n 10) (in_clean turns (n / 10))
  where
    go : (t : Bool) → clean (decimal_in turns (n / 10)) ≡ true
        → clean (if t (glyph n ∷ []) (decimal_in turns (n / 10) ++ (glyph (n % 10) ∷ []))) ≡ true
    go true e = glyph_clean n
    go false e = clean_append (decimal_in turns (n / 10)) (glyph (n % 10) ∷ []) e (glyph_clean (n % 10))

decimal_clean : (n : ℕ) → clean (decimal n) ≡ true
unfolding decimal
decimal_clean n = in_clean (suc n) n

kind_clean : (k : BitstreamKind) → clean (kind_word k) ≡ true
kind_clean K.Unknown = refl
kind_clean K.BareCodestream = refl
kind_clean K.Container = refl
kind_clean K.Invalid = refl

brob_clean : (b : Bool) → clean (brob_word b) ≡ true
brob_clean true = refl
brob_clean false = refl

end_clean : (b : Bool) → clean (end_word b) ≡ true
end_clean true = refl
end_clean false = refl

stop_clean : (s : StopWord) → clean (stop_word s) ≡ true
stop_clean Want = refl
stop_clean Refused1 = refl
stop_clean Refused2 = refl
stop_clean Limit = refl
stop_clean Done = refl
stop_clean CutShort = refl
stop_clean Closed = refl

fields_clean : (l : Line) → all_clean (fields l) ≡ true
fields_clean (Shown (E.BitstreamKind k)) = both (kind_clean k) refl
fields_clean (Shown E.NoMoreAuxBox) = refl
fields_clean (Shown (E.Codestream a n)) = both (decimal_clean a) (both (decimal_clean n) refl)
fields_clean (Shown (E.AuxBoxStart t b e)) = both (type_clean t) (both (brob_clean b) (both (end_clean e) refl))
fields_clean (Shown (E.AuxBoxData t a n)) = both (type_clean t) (both (decimal_clean a) (both (decimal_clean n) refl))
fields_clean (Shown (E.AuxBoxEnd t)) = both (type_clean t) refl
fields_clean (Stopped s n) = both (stop_clean s) (both (decimal_clean n) refl)

-- it starts with a tab or a line feed
abbrev Marked : List ℕ → Type 0
Marked [] = ⊥
Marked (c ∷ cs) = c ≤ 10

rest_marked : (fs : List (List ℕ)) → Marked (rest fs)
rest_marked [] = omega arith
rest_marked (f ∷ fs) = omega arith

-- a clean field ends where the first mark stands
parted : (f g u v : List ℕ) → clean f ≡ true → clean g ≡ true → Marked u → Marked v → f ++ u ≡ g ++ v → (f ≡ g) × (u ≡ v)
parted [] [] u v p q m n e = (refl, e)
parted [] (y ∷ g) [] v p q m n e = absurd m
parted [] (y ∷ g) (x ∷ u) v p q m n e =
    let same : x ≡ y = cc in absurd (omega (arith, ltb-true 10 y (first (ltb 10 y) (clean g) q)))
parted (x ∷ f) [] u [] p q m n e = absurd n
parted (x ∷ f) [] u (y ∷ v) p q m n e =
    let same : x ≡ y = cc in absurd (omega (arith, ltb-true 10 x (first (ltb 10 x) (clean f) p)))
parted (x ∷ f) (y ∷ g) u v p q m n e =
    let same : x ≡ y = cc in
    let tails : f ++ u ≡ g ++ v = cc in
    let parts = parted f g u v (second (ltb 10 x) (clean f) p) (second (ltb 10 y) (clean g) q) m n tails in
    let fields : f ≡ g = parts.0 in
    (cc, parts.1)

rest_parted : (fs gs : List (List ℕ)) → all_clean fs ≡ true → all_clean gs ≡ true → rest fs ≡ rest gs → fs ≡ gs
rest_parted [] [] p q e = refl
rest_parted [] (g ∷ gs) p q e = absurd (let z : ◌≡◌ {A = ℕ} 10 9 = cc in omega arith)
rest_parted (f ∷ fs) [] p q e = absurd (let z : ◌≡◌ {A = ℕ} 9 10 = cc in omega arith)
rest_parted (f ∷ fs) (g ∷ gs) p q e =
    let tails : f ++ rest fs ≡ g ++ rest gs = cc in
    let parts =
    parted f g (rest fs) (rest gs) (first (clean f) (all_clean fs) p) (first (clean g) (all_clean gs) q)
    (rest_marked fs) (rest_marked gs) tails in
    let heads : f ≡ g = parts.0 in
    let others : fs ≡ gs = rest_parted fs gs (second (clean f) (all_clean fs) p) (second (clean g) (all_clean gs) q) parts.1 in
    cc

-- a line behind a tab
behind_a_tab : (l : Line) → rest (fields l) ≡ 9 ∷ text l
behind_a_tab (Shown (E.BitstreamKind k)) = refl
behind_a_tab (Shown E.NoMoreAuxBox) = refl
behind_a_tab (Shown (E.Codestream a n)) = refl
behind_a_tab (Shown (E.AuxBoxStart t b e)) = refl
behind_a_tab (Shown (E.AuxBoxData t a n)) = refl
behind_a_tab (Shown (E.AuxBoxEnd t)) = refl
behind_a_tab (Stopped s n) = refl

-- lines of one text have the same fields
pub same_fields : (x y : Line) → text x ≡ text y → fields x ≡ fields y
same_fields x y e =
    rest_parted (fields x) (fields y) (fields_clean x) (fields_clean y)
    (behind_a_tab x ∙ ap (λ (l : List ℕ). 9 ∷ l) e ∙ sym (behind_a_tab y))
