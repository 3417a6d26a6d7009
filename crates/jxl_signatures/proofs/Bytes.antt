-- Laws on bytes.
use mathlib.Core.Path.{◌≡◌, refl, sym, ap, ◌∙◌}
use mathlib.Core.Bool.{Bool, true, false, ◌&&◌}
use mathlib.Core.List.{List, [], ◌∷◌}
use Prim.Native.Nat.{ℕ, suc, ◌+◌, ◌<◌, ◌≤◌}
use native.Mathlib.Nat.{not-suc-le-zero, le_of_suc-le-suc}
use native.Mathlib.Omega.{arith}
use lib.Dec.{eqb}
use lib.ListN.{length, get_or, drop, drop_of_length-le}
use lib.Seq.{drop-cons}
use borrow.Author.Tests.{eq-eqb, ne_eqb}
use native.Mathlib.Numerals.{add-one}
use Rattle.std.specs.List.{starts_with}
use Rattle.jxl_signatures.specs.Bytes.{and, starts}

and_false : (t : Bool) {u : Bool} → u ≡ false → and t u ≡ false
and_false true e = e
and_false false e = refl

-- what is longer is no start
pub starts_short : (p s : List ℕ) → length s < length p → starts p s ≡ false
starts_short [] s h = absurd (not-suc-le-zero h)
starts_short (x ∷ p) [] h = refl
starts_short (x ∷ p) (y ∷ s) h = and_false (eqb x y) (starts_short p s (le_of_suc-le-suc h))

-- one byte of both looked at
pub starts_next : (p s : List ℕ) (i : ℕ) → i < length p → i < length s
    → starts (drop i p) (drop i s) ≡ and (eqb (get_or p i 0) (get_or s i 0)) (starts (drop (suc i) p) (drop (suc i) s))
starts_next p s i h k = rw (drop-cons p i 0 h, drop-cons s i 0 k)

pub starts_differ : (p s : List ℕ) (i : ℕ) → i < length p → i < length s → (get_or s i 0 ≡ get_or p i 0 → ⊥) → starts (drop i p) (drop i s) ≡ false
starts_differ p s i h k d = rw (starts_next p s i h k, ne_eqb (get_or p i 0) (get_or s i 0) (λ e. d (sym e)))

pub starts_agree : (p s : List ℕ) (i : ℕ) → i < length p → i < length s → get_or s i 0 ≡ get_or p i 0
    → starts (drop i p) (drop i s) ≡ starts (drop (i + 1) p) (drop (i + 1) s)
starts_agree p s i h k e = rw (starts_next p s i h k, eq-eqb (get_or p i 0) (get_or s i 0) (sym e), add-one)

-- all of it found
pub starts_over : (p s : List ℕ) (i : ℕ) → length p ≤ i → starts (drop i p) (drop i s) ≡ true
starts_over p s i h = rw (drop_of_length-le p h)

-- what starts with all of p is as long
pub starts_length : (p s : List ℕ) → starts p s ≡ true → length p ≤ length s
starts_length [] s e = omega arith
starts_length (x ∷ p) [] e = absurd (let z : ◌≡◌ {A = ℕ} 0 1 = cc in omega arith)
starts_length (x ∷ p) (y ∷ s) e = go (eqb x y) e (starts_length p s)
  where
    go : (t : Bool) → and t (starts p s) ≡ true → (starts p s ≡ true → length p ≤ length s) → suc (length p) ≤ suc (length s)
    go true e k = omega (arith, k e)
    go false e k = absurd (let z : ◌≡◌ {A = ℕ} 0 1 = cc in omega arith)

-- std's `&&` and `starts_with` in the words of this repository
both : (t : Bool) {u v : Bool} → u ≡ v → (t && u) ≡ and t v
both true e = e
both false e = refl

pub starts_as_std : (p s : List ℕ) → starts_with eqb s p ≡ starts p s
starts_as_std [] s = refl
starts_as_std (x ∷ p) [] = refl
starts_as_std (x ∷ p) (y ∷ s) = both (eqb x y) (starts_as_std p s)
