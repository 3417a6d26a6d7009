-- One place: a refusal's rule and total leave one header that it can concern, since boxes do not overlap.
use mathlib.Core.Path.{◌≡◌, refl, sym, ap, ◌∙◌, subst}
use mathlib.Core.Logic.{◌⊎◌, inl, inr}
use mathlib.Core.List.{List}
use Prim.Native.Nat.{ℕ, ◌+◌, ◌≤◌}
use native.Mathlib.Omega.{arith}
use lib.ListN.{drop}
use Rattle.jxl_headers.specs.Header.{box, header_of}
use Rattle.jxl_headers.proofs.Header.{header_fits}
use Rattle.jxl_reach.specs.declared.BytesLeft.{BytesLeft}
use Rattle.jxl_reach.specs.declared.BytesLeft.TheVariants.{Bytes}
use Rattle.jxl_refusals.specs.declared.BoxRefusal.{BoxRefusal}
use Rattle.jxl_places.specs.Places.{Starts, first, next, Box, Broken, in_header, behind_header, behind_four, in_none, broken, NamedIn}
use Rattle.jxl_places.specs.Theorems.{OnePlace}

module _ (s : List ℕ) where
  -- box behind box, from a on
  data Row (a : ℕ) : ℕ → Type 0 where
    here : Row a a
    one : {k t m n : ℕ} → Row a k → header_of (drop k s) ≡ box t (Bytes m) n → Row a (k + n + m)

  row_of : {h : ℕ} → Starts s h → Row 12 h
  row_of (first e) = here
  row_of (next i e) = one (row_of i) e

  row_up : {a k : ℕ} → Row a k → a ≤ k
  row_up here = omega arith
  row_up (one r e) = omega (arith, row_up r)

  -- the first box of a row, and the row behind it
  abbrev First : ℕ → ℕ → Type 0
  First a k = (t : ℕ) × (m : ℕ) × (n : ℕ) × (header_of (drop a s) ≡ box t (Bytes m) n) × Row (a + n + m) k

  first_of : {a k : ℕ} → Row a k → (a ≡ k) ⊎ First a k
  first_of here = inl refl
  first_of {a} (one {k = k} {t = t} {m = m} {n = n} r e) = go (first_of r)
    where
      go : (a ≡ k) ⊎ First a k → (a ≡ k + n + m) ⊎ First a (k + n + m)
      go (inl same) =
          inr (t, m, n, ap (λ (x : ℕ). header_of (drop x s)) same ∙ e, subst (λ (x : ℕ). Row (a + n + m) (x + n + m)) same here)
      go (inr (u, i, j, d, rest)) = inr (u, i, j, d, one rest e)

  -- of two rows from one place on, one goes on where the other ends
  in_line : {a h k : ℕ} → Row a h → Row a k → Row h k ⊎ Row k h
  in_line here q = inl q
  in_line {k = k} (one {k = h} {t = t} {m = m} {n = n} r e) q = go (in_line r q)
    where
      by : (h ≡ k) ⊎ First h k → Row (h + n + m) k ⊎ Row k (h + n + m)
      by (inl same) = inr (subst (λ (x : ℕ). Row x (h + n + m)) same (one here e))
      by (inr (u, i, j, d, rest)) =
          let size : j ≡ n = cc in
          let left : i ≡ m = cc in
          inl (subst (λ (x : ℕ). Row x k) (λ i. h + size i + left i) rest)

      go : Row h k ⊎ Row k h → Row (h + n + m) k ⊎ Row k (h + n + m)
      go (inl x) = by (first_of x)
      go (inr x) = inr (one x e)

  -- two headers that end in one place
  module _ {t u h k n o : ℕ} {l m : BytesLeft} (b : Box s t l h n) (c : Box s u m k o) (e : h + n ≡ k + o) where
    forward : Row h k → h ≡ k
    forward r = go (first_of r)
      where
        go : (h ≡ k) ⊎ First h k → h ≡ k
        go (inl same) = same
        go (inr (v, i, j, d, rest)) =
            let head = b.1 in
            let size : j ≡ n = cc in
            absurd (omega (arith, row_up rest, (header_fits (drop k s) c.1).0))

  same_place : {t u h k n o : ℕ} {l m : BytesLeft} → Box s t l h n → Box s u m k o → h + n ≡ k + o → h ≡ k
  same_place {h = h} {k = k} b c e = go (in_line (row_of b.0) (row_of c.0))
    where
      go : Row h k ⊎ Row k h → h ≡ k
      go (inl r) = forward b c e r
      go (inr r) = sym (forward c b (sym e) r)

pub one_place : OnePlace
one_place s r q a b e f = go (broken r.rule) a (subst (λ (x : BoxRefusal). NamedIn (broken x) s q) (sym e) b)
  where
    go : (x : Broken) → NamedIn x s r → NamedIn x s q → r.place ≡ q.place
    go in_header a b = omega (arith, a.2, b.2, f)
    go (behind_header t) (l, n, c, x) (m, o, d, y) = same_place s c d (omega arith)
    go (behind_four t) (l, n, c, x) (m, o, d, y) = same_place s c d (omega arith)
    go in_none a b = omega arith
