-- What is whole in an input is the same in a longer one: words, signatures, headers.
use mathlib.Core.Path.{◌≡◌, refl, sym, ◌∙◌}
use mathlib.Core.Bool.{Bool, true, false}
use mathlib.Core.Logic.{◌⊎◌, inl, inr}
use mathlib.Core.List.{List, [], ◌∷◌, ◌++◌}
use Prim.Native.Nat.{ℕ, ◌+◌, ◌<◌, ◌≤◌}
use native.Mathlib.Omega.{arith}
use lib.Dec.{ltb, eqb}
use lib.ListN.{length, length-append, get_or-append}
use borrow.Author.Tests.{le-ltb, ltb-true, ltb-false, eqb-true, eqb-false, eq-eqb, ne_eqb}
use Rattle.jxl_headers.specs.Bytes.{and, be32, be64, starts}
use Rattle.jxl_signatures.specs.Signature.{signature_of, codestream_sig, container_sig}
use Rattle.jxl_headers.specs.Header.{short, header_of, extended}
use Rattle.jxl_headers.proofs.Header.{header_short, header_extended, extended_short}
use Rattle.jxl_signatures.proofs.Which.{is_bare, is_container_lem, is_short_bare, is_short_container, is_neither}
use Rattle.jxl_signatures.specs.declared.Signature.TheVariants.{TooShort}
use Rattle.jxl_base.proofs.Never.{never}

module _ (a b : List ℕ) where
  longer : length (a ++ b) ≡ length a + length b
  longer = length-append a b

  pub be32_more : (i : ℕ) → i + 3 < length a → be32 (a ++ b) i ≡ be32 a i
  be32_more i h =
      simp
      (get_or-append a b 0 i (omega arith), get_or-append a b 0 (i + 1) (omega arith), get_or-append a b 0 (i + 2) (omega arith), get_or-append a b 0 (i + 3) h)

  pub be64_more : (i : ℕ) → i + 7 < length a → be64 (a ++ b) i ≡ be64 a i
  be64_more i h = simp (be32_more i (omega arith), be32_more (i + 4) (omega arith))

  extended_more : 16 ≤ length a → extended (a ++ b) ≡ extended a
  unfolding extended
  extended_more h =
      rw (le-ltb (length a) 16 h, le-ltb (length (a ++ b)) 16 (omega (arith, longer)), be64_more 8 (omega arith), be32_more 4 (omega arith))

  -- a header of at least 8 bytes, an extended one of at least 16
  header_more : 8 ≤ length a → (t : Bool) → eqb (be32 a 0) 1 ≡ t → (t ≡ true → 16 ≤ length a) → header_of (a ++ b) ≡ header_of a
  unfolding header_of
  header_more h true e k =
      rw (le-ltb (length a) 8 h, le-ltb (length (a ++ b)) 8 (omega (arith, longer)), be32_more 0 (omega arith), e) (extended_more (k refl))
  header_more h false e k =
      rw (le-ltb (length a) 8 h, le-ltb (length (a ++ b)) 8 (omega (arith, longer)), be32_more 0 (omega arith), e, be32_more 4 (omega arith))

  -- a header that is whole is the same header in a longer input
  pub header_whole : (header_of a ≡ short → ⊥) → header_of (a ++ b) ≡ header_of a
  header_whole not = go (ltb (length a) 8) refl
    where
      sixteen : 8 ≤ length a → eqb (be32 a 0) 1 ≡ true → (t : Bool) → ltb (length a) 16 ≡ t → 16 ≤ length a
      sixteen h e true l = absurd (not (header_extended a h (eqb-true (be32 a 0) 1 e) ∙ extended_short a (ltb-true (length a) 16 l)))
      sixteen h e false l = ltb-false (length a) 16 l

      go : (t : Bool) → ltb (length a) 8 ≡ t → header_of (a ++ b) ≡ header_of a
      go true e = absurd (not (header_short a (ltb-true (length a) 8 e)))
      go false e =
          header_more (ltb-false (length a) 8 e) (eqb (be32 a 0) 1) refl (λ k. sixteen (ltb-false (length a) 8 e) k (ltb (length a) 16) refl)

pub starts_more : (p a b : List ℕ) → starts p a ≡ true → starts p (a ++ b) ≡ true
starts_more [] a b e = refl
starts_more (x ∷ p) [] b e = never cc
starts_more (x ∷ p) (y ∷ a) b e = go (eqb x y) e (starts_more p a b)
  where
    go : (t : Bool) → and t (starts p a) ≡ true → (starts p a ≡ true → starts p (a ++ b) ≡ true) → and t (starts p (a ++ b)) ≡ true
    go true e k = k e
    go false e k = e

-- two lists that differ at a place go on to differ
pub starts_differ : (p a b : List ℕ) → starts p a ≡ false → starts a p ≡ false → (starts p (a ++ b) ≡ false) × (starts (a ++ b) p ≡ false)
starts_differ [] a b e f = never cc
starts_differ (x ∷ p) [] b e f = never cc
starts_differ (x ∷ p) (y ∷ a) b e f = go (eqb x y) refl (starts_differ p a b)
  where
    go : (t : Bool) → eqb x y ≡ t → (starts p a ≡ false → starts a p ≡ false → (starts p (a ++ b) ≡ false) × (starts (a ++ b) p ≡ false))
        → (and (eqb x y) (starts p (a ++ b)) ≡ false) × (and (eqb y x) (starts (a ++ b) p) ≡ false)
    go true q k =
        let r : eqb y x ≡ true = eq-eqb y x (sym (eqb-true x y q)) in
        let ih = k (rw q at e) (rw r at f) in
        (rw q ih.0, rw r ih.1)
    go false q k = (rw q, rw (ne_eqb y x (λ z. eqb-false x y q (sym z))))

-- what starts as a container does not start as a codestream
not_bare : (s : List ℕ) → starts container_sig s ≡ true → starts codestream_sig s ≡ false
not_bare [] e = refl
not_bare (y ∷ s) e = go (eqb 0 y) refl
  where
    go : (t : Bool) → eqb 0 y ≡ t → starts codestream_sig (y ∷ s) ≡ false
    go true q = rw (← eqb-true 0 y q)
    go false q = never cc

-- a signature that is told is the same in a longer input
pub signature_more : (a b : List ℕ) → (signature_of a ≡ TooShort) ⊎ (signature_of (a ++ b) ≡ signature_of a)
signature_more a b =
    go (starts codestream_sig a) refl (starts container_sig a) refl (starts a codestream_sig) refl (starts a container_sig) refl
  where
    go : (t : Bool) → starts codestream_sig a ≡ t → (u : Bool) → starts container_sig a ≡ u
        → (v : Bool) → starts a codestream_sig ≡ v → (w : Bool) → starts a container_sig ≡ w
        → (signature_of a ≡ TooShort) ⊎ (signature_of (a ++ b) ≡ signature_of a)
    go true e u f v g w h = inr (is_bare (a ++ b) (starts_more codestream_sig a b e) ∙ sym (is_bare a e))
    go false e true f v g w h =
        let more : starts container_sig (a ++ b) ≡ true = starts_more container_sig a b f in
        inr (is_container_lem (a ++ b) (not_bare (a ++ b) more) more ∙ sym (is_container_lem a e f))
    go false e false f true g w h = inl (is_short_bare a e f g)
    go false e false f false g true h = inl (is_short_container a e f g h)
    go false e false f false g false h =
        let bare = starts_differ codestream_sig a b e g in
        let container = starts_differ container_sig a b f h in
        inr (is_neither (a ++ b) bare.0 container.0 bare.1 container.1 ∙ sym (is_neither a e f g h))
