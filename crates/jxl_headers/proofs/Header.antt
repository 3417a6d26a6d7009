-- What each way through the tests of a box header says of the input.
use mathlib.Core.Path.{◌≡◌, refl, sym, ap, ◌∙◌}
use mathlib.Core.Bool.{Bool, true, false}
use mathlib.Core.List.{List}
use Prim.Native.Nat.{ℕ, ◌-◌, ◌<◌, ◌≤◌}
use native.Mathlib.Omega.{arith}
use lib.Dec.{ltb, eqb}
use lib.ListN.{length}
use borrow.Author.Tests.{lt-ltb, le-ltb, eq-eqb, ltb-true, ltb-false}
use Rattle.jxl_headers.specs.Bytes.{if, be32, be64}
use Rattle.jxl_headers.specs.Header.{Header, short, bad, box, header_of, extended, ToldHeader, numbered}
use Rattle.jxl_reach.specs.declared.BytesLeft.{BytesLeft}
use Rattle.jxl_reach.specs.declared.BytesLeft.TheVariants.{ToEnd, Bytes}
use Rattle.jxl_refusals.specs.Refusals.{why}
use Rattle.jxl_refusals.specs.declared.BoxRefusal.TheVariants.{ShortSize, ExtendedSize}
use Rattle.jxl_refusals.proofs.Telling.{why_tells}

module _ (s : List ℕ) where
  pub extended_short : length s < 16 → extended s ≡ short
  unfolding extended
  extended_short h = rw (lt-ltb (length s) 16 h)

  pub header_short : length s < 8 → header_of s ≡ short
  unfolding header_of
  header_short h = rw (lt-ltb (length s) 8 h)

  pub header_extended : 8 ≤ length s → be32 s 0 ≡ 1 → header_of s ≡ extended s
  unfolding header_of
  header_extended h e = rw (le-ltb (length s) 8 h, eq-eqb (be32 s 0) 1 e)

-- a header that wants more has fewer than 16 bytes; one that is read has 8 bytes or more, and all of them are there
abbrev Sized : Header → ℕ → Type 0
Sized short n = n < 16
Sized (bad r) n = Unit {0}
Sized (box t l k) n = (8 ≤ k) × (k ≤ n)

extended_sized : (s : List ℕ) → Sized (extended s) (length s)
unfolding extended
extended_sized s = there (ltb (length s) 16) refl
  where
    sound : (b : Bool) → 16 ≤ length s → Sized (if b (bad ExtendedSize) (box (be32 s 4) (Bytes (be64 s 8 - 16)) 16)) (length s)
    sound true h = tt
    sound false h = (omega arith, omega arith)

    there : (b : Bool) → ltb (length s) 16 ≡ b
        → Sized (if b short (if (ltb (be64 s 8) 16) (bad ExtendedSize) (box (be32 s 4) (Bytes (be64 s 8 - 16)) 16))) (length s)
    there true e = ltb-true (length s) 16 e
    there false e = sound (ltb (be64 s 8) 16) (ltb-false (length s) 16 e)

header_sized : (s : List ℕ) → Sized (header_of s) (length s)
unfolding header_of
header_sized s = there (ltb (length s) 8) refl
  where
    sound : (b : Bool) → 8 ≤ length s → Sized (if b (bad ShortSize) (box (be32 s 4) (Bytes (be32 s 0 - 8)) 8)) (length s)
    sound true h = tt
    sound false h = (omega arith, omega arith)

    bounded : (b : Bool) → 8 ≤ length s
        → Sized (if b (box (be32 s 4) ToEnd 8) (if (ltb (be32 s 0) 8) (bad ShortSize) (box (be32 s 4) (Bytes (be32 s 0 - 8)) 8))) (length s)
    bounded true h = (omega arith, omega arith)
    bounded false h = sound (ltb (be32 s 0) 8) h

    short_size_lem : (b : Bool) → 8 ≤ length s
        → Sized (if b (extended s) (if (eqb (be32 s 0) 0) (box (be32 s 4) ToEnd 8) (if (ltb (be32 s 0) 8) (bad ShortSize) (box (be32 s 4) (Bytes (be32 s 0 - 8)) 8)))) (length s)
    short_size_lem true h = extended_sized s
    short_size_lem false h = bounded (eqb (be32 s 0) 0) h

    there : (b : Bool) → ltb (length s) 8 ≡ b
        → Sized (if b short (if (eqb (be32 s 0) 1) (extended s) (if (eqb (be32 s 0) 0) (box (be32 s 4) ToEnd 8) (if (ltb (be32 s 0) 8) (bad ShortSize) (box (be32 s 4) (Bytes (be32 s 0 - 8)) 8))))) (length s)
    there true e = omega (arith, ltb-true (length s) 8 e)
    there false e = short_size_lem (eqb (be32 s 0) 1) (ltb-false (length s) 8 e)

pub header_fits : (s : List ℕ) {t : ℕ} {l : BytesLeft} {n : ℕ} → header_of s ≡ box t l n → (8 ≤ n) × (n ≤ length s)
header_fits s e = rw e at (header_sized s)

pub header_under : (s : List ℕ) → header_of s ≡ short → length s < 16
header_under s e = rw e at (header_sized s)

unnumbered : (g h : Header) → numbered g ≡ numbered h → g ≡ h
unnumbered short short e = refl
unnumbered short (bad r) e = cc
unnumbered short (box t l n) e = cc
unnumbered (bad r) short e = cc
unnumbered (bad r) (bad q) e =
    let same : why r ≡ why q = cc in
    ap bad (why_tells r q same)
unnumbered (bad r) (box t l n) e = cc
unnumbered (box t l n) short e = cc
unnumbered (box t l n) (bad r) e = cc
unnumbered (box t l n) (box u k m) e = cc

-- what the code read is what the header says
pub says : (s : List ℕ) (g : Header) {t : ToldHeader} → t ≡ numbered (header_of s) → t ≡ numbered g → header_of s ≡ g
says s g e f = unnumbered (header_of s) g (sym e ∙ f)
