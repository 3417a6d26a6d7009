-- What each way through the four tests of `which_signature` says of the input.
use mathlib.Core.Path.{◌≡◌, refl}
use mathlib.Core.Bool.{Bool, true, false}
use mathlib.Core.List.{List}
use Prim.Native.Nat.{ℕ, ◌≤◌}
use native.Mathlib.Omega.{arith}
use lib.ListN.{length}
use Rattle.jxl_signatures.specs.Bytes.{starts}
use Rattle.jxl_signatures.specs.Signature.{signature_of, codestream_sig, container_sig}
use Rattle.jxl_signatures.proofs.Bytes.{starts_length}
use Rattle.jxl_signatures.specs.declared.Signature.{Signature}
use Rattle.jxl_signatures.specs.declared.Signature.TheVariants.{Bare, Container, TooShort, Neither}

module _ (s : List ℕ) where
  pub is_bare : starts codestream_sig s ≡ true → signature_of s ≡ Bare
  unfolding signature_of
  is_bare a = rw a

  pub is_container_lem : starts codestream_sig s ≡ false → starts container_sig s ≡ true → signature_of s ≡ Container
  unfolding signature_of
  is_container_lem a b = rw (a, b)

  pub is_short_bare : starts codestream_sig s ≡ false → starts container_sig s ≡ false → starts s codestream_sig ≡ true → signature_of s ≡ TooShort
  unfolding signature_of
  is_short_bare a b d = rw (a, b, d)

  pub is_short_container : starts codestream_sig s ≡ false → starts container_sig s ≡ false → starts s codestream_sig ≡ false
      → starts s container_sig ≡ true → signature_of s ≡ TooShort
  unfolding signature_of
  is_short_container a b d e = rw (a, b, d, e)

  pub is_neither : starts codestream_sig s ≡ false → starts container_sig s ≡ false → starts s codestream_sig ≡ false
      → starts s container_sig ≡ false → signature_of s ≡ Neither
  unfolding signature_of
  is_neither a b d e = rw (a, b, d, e)

-- a container's signature is there; what is too short to tell has at most 12 bytes
abbrev Sized : Signature → ℕ → Type 0
Sized Bare n = Unit {0}
Sized Container n = 12 ≤ n
Sized TooShort n = n ≤ 12
Sized Neither n = Unit {0}

signature_sized : (s : List ℕ) → Sized (signature_of s) (length s)
signature_sized s =
    go (starts codestream_sig s) refl (starts container_sig s) refl (starts s codestream_sig) refl (starts s container_sig) refl
  where
    go : (t : Bool) → starts codestream_sig s ≡ t → (u : Bool) → starts container_sig s ≡ u
        → (v : Bool) → starts s codestream_sig ≡ v → (w : Bool) → starts s container_sig ≡ w → Sized (signature_of s) (length s)
    go true e u f v g w h = rw (is_bare s e) tt
    go false e true f v g w h = rw (is_container_lem s e f) (starts_length container_sig s f)
    go false e false f true g w h = rw (is_short_bare s e f g) (omega (arith, starts_length s codestream_sig g))
    go false e false f false g true h = rw (is_short_container s e f g h) (starts_length s container_sig h)
    go false e false f false g false h = rw (is_neither s e f g h) tt

pub signature_under : (s : List ℕ) → signature_of s ≡ TooShort → length s ≤ 12
signature_under s e = rw e at (signature_sized s)

pub signature_there : (s : List ℕ) → signature_of s ≡ Container → 12 ≤ length s
signature_there s e = rw e at (signature_sized s)
