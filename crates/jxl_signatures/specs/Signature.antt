-- The two signatures of ISO/IEC 18181, and which of them an input starts with.
use Rattle.std.specs.Prelude.{List, [], ◌∷◌, ℕ}
use Rattle.jxl_signatures.specs.Bytes.{if, or, starts}
use Rattle.jxl_signatures.specs.declared.Signature.{Signature}
use Rattle.jxl_signatures.specs.declared.Signature.TheVariants.{Bare, Container, TooShort, Neither}

abbrev pub codestream_sig : List ℕ
codestream_sig = 0xff ∷ 0x0a ∷ []

abbrev pub container_sig : List ℕ
container_sig = 0x00 ∷ 0x00 ∷ 0x00 ∷ 0x0c ∷ 0x4a ∷ 0x58 ∷ 0x4c ∷ 0x20 ∷ 0x0d ∷ 0x0a ∷ 0x87 ∷ 0x0a ∷ []

-- starts with FF 0A: bare; starts with the 12 bytes: container; a proper prefix of either: too short to tell; else neither
unfoldable pub signature_of : List ℕ → Signature
signature_of s =
    if (starts codestream_sig s) Bare
    (if (starts container_sig s) Container
    (if (or (starts s codestream_sig) (starts s container_sig)) TooShort Neither))
