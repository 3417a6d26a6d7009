-- The box types with rules of their own, as one number: the four bytes, the first the highest.
use Rattle.std.specs.Prelude.{Bool, ℕ, ◌/◌, eqb}
use Rattle.jxl_headers.specs.Bytes.{or}

abbrev pub jxlc : ℕ
jxlc = 0x6a786c63

abbrev pub jxlp : ℕ
jxlp = 0x6a786c70

abbrev pub brob : ℕ
brob = 0x62726f62

abbrev pub jbrd : ℕ
jbrd = 0x6a627264

-- an inner type starting `jxl`, or `brob`, or `jbrd`
abbrev pub reserved : ℕ → Bool
reserved t = or (eqb (t / 256) 0x6a786c) (or (eqb t brob) (eqb t jbrd))
