-- The side boxes that lie in a file, by its headers alone.
use Rattle.std.specs.Prelude.{Bool, true, false, List, [], ◌∷◌, ◌++◌, ℕ, zero, suc, eqb, length, take, drop}
use Rattle.jxl_headers.specs.Bytes.{if, or, be32}
use Rattle.jxl_headers.specs.Header.{Header, short, bad, box, header_of}
use Rattle.jxl_headers.specs.Types.{jxlc, jxlp, brob}
use Rattle.jxl_signatures.specs.Signature.{signature_of}
use Rattle.jxl_signatures.specs.declared.Signature.{Signature}
use Rattle.jxl_signatures.specs.declared.Signature.TheVariants as G
use Rattle.jxl_reach.specs.declared.BytesLeft.{BytesLeft}
use Rattle.jxl_reach.specs.declared.BytesLeft.TheVariants.{ToEnd, Bytes}

-- a side box: its type, of a `brob` the one inside; whether it is a `brob`; its bytes, of a `brob` those behind the inner type
pub record Side : Type 0 where
  pub type : ℕ
  pub packed : Bool
  pub bytes : List ℕ

abbrev pub side : ℕ → Bool → List ℕ → Side
side t b bs = record { type = t; packed = b; bytes = bs }

-- of the bytes behind a header, those of the payload, and those behind it
abbrev pub payload : BytesLeft → List ℕ → List ℕ
payload ToEnd s = s
payload (Bytes n) s = take n s

abbrev pub behind : BytesLeft → List ℕ → List ℕ
behind ToEnd s = []
behind (Bytes n) s = drop n s

-- a box of type t with this payload: every type but `jxlc` and `jxlp` is a side box
abbrev pub side_box : ℕ → List ℕ → List Side
side_box t bs =
    if (or (eqb t jxlc) (eqb t jxlp)) []
    (if (eqb t brob) (side (be32 bs 0) true (drop 4 bs) ∷ [])
    (side t false bs ∷ []))

abbrev pub sides_behind : Header → List ℕ → (List ℕ → List Side) → List Side
sides_behind short s next = []
sides_behind (bad r) s next = []
sides_behind (box t l n) s next = side_box t (payload l (drop n s)) ++ next (behind l (drop n s))

-- box after box; each takes at least 8 bytes, so as many turns as bytes are more than enough
unfoldable pub sides_from : ℕ → List ℕ → List Side
sides_from zero s = []
sides_from (suc turns) s = sides_behind (header_of s) s (sides_from turns)

abbrev pub sides_by : Signature → List ℕ → List Side
sides_by G.Bare s = []
sides_by G.Container s = sides_from (length s) (drop 12 s)
sides_by G.TooShort s = []
sides_by G.Neither s = []

-- the side boxes of a file, in order
abbrev pub sides_of : List ℕ → List Side
sides_of s = sides_by (signature_of s) s
