-- One box header, which a step and the grammar share.
use Rattle.std.specs.Prelude.{List, ℕ, ◌-◌, ltb, eqb, length}
use Rattle.jxl_headers.specs.Bytes.{if, be32, be64}
use Rattle.jxl_refusals.specs.Refusals.{Why, why}
use Rattle.jxl_reach.specs.declared.BytesLeft.{BytesLeft}
use Rattle.jxl_reach.specs.declared.BytesLeft.TheVariants.{ToEnd, Bytes}
use Rattle.jxl_refusals.specs.declared.BoxRefusal.{BoxRefusal}
use Rattle.jxl_refusals.specs.declared.BoxRefusal.TheVariants.{ShortSize, ExtendedSize}
use Rattle.jxl_headers.specs.declared.box_header.HeaderParseResult.{HeaderParseResult}
use Rattle.jxl_headers.specs.declared.box_header.HeaderParseResult.TheVariants.{Done, NeedMoreData, Refused}

-- what the first bytes of a box say
pub data Header : Type 0 where
  -- more bytes are needed
  short : Header
  -- the rule that broke
  bad : BoxRefusal → Header
  -- the type, how far the payload reaches, and the header's own size
  box : ℕ → BytesLeft → ℕ → Header

-- size 1: WANT until 16 bytes are there; then a 64-bit size, under 16 is refused, else payload size - 16
unfoldable pub extended : List ℕ → Header
extended s =
    if (ltb (length s) 16) short
    (if (ltb (be64 s 8) 16) (bad ExtendedSize)
    (box (be32 s 4) (Bytes (be64 s 8 - 16)) 16))

-- under 8 bytes: WANT. 32-bit big-endian size, 4 type bytes. Size 0: to the end. 2 to 7: short, refused. 8 or more: payload is size - 8
unfoldable pub header_of : List ℕ → Header
header_of s =
    if (ltb (length s) 8) short
    (if (eqb (be32 s 0) 1) (extended s)
    (if (eqb (be32 s 0) 0) (box (be32 s 4) ToEnd 8)
    (if (ltb (be32 s 0) 8) (bad ShortSize)
    (box (be32 s 4) (Bytes (be32 s 0 - 8)) 8))))

-- a header in the paper's words, a refusal by its number and what it tells
pub data ToldHeader : Type 0 where
  wants : ToldHeader
  refuses : Why → ToldHeader
  reads : ℕ → BytesLeft → ℕ → ToldHeader

abbrev pub numbered : Header → ToldHeader
numbered short = wants
numbered (bad r) = refuses (why r)
numbered (box t l n) = reads t l n

-- what an answer of the code says in these words
abbrev pub told_header : HeaderParseResult → ToldHeader
told_header (Done h n) = reads h.ty h.box_size n
told_header NeedMoreData = wants
told_header (Refused r) = refuses (why r)
