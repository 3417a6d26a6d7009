-- The starred worked pieces of document 01, boxes and fields, and the smallest file of each rule that document 02, P2, tells apart: one table
-- under one statement about the definitions, computed once.
use Rattle.std.specs.Prelude.{◌≡◌, refl, true, false, List, [], ◌∷◌, ◌++◌, ℕ, ◌-◌, ◌^◌}
use Rattle.std.specs.Float.{binary32}
use Rattle.std.specs.Float.Ieee.{of_bits}
use Rattle.jxl_cuts.specs.Feeding.{Stop}
use Rattle.jxl_refusals.specs.Refusals.{Why, refusal, why}
use Rattle.jxl_signatures.specs.Signature.{signature_of, container_sig}
use Rattle.jxl_headers.specs.Header.{header_of, extended}
use Rattle.jxl_record.specs.declared.BitstreamKind.TheVariants as K
use Rattle.jxl_events.specs.declared.ParseEvent.{ParseEvent}
use Rattle.jxl_events.specs.declared.ParseEvent.TheVariants as E
use Rattle.jxl_grammar.specs.Grammar.{ListingBy, want, refused, file, boxes}
use Rattle.jxl_grammar.specs.End.{Close, missing, owes, nothing}
use Rattle.jxl_grammar.specs.Naming.{file_by}
use Rattle.jxl_bit_rules.specs.Answer.{gives}
use Rattle.jxl_bit_rules.specs.Bits.{number, bits}
use Rattle.jxl_bit_rules.specs.Readers.{begin, part}
use Rattle.jxl_field_rules.specs.Fields.{select, any_wide, chunks, half, u32, u64, f16}
use Rattle.jxl_half.specs.Half.{units, magnitude, pattern}
use Rattle.jxl_field_rules.specs.declared.U32Specifier.{U32Specifier}
use Rattle.jxl_field_rules.specs.declared.U32Specifier.TheVariants.{Constant, BitsOffset}

-- a box header: a size under 256, and a type
abbrev pub header : ℕ → List ℕ → List ℕ
header size type = 0 ∷ 0 ∷ 0 ∷ size ∷ type

abbrev pub jxlc : List ℕ
jxlc = 0x6a ∷ 0x78 ∷ 0x6c ∷ 0x63 ∷ []

abbrev pub jxlp : List ℕ
jxlp = 0x6a ∷ 0x78 ∷ 0x6c ∷ 0x70 ∷ []

abbrev pub brob : List ℕ
brob = 0x62 ∷ 0x72 ∷ 0x6f ∷ 0x62 ∷ []

abbrev pub exif : List ℕ
exif = 0x45 ∷ 0x78 ∷ 0x69 ∷ 0x66 ∷ []

abbrev pub exif_type : ℕ
exif_type = 0x45786966

-- a container: S, and what follows it
abbrev pub S : List ℕ → List ℕ
S s = container_sig ++ s

-- a rule that broke
abbrev pub says : List ParseEvent → ℕ → Stop Why → ListingBy Why
says es n w = record { events = es; consumed = n; stop = w; close = missing }

-- more is wanted, and what an end then comes to
abbrev pub wants : List ParseEvent → ℕ → Close → ListingBy Why
wants es n c = record { events = es; consumed = n; stop = want; close = c }

pub data Piece : Type 0 where
  -- a file and its listing, a refusal by its number and values
  lists : List ℕ → ListingBy Why → Piece
  -- bytes, the four choices, the value, and the position then
  reads_u32 : List ℕ → List U32Specifier → ℕ → ℕ → Piece
  reads_u64 : List ℕ → ℕ → ℕ → Piece
  -- bytes, and the bits of the f32
  reads_f16 : List ℕ → ℕ → Piece

abbrev pub Holds : List Piece → Type 0
Holds [] = Unit {0}
Holds (lists s l ∷ ps) = (file_by why s ≡ l) × Holds ps
Holds (reads_u32 s d v at ∷ ps) = (u32 d s 0 ≡ gives v at) × Holds ps
Holds (reads_u64 s v at ∷ ps) = (u64 s 0 ≡ gives v at) × Holds ps
Holds (reads_f16 s b ∷ ps) = (f16 s 0 ≡ gives (of_bits binary32 b) 16) × Holds ps

abbrev pub table : List Piece
table =
    -- empty: WANT. FF: WANT, 0 consumed
    lists [] (wants [] 0 missing)
    ∷ lists (0xff ∷ []) (wants [] 0 missing)
    -- FF 0A: KIND bare, NO_MORE_AUX, CODESTREAM of 2 bytes
    ∷ lists (0xff ∷ 0x0a ∷ []) (wants (E.BitstreamKind K.BareCodestream ∷ E.NoMoreAuxBox ∷ E.Codestream 0 2 ∷ []) 2 nothing)
    -- 01: KIND invalid, NO_MORE_AUX, CODESTREAM of 1 byte
    ∷ lists (0x01 ∷ []) (wants (E.BitstreamKind K.Invalid ∷ E.NoMoreAuxBox ∷ E.Codestream 0 1 ∷ []) 1 nothing)
    -- S, 00 00 00 08 jxlc: KIND only, 20 consumed. One 00 more: an empty CODESTREAM, then WANT with 1 unread
    ∷ lists (S (header 8 jxlc)) (wants (E.BitstreamKind K.Container ∷ []) 20 (owes (E.Codestream 20 0)))
    ∷ lists (S (header 8 jxlc ++ (0 ∷ []))) (wants (E.BitstreamKind K.Container ∷ E.Codestream 20 0 ∷ []) 20 missing)
    -- S, 00 00 00 07 Exif: short size, 12 consumed. Size 8: AUX_START
    ∷ lists (S (header 7 exif)) (says (E.BitstreamKind K.Container ∷ []) 12 (refused (refusal 10 [])))
    ∷ lists (S (header 8 exif)) (wants (E.BitstreamKind K.Container ∷ E.AuxBoxStart exif_type false false ∷ []) 20 (owes (E.AuxBoxEnd exif_type)))
    -- extended size 15: refused once its 16 bytes are there, none of them consumed
    ∷ lists (S (header 1 exif ++ (0 ∷ 0 ∷ 0 ∷ 0 ∷ 0 ∷ 0 ∷ 0 ∷ 15 ∷ []))) (says (E.BitstreamKind K.Container ∷ []) 12 (refused (refusal 11 [])))
    -- jxlc of size 8, jxlc: the second one, behind its header
    ∷ lists (S (header 8 jxlc ++ header 8 jxlc)) (says (E.BitstreamKind K.Container ∷ E.Codestream 20 0 ∷ []) 28 (refused (refusal 12 [])))
    -- jxlp of size 12 with index 0, jxlc
    ∷ lists (S (header 12 jxlp ++ (0 ∷ 0 ∷ 0 ∷ 0 ∷ header 8 jxlc))) (says (E.BitstreamKind K.Container ∷ E.Codestream 24 0 ∷ []) 32 (refused (refusal 13 [])))
    -- S, jxlp of size 11: too small, 20 consumed; also where it may not stand, after a jxlc or the last jxlp
    ∷ lists (S (header 11 jxlp)) (says (E.BitstreamKind K.Container ∷ []) 20 (refused (refusal 14 [])))
    ∷ lists (S (header 8 jxlc ++ header 11 jxlp)) (says (E.BitstreamKind K.Container ∷ E.Codestream 20 0 ∷ []) 28 (refused (refusal 14 [])))
    ∷ lists (S (header 12 jxlp ++ (0x80 ∷ 0 ∷ 0 ∷ 0 ∷ header 11 jxlp))) (says (E.BitstreamKind K.Container ∷ E.Codestream 24 0 ∷ []) 32 (refused (refusal 14 [])))
    -- jxlc of size 8, jxlp
    ∷ lists (S (header 8 jxlc ++ header 12 jxlp)) (says (E.BitstreamKind K.Container ∷ E.Codestream 20 0 ∷ []) 28 (refused (refusal 15 [])))
    -- index 80 00 00 00: accepted, last; a jxlp behind it is refused
    ∷ lists (S (header 12 jxlp ++ (0x80 ∷ 0 ∷ 0 ∷ 0 ∷ []))) (wants (E.BitstreamKind K.Container ∷ []) 24 (owes (E.Codestream 24 0)))
    ∷ lists (S (header 12 jxlp ++ (0x80 ∷ 0 ∷ 0 ∷ 0 ∷ header 12 jxlp))) (says (E.BitstreamKind K.Container ∷ E.Codestream 24 0 ∷ []) 32 (refused (refusal 16 [])))
    -- size 12, first index 1: refused, 24 consumed, 0 expected and 1 found. The last bit does not count as found
    ∷ lists (S (header 12 jxlp ++ (0 ∷ 0 ∷ 0 ∷ 1 ∷ []))) (says (E.BitstreamKind K.Container ∷ []) 24 (refused (refusal 17 (0 ∷ 1 ∷ []))))
    ∷ lists (S (header 12 jxlp ++ (0 ∷ 0 ∷ 0 ∷ 0 ∷ header 12 jxlp ++ (0x80 ∷ 0 ∷ 0 ∷ 3 ∷ [])))) (says (E.BitstreamKind K.Container ∷ E.Codestream 24 0 ∷ []) 36 (refused (refusal 17 (1 ∷ 3 ∷ []))))
    -- brob of size 11: too small. Of size 12 with jxlc inside: refusal 2, 24 consumed. With Exif: AUX_START
    ∷ lists (S (header 11 brob)) (says (E.BitstreamKind K.Container ∷ []) 20 (refused (refusal 18 [])))
    ∷ lists (S (header 12 brob ++ jxlc)) (says (E.BitstreamKind K.Container ∷ []) 24 (refused (refusal 2 [])))
    ∷ lists (S (header 12 brob ++ exif)) (wants (E.BitstreamKind K.Container ∷ E.AuxBoxStart exif_type true false ∷ []) 24 (owes (E.AuxBoxEnd exif_type)))
    -- THE END. S alone: nothing is owed. A header of which 7 bytes are there: missing
    ∷ lists (S []) (wants (E.BitstreamKind K.Container ∷ []) 12 nothing)
    ∷ lists (S (0 ∷ 0 ∷ 0 ∷ 8 ∷ 0x45 ∷ 0x78 ∷ 0x69 ∷ [])) (wants (E.BitstreamKind K.Container ∷ []) 12 missing)
    -- Exif of size 9: whole, AUX_END is owed; its byte missing. To the end, with a byte and with none: AUX_END is owed
    ∷ lists (S (header 9 exif ++ (7 ∷ []))) (wants (E.BitstreamKind K.Container ∷ E.AuxBoxStart exif_type false false ∷ E.AuxBoxData exif_type 20 1 ∷ []) 21 (owes (E.AuxBoxEnd exif_type)))
    ∷ lists (S (header 9 exif)) (wants (E.BitstreamKind K.Container ∷ E.AuxBoxStart exif_type false false ∷ []) 20 missing)
    ∷ lists (S (header 0 exif ++ (7 ∷ []))) (wants (E.BitstreamKind K.Container ∷ E.AuxBoxStart exif_type false true ∷ E.AuxBoxData exif_type 20 1 ∷ []) 21 (owes (E.AuxBoxEnd exif_type)))
    ∷ lists (S (header 0 exif)) (wants (E.BitstreamKind K.Container ∷ E.AuxBoxStart exif_type false true ∷ []) 20 (owes (E.AuxBoxEnd exif_type)))
    -- jxlc to the end with no byte: NO_MORE_AUX alone; with one: nothing. Of size 9 with its byte: nothing; without it: missing
    ∷ lists (S (header 0 jxlc)) (wants (E.BitstreamKind K.Container ∷ []) 20 (owes E.NoMoreAuxBox))
    ∷ lists (S (header 0 jxlc ++ (7 ∷ []))) (wants (E.BitstreamKind K.Container ∷ E.NoMoreAuxBox ∷ E.Codestream 20 1 ∷ []) 21 nothing)
    ∷ lists (S (header 9 jxlc ++ (7 ∷ []))) (wants (E.BitstreamKind K.Container ∷ E.Codestream 20 1 ∷ []) 21 nothing)
    ∷ lists (S (header 9 jxlc)) (wants (E.BitstreamKind K.Container ∷ []) 20 missing)
    -- a row of jxlp without its last one: missing, ahead of the empty CODESTREAM, also to the end, and ahead of a side box's AUX_END
    ∷ lists (S (header 12 jxlp ++ (0 ∷ 0 ∷ 0 ∷ 0 ∷ []))) (wants (E.BitstreamKind K.Container ∷ []) 24 missing)
    ∷ lists (S (header 0 jxlp ++ (0 ∷ 0 ∷ 0 ∷ 0 ∷ 7 ∷ []))) (wants (E.BitstreamKind K.Container ∷ E.NoMoreAuxBox ∷ E.Codestream 24 1 ∷ []) 25 missing)
    ∷ lists (S (header 12 jxlp ++ (0 ∷ 0 ∷ 0 ∷ 0 ∷ header 8 exif))) (wants (E.BitstreamKind K.Container ∷ E.Codestream 24 0 ∷ E.AuxBoxStart exif_type false false ∷ []) 32 missing)
    -- an index of which 3 bytes are there, an inner type with none: missing
    ∷ lists (S (header 12 jxlp ++ (0x80 ∷ 0 ∷ 0 ∷ []))) (wants (E.BitstreamKind K.Container ∷ []) 20 missing)
    ∷ lists (S (header 12 brob)) (wants (E.BitstreamKind K.Container ∷ []) 20 missing)
    -- byte 32 hex, U32 of 1, 2 bits, 3 + 4 bits, 19 + 8 bits: 15
    ∷ reads_u32 (0x32 ∷ []) (Constant 1 ∷ BitsOffset 0 2 ∷ BitsOffset 3 4 ∷ BitsOffset 19 8 ∷ []) 15 6
    -- ten bytes FF, U64: 2^64 - 1 after 73 bits
    ∷ reads_u64 (0xff ∷ 0xff ∷ 0xff ∷ 0xff ∷ 0xff ∷ 0xff ∷ 0xff ∷ 0xff ∷ 0xff ∷ 0xff ∷ []) (2 ^ 64 - 1) 73
    -- F16 3C00: f32 bits 3F800000. 7BFF: 477FE000
    ∷ reads_f16 (0x00 ∷ 0x3c ∷ []) 0x3f800000
    ∷ reads_f16 (0xff ∷ 0x7b ∷ []) 0x477fe000
    ∷ []

pub starred : Holds table
unfolding file boxes signature_of header_of extended u32 u64 f16 begin part select any_wide chunks half number bits units magnitude pattern
starred =
    (refl, (refl, (refl, (refl, (refl, (refl, (refl, (refl, (refl, (refl, (refl, (refl, (refl, (refl, (refl, (refl, (refl, (refl, (refl, (refl, (refl, (refl, (refl, (refl, (refl, (refl, (refl, (refl, (refl, (refl, (refl, (refl, (refl, (refl, (refl, (refl, (refl, (refl, (refl, (refl, (refl, tt)))))))))))))))))))))))))))))))))))))))))
