-- What a whole file lists: document 01, "Boxes", as a grammar of bytes; and what its end comes to: document 02, P4. It knows nothing of
-- steps, packets or a parser's state; with a step it shares the signature (`signature_of` of jxl_signatures), the header and the box types
-- (`header_of`, `Types` of jxl_headers), the reach of a payload (jxl_reach) and the names of the rules that can break (jxl_refusals).
-- Each definition is one thing in a file that stands at `at`, with the bytes `s` from there to the end; `c` are the codestream boxes so far,
-- with this one, and `next` lists the boxes that follow.
-- A choice of listings is an `elim`, which computes one branch alone; an `if` would compute both, and with them the boxes to the end twice.
use Rattle.std.specs.Prelude.{Bool, true, false, List, [], ◌∷◌, ℕ, zero, suc, ◌+◌, ◌%◌, ltb, leb, eqb, length, drop}
use Rattle.jxl_cuts.specs.Feeding.{Stop as Stops}
pub use Rattle.jxl_cuts.specs.Feeding.{want, refused}
use Rattle.jxl_headers.specs.Bytes.{if, be32}
use Rattle.jxl_signatures.specs.Signature.{signature_of}
use Rattle.jxl_reach.specs.Reach.{under, less, to_end}
use Rattle.jxl_headers.specs.Types.{jxlc, jxlp, brob, reserved}
use Rattle.jxl_headers.specs.Header.{Header, short, bad, box, header_of}
use Rattle.jxl_signatures.specs.declared.Signature.{Signature}
use Rattle.jxl_signatures.specs.declared.Signature.TheVariants as G
use Rattle.jxl_record.specs.declared.BitstreamKind.{BitstreamKind}
use Rattle.jxl_record.specs.declared.BitstreamKind.TheVariants as K
use Rattle.jxl_reach.specs.declared.BytesLeft.{BytesLeft}
use Rattle.jxl_reach.specs.declared.BytesLeft.TheVariants.{ToEnd, Bytes}
use Rattle.jxl_refusals.specs.declared.BoxRefusal.{BoxRefusal}
use Rattle.jxl_refusals.specs.declared.BoxRefusal.TheVariants.{SecondJxlc, JxlcAfterJxlp, JxlpTooSmall, JxlpAfterJxlc, JxlpAfterLast, WrongIndex, BrobTooSmall, ValidationFailed}
use Rattle.jxl_events.specs.declared.ParseEvent.{ParseEvent}
use Rattle.jxl_events.specs.declared.ParseEvent.TheVariants as E
use Rattle.jxl_grammar.specs.End.{Close, missing, nothing, owes}

-- how a listing stops: more bytes are wanted, or a refusal by the rule that broke
abbrev pub Stop : Type 0
Stop = Stops BoxRefusal

-- events with places in the file, the bytes consumed, the stop, and, where more is wanted, what an end there comes to
pub record ListingBy (Rule : Type 0) : Type 0 where
  pub events : List ParseEvent
  pub consumed : ℕ
  pub stop : Stops Rule
  pub close : Close

abbrev pub Listing : Type 0
Listing = ListingBy BoxRefusal

-- nothing more: all up to `at` is consumed, and more is wanted
abbrev pub wanted : Close → ℕ → Listing
wanted w at = record { events = []; consumed = at; stop = want; close = w }

-- or a rule broke: no end mends that
abbrev pub breaks : BoxRefusal → ℕ → Listing
breaks r at = record { events = []; consumed = at; stop = refused r; close = missing }

abbrev pub then : ParseEvent → Listing → Listing
then e l = record { events = e ∷ l.events; consumed = l.consumed; stop = l.stop; close = l.close }

-- the codestream boxes so far: none; one `jxlc`; `jxlp` boxes with indices up to i; a whole row of them
pub data Codestreams : Type 0 where
  none : Codestreams
  single : Codestreams
  up_to : ℕ → Codestreams
  whole : Codestreams

-- "a row of `jxlp` without its last one" is cut short, "ahead of any owed event"
abbrev pub unless_open : Codestreams → Close → Close
unless_open none w = w
unless_open single w = w
unless_open (up_to i) w = missing
unless_open whole w = w

-- what lists the boxes that follow, by the codestream boxes so far
abbrev pub Boxes : Type 0
Boxes = Codestreams → ℕ → List ℕ → Listing

-- CODESTREAM: all input that belongs to the box, of which a byte is there, or the byte behind it; a payload of 0 gives one empty CODESTREAM
abbrev pub coded : Codestreams → BytesLeft → ℕ → List ℕ → Boxes → Listing
coded c ToEnd at s next = then (E.Codestream at (length s)) (wanted (unless_open c nothing) (at + length s))
coded c (Bytes n) at s next =
    elim (leb n (length s)) [
      | true ↦ then (E.Codestream at n) (next c (at + n) (drop n s))
      | false ↦ then (E.Codestream at (length s)) (wanted missing (at + length s))
    ]

-- where a codestream has no byte: "NO_MORE_AUX alone for a codestream to the end", unless it is told; "an empty CODESTREAM of a bounded box"
-- that has a payload of 0; else bytes are missing
abbrev pub no_code : Bool → BytesLeft → ℕ → Close
no_code true ToEnd at = owes E.NoMoreAuxBox
no_code false ToEnd at = nothing
no_code tell (Bytes n) at = if (eqb n 0) (owes (E.Codestream at 0)) missing

-- a codestream payload; codestream to the end: NO_MORE_AUX first, and `tell` is true just for that
abbrev pub code : Codestreams → Bool → BytesLeft → ℕ → List ℕ → Boxes → Listing
code c tell l at [] next = wanted (unless_open c (no_code tell l at)) at
code c true l at (x ∷ s) next = then E.NoMoreAuxBox (coded c l at (x ∷ s) next)
code c false l at (x ∷ s) next = coded c l at (x ∷ s) next

-- the end of a side box is told once another byte is there, and is owed before
abbrev pub closed : Codestreams → ℕ → ℕ → List ℕ → Boxes → Listing
closed c t at [] next = wanted (unless_open c (owes (E.AuxBoxEnd t))) at
closed c t at (x ∷ s) next = then (E.AuxBoxEnd t) (next c at (x ∷ s))

-- where a side box has no byte: "AUX_END, also of a box to the end"; else bytes are missing
abbrev pub no_aux : ℕ → BytesLeft → Close
no_aux t ToEnd = owes (E.AuxBoxEnd t)
no_aux t (Bytes n) = if (eqb n 0) (owes (E.AuxBoxEnd t)) missing

-- a side box's payload; AUX_DATA is never empty
abbrev pub aux : Codestreams → ℕ → BytesLeft → ℕ → List ℕ → Boxes → Listing
aux c t l at [] next = wanted (unless_open c (no_aux t l)) at
aux c t ToEnd at (x ∷ s) next =
    then (E.AuxBoxData t at (length (x ∷ s))) (wanted (unless_open c (owes (E.AuxBoxEnd t))) (at + length (x ∷ s)))
aux c t (Bytes n) at (x ∷ s) next =
    elim (eqb n 0) [
      | true ↦ closed c t at (x ∷ s) next
      | false ↦ elim (leb n (length (x ∷ s))) [
        | true ↦ then (E.AuxBoxData t at n) (closed c t (at + n) (drop n (x ∷ s)) next)
        | false ↦ then (E.AuxBoxData t at (length (x ∷ s))) (wanted missing (at + length (x ∷ s)))
      ]
    ]

-- the row behind index i: bit 31 marks the last
abbrev pub row : Bool → ℕ → Codestreams
row true i = whole
row false i = up_to i

-- a `jxlp` payload whose index must be i: 4 bytes, bit 31 marks last, the other 31 are the index; another index is refused behind
-- them, with the one expected and the one found
abbrev pub indexed : ℕ → BytesLeft → ℕ → List ℕ → Boxes → Listing
indexed i l at s next =
    elim (ltb (length s) 4) [
      | true ↦ wanted missing at
      | false ↦ elim (eqb (be32 s 0 % 0x80000000) i) [
        | true ↦ code (row (leb 0x80000000 (be32 s 0)) i) (to_end l) (less l 4) (at + 4) (drop 4 s) next
        | false ↦ breaks (WrongIndex (be32 s 0 % 0x80000000) i) (at + 4)
      ]
    ]

-- a `brob` payload: 4 bytes of inner type; a reserved type is refused behind them
abbrev pub inner : Codestreams → BytesLeft → ℕ → List ℕ → Boxes → Listing
inner c l at s next =
    elim (ltb (length s) 4) [
      | true ↦ wanted missing at
      | false ↦ elim (reserved (be32 s 0)) [
        | true ↦ breaks ValidationFailed (at + 4)
        | false ↦ then (E.AuxBoxStart (be32 s 0) true (to_end l)) (aux c (be32 s 0) (less l 4) (at + 4) (drop 4 s) next)
      ]
    ]

-- a `jxlc` box: the only codestream box of its file
abbrev pub jxlc_box : Codestreams → BytesLeft → ℕ → List ℕ → Boxes → Listing
jxlc_box none l at s next = code single (to_end l) l at s next
jxlc_box single l at s next = breaks SecondJxlc at
jxlc_box (up_to i) l at s next = breaks JxlcAfterJxlp at
jxlc_box whole l at s next = breaks JxlcAfterJxlp at

-- a `jxlp` box: not after a `jxlc` or a last `jxlp`; the index counts up from 0
abbrev pub jxlp_box : Codestreams → BytesLeft → ℕ → List ℕ → Boxes → Listing
jxlp_box none l at s next = indexed 0 l at s next
jxlp_box single l at s next = breaks JxlpAfterJxlc at
jxlp_box (up_to i) l at s next = indexed (i + 1) l at s next
jxlp_box whole l at s next = breaks JxlpAfterLast at

-- a box of type t, behind its header; a `jxlp` or a `brob` of a payload under 4 is refused for that, also where it may not stand
abbrev pub boxed : Codestreams → ℕ → BytesLeft → ℕ → List ℕ → Boxes → Listing
boxed c t l at s next =
    elim (eqb t jxlc) [
      | true ↦ jxlc_box c l at s next
      | false ↦ elim (eqb t jxlp) [
        | true ↦ elim (under 4 l) [ true ↦ breaks JxlpTooSmall at | false ↦ jxlp_box c l at s next ]
        | false ↦ elim (eqb t brob) [
          | true ↦ elim (under 4 l) [ true ↦ breaks BrobTooSmall at | false ↦ inner c l at s next ]
          | false ↦ then (E.AuxBoxStart t false (to_end l)) (aux c t l at s next)
        ]
      ]
    ]

-- where a header would start a file may end, if no row is open; a part of a header is cut short
abbrev pub between_boxes : Codestreams → List ℕ → Close
between_boxes c [] = unless_open c nothing
between_boxes c (x ∷ s) = missing

-- a refusal in the header consumes nothing of it
abbrev pub headed : Header → Codestreams → ℕ → List ℕ → Boxes → Listing
headed short c at s next = wanted (between_boxes c s) at
headed (bad r) c at s next = breaks r at
headed (box t l n) c at s next = boxed c t l (at + n) (drop n s) next

-- boxes up to the end; each takes at least 8 bytes, so as many turns as bytes are more than enough
unfoldable pub boxes : ℕ → Boxes
boxes zero c at s = wanted (between_boxes c s) at
boxes (suc turns) c at s = headed (header_of s) c at s (boxes turns)

-- no boxes follow a codestream that has none around it
abbrev pub no_boxes : Boxes
no_boxes c at s = wanted missing at

-- a file with no boxes: NO_MORE_AUX, then all bytes as CODESTREAM, the first ones too
abbrev pub bare : Codestreams → BitstreamKind → ℕ → List ℕ → Listing
bare c k at s = then (E.BitstreamKind k) (code c true ToEnd at s no_boxes)

-- the signature, and what it announces; "an unknown kind" is cut short. The turns, the row and the place are `file`'s, named so that a law can enter the grammar anywhere
abbrev pub signed : Signature → ℕ → Codestreams → ℕ → List ℕ → Listing
signed G.Bare turns c at s = bare c K.BareCodestream at s
signed G.Container turns c at s = then (E.BitstreamKind K.Container) (boxes turns c (at + 12) (drop 12 s))
signed G.TooShort turns c at s = wanted missing at
signed G.Neither turns c at s = bare c K.Invalid at s

-- the whole file
unfoldable pub file : List ℕ → Listing
file s = signed (signature_of s) (length s) none 0 s
