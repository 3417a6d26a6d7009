-- Where things stand in a file, told by its bytes alone: where its boxes start, when each event is given, and the header that a refusal concerns.
use Rattle.std.specs.Prelude.{◌≡◌, Bool, true, false, ◌⊎◌, List, ℕ, ◌+◌, drop}
use Rattle.jxl_headers.specs.Bytes.{starts, be32}
use Rattle.jxl_headers.specs.Header.{bad, box, header_of}
use Rattle.jxl_headers.specs.Types.{jxlc, jxlp, brob}
use Rattle.jxl_signatures.specs.Signature.{container_sig}
use Rattle.jxl_reach.specs.Reach.{to_end}
use Rattle.jxl_reach.specs.declared.BytesLeft.{BytesLeft}
use Rattle.jxl_reach.specs.declared.BytesLeft.TheVariants.{ToEnd, Bytes}
use Rattle.jxl_refusals.specs.declared.BoxRefusal.{BoxRefusal}
use Rattle.jxl_refusals.specs.declared.BoxRefusal.TheVariants as Rule
use Rattle.jxl_record.specs.declared.BitstreamKind.{BitstreamKind}
use Rattle.jxl_record.specs.declared.BitstreamKind.TheVariants as K
use Rattle.jxl_events.specs.declared.ParseEvent.{ParseEvent}
use Rattle.jxl_events.specs.declared.ParseEvent.TheVariants as E
use Rattle.jxl_events.specs.declared.FileEvent.{FileEvent}
use Rattle.jxl_totals.specs.declared.FileRefusal.{FileRefusal}

-- where boxes start in a file, or would: behind the container's signature, and behind each box that has an end
pub data Starts (s : List ℕ) : ℕ → Type 0 where
  first : starts container_sig s ≡ true → Starts s 12
  next : {h t m n : ℕ} → Starts s h → header_of (drop h s) ≡ box t (Bytes m) n → Starts s (h + n + m)

-- a box of type t and reach l, whose header starts at h and has n bytes
abbrev pub Box : List ℕ → ℕ → BytesLeft → ℕ → ℕ → Type 0
Box s t l h n = Starts s h × (header_of (drop h s) ≡ box t l n)

-- all is consumed up to the end of the header of such a box; or up to the end of the index or the inner type behind it
abbrev pub BehindHeader : List ℕ → ℕ → BytesLeft → ℕ → Type 0
BehindHeader s t l total = (h : ℕ) × (n : ℕ) × Box s t l h n × (total ≡ h + n)

abbrev pub BehindFour : List ℕ → ℕ → BytesLeft → ℕ → Type 0
BehindFour s t l total = (h : ℕ) × (n : ℕ) × Box s t l h n × (total ≡ h + n + 4)

-- what is consumed when KIND is told
abbrev pub signature_size : BitstreamKind → ℕ
signature_size K.Unknown = 0
signature_size K.BareCodestream = 0
signature_size K.Container = 12
signature_size K.Invalid = 0

-- a side box is told behind its header; a compressed one behind its inner type, which it tells
abbrev pub Told : List ℕ → ℕ → Bool → Bool → ℕ → Type 0
Told s t false e total = (l : BytesLeft) × BehindHeader s t l total × (e ≡ to_end l)
Told s t true e total = (l : BytesLeft) × (h : ℕ) × (n : ℕ) × Box s brob l h n × (total ≡ h + n + 4) × (be32 (drop (h + n) s) 0 ≡ t) × (e ≡ to_end l)

-- when an event is given: how much of the file is consumed then
abbrev pub GivenAt : List ℕ → ℕ → ParseEvent → Type 0
GivenAt s total (E.BitstreamKind k) = total ≡ signature_size k
-- a codestream to the end: all of a file that has no boxes; a `jxlc`; or a `jxlp`, behind its index
GivenAt s total E.NoMoreAuxBox = (total ≡ 0) ⊎ (BehindHeader s jxlc ToEnd total ⊎ BehindFour s jxlp ToEnd total)
GivenAt s total (E.Codestream a n) = a + n ≡ total
GivenAt s total (E.AuxBoxStart t b e) = Told s t b e total
GivenAt s total (E.AuxBoxData t a n) = a + n ≡ total
-- the next box starts where a side box ends
GivenAt s total (E.AuxBoxEnd t) = Starts s total

abbrev pub Given : List ℕ → FileEvent → Type 0
Given s e = GivenAt s e.total e.event

-- where a rule is broken: in a header itself; behind the header of a box of such a type; behind its index or inner type; or in no header
pub data Broken : Type 0 where
  in_header : Broken
  behind_header : ℕ → Broken
  behind_four : ℕ → Broken
  in_none : Broken

abbrev pub broken : BoxRefusal → Broken
broken Rule.ShortSize = in_header
broken Rule.ExtendedSize = in_header
broken Rule.SecondJxlc = behind_header jxlc
broken Rule.JxlcAfterJxlp = behind_header jxlc
broken Rule.JxlpTooSmall = behind_header jxlp
broken Rule.JxlpAfterJxlc = behind_header jxlp
broken Rule.JxlpAfterLast = behind_header jxlp
broken (Rule.WrongIndex found expected) = behind_four jxlp
broken Rule.BrobTooSmall = behind_header brob
broken Rule.ImpossibleRecord = in_none
broken Rule.ValidationFailed = behind_four brob
broken Rule.StreamLimit = in_none
broken Rule.CutShort = in_none
broken Rule.Closed = in_none

-- the place that a refusal names: the first byte of the header that it concerns, where a box starts; or, with none, the total
abbrev pub NamedIn : Broken → List ℕ → FileRefusal → Type 0
NamedIn in_header s r = Starts s r.place × (header_of (drop r.place s) ≡ bad r.rule) × (r.total ≡ r.place)
NamedIn (behind_header t) s r = (l : BytesLeft) × (n : ℕ) × Box s t l r.place n × (r.total ≡ r.place + n)
NamedIn (behind_four t) s r = (l : BytesLeft) × (n : ℕ) × Box s t l r.place n × (r.total ≡ r.place + n + 4)
NamedIn in_none s r = r.place ≡ r.total

abbrev pub Names : List ℕ → FileRefusal → Type 0
Names s r = NamedIn (broken r.rule) s r
