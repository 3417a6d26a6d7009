-- One step of the parser that counts: document 02, P3. The rules on boxes (`step_of` of jxl_grammar) stay as they are and know nothing of it:
-- they are asked about the input that is there, and what they tell is counted.
use Rattle.std.specs.Prelude.{Bool, true, false, List, ℕ, ◌+◌, ◌-◌, ◌^◌, ltb, length, take}
use Rattle.jxl_cuts.specs.Machine.{Told as Answer}
pub use Rattle.jxl_cuts.specs.Machine.{shows, wants, refuses}
use Rattle.jxl_headers.specs.Bytes.{if, and}
use Rattle.jxl_refusals.specs.declared.BoxRefusal.{BoxRefusal}
use Rattle.jxl_refusals.specs.declared.BoxRefusal.TheVariants as Rule
use Rattle.jxl_record.specs.Record as Record
use Rattle.jxl_record.specs.declared.BitstreamKind.{BitstreamKind}
use Rattle.jxl_record.specs.declared.DetectState.{DetectState}
use Rattle.jxl_record.specs.declared.DetectState.TheVariants as S
use Rattle.jxl_record.specs.declared.BoxParser.{BoxParser}
use Rattle.jxl_events.specs.Total.{carrying}
use Rattle.jxl_events.specs.declared.FileEvent.{FileEvent}
use Rattle.jxl_grammar.specs.Step as Boxes
use Rattle.jxl_totals.specs.declared.ContainerParser.{ContainerParser}
use Rattle.jxl_totals.specs.declared.FileRefusal.{FileRefusal}

-- "Files are limited to 2^63 - 1 bytes"
abbrev pub limit : ℕ
limit = 2 ^ 63 - 1

-- a record of these three
abbrev pub counted : BoxParser → ℕ → ℕ → ContainerParser
counted boxes total header = record { boxes = boxes; total = total; header = header }

abbrev pub fresh : ContainerParser
fresh = counted Record.fresh 0 0

abbrev pub kind_of : ContainerParser → BitstreamKind
kind_of p = Record.kind_of p.boxes

abbrev pub is_refused : ContainerParser → Bool
is_refused p = Record.is_refused p.boxes

-- one step gives one event, with the total; WANT; or a refusal, with the total and its place; each with the next record and the bytes consumed
abbrev pub Told : Type 0
Told = Answer ContainerParser FileEvent FileRefusal

-- how many bytes the file may still have: none where the total is at the limit, or past it
abbrev pub room : ContainerParser → ℕ
room p = limit - p.total

-- "input beyond that place is treated as not there"
abbrev pub visible : ContainerParser → List ℕ → List ℕ
visible p s = take (room p) s

-- "more bytes lie beyond"
abbrev pub beyond : ContainerParser → List ℕ → Bool
beyond p s = ltb (room p) (length s)

-- in this state alone a step starts at a header
abbrev pub header_next : DetectState → Bool
header_next S.WaitingSignature = false
header_next S.WaitingBoxHeader = true
header_next (S.WaitingJxlpIndex l) = false
header_next (S.WaitingInnerType l) = false
header_next (S.InAuxBox t l) = false
header_next (S.InCodestream k l pending) = false
header_next (S.Refused k r) = false

abbrev pub at_header : BoxParser → Bool
at_header p = header_next p.state

-- the newest header: the one that starts at the total, where a step starts there and consumes or refuses it; else the one before
abbrev pub newest : Bool → ContainerParser → ℕ
newest read p = if (and (at_header p.boxes) read) p.total p.header

-- the record behind n bytes, of which, if the step started at a header, the first are that header
abbrev pub behind : ContainerParser → BoxParser → ℕ → ContainerParser
behind p q n = counted q (p.total + n) (newest (ltb 0 n) p)

-- whether a refusal concerns a header: "with none (StreamLimit too, and P4's CutShort)" are these, a record that no file leads to, and a
-- closed one
abbrev pub of_header : BoxRefusal → Bool
of_header Rule.ShortSize = true
of_header Rule.ExtendedSize = true
of_header Rule.SecondJxlc = true
of_header Rule.JxlcAfterJxlp = true
of_header Rule.JxlpTooSmall = true
of_header Rule.JxlpAfterJxlc = true
of_header Rule.JxlpAfterLast = true
of_header (Rule.WrongIndex found expected) = true
of_header Rule.BrobTooSmall = true
of_header Rule.ImpossibleRecord = false
of_header Rule.ValidationFailed = true
of_header Rule.StreamLimit = false
of_header Rule.CutShort = false
of_header Rule.Closed = false

-- a refusal by the refused record: it carries the total, and "names the first byte of the header it concerns, or, with none, the total"
abbrev pub refusal_of : BoxRefusal → ContainerParser → FileRefusal
refusal_of r q = record { rule = r; total = q.total; place = if (of_header r) q.header q.total }

abbrev pub refusing : BoxRefusal → ContainerParser → ℕ → Told
refusing r q n = refuses (refusal_of r q) q n

-- a refusal of the rules on boxes: a header that was refused is the newest, though nothing of it may be consumed
abbrev pub refused : ContainerParser → BoxParser → ℕ → ContainerParser
refused p q n = counted q (p.total + n) (newest true p)

-- where more is wanted although bytes lie beyond: "StreamLimit is given with the bytes that WANT would have consumed, and stays"
abbrev pub wanting : Bool → ContainerParser → BoxParser → ℕ → Told
wanting true p q n = refusing Rule.StreamLimit (behind p (Boxes.refused Rule.StreamLimit q) n) n
wanting false p q n = wants (behind p q n) n

-- what the rules on boxes tell, counted
abbrev pub counting : Bool → ContainerParser → Boxes.Told → Told
counting more p (shows e q n) = shows (carrying e (p.total + n)) (behind p q n) n
counting more p (wants q n) = wanting more p q n
counting more p (refuses r q n) = refusing r (refused p q n) n

-- one step: the rules on boxes, on the input that is there. So a refused parser repeats its refusal, past the limit too; at the limit, or
-- past it, no input is there, and StreamLimit goes before a record that no file leads to, which is refused only with input there. With a
-- byte before the limit that record goes first
unfoldable pub step_of : ContainerParser → List ℕ → Told
step_of p s = counting (beyond p s) p (Boxes.step_of p.boxes (visible p s))
