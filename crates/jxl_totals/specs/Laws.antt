-- What is proved of every step of the parser that counts. Each statement is a type, which proofs/ proves under the same name in small letters
-- (`ParserIsLawful` as `lawful`).
use Rattle.std.specs.Prelude.{◌≡◌, true, false, List, [], ◌∷◌, ℕ, ◌+◌, ◌<◌, ◌≤◌, length}
use Rattle.jxl_base.specs.OneAnswer.{OneAnswer}
use Rattle.jxl_cuts.specs.Lawful.{Lawful, Kept}
use Rattle.jxl_refusals.specs.declared.BoxRefusal.{BoxRefusal}
use Rattle.jxl_refusals.specs.declared.BoxRefusal.TheVariants.{ImpossibleRecord, StreamLimit}
use Rattle.jxl_record.specs.Record.{at}
use Rattle.jxl_impossible.specs.Impossible.{impossible}
use Rattle.jxl_record.specs.declared.BitstreamKind.{BitstreamKind}
use Rattle.jxl_record.specs.declared.JxlpIndexState.{JxlpIndexState}
use Rattle.jxl_record.specs.declared.DetectState.TheVariants as S
use Rattle.jxl_events.specs.Total.{EndsAt}
use Rattle.jxl_grammar.specs.Step as Boxes
use Rattle.jxl_totals.specs.Step.{Told, shows, wants, refuses, limit, counted, fresh, kind_of, is_refused, room, newest, refusal_of, step_of}
use Rattle.jxl_totals.specs.Naming.{said, numbered}
use Rattle.jxl_totals.specs.Parser.{parser}
use Rattle.jxl_totals.specs.declared.ContainerParser.{ContainerParser}

-- the parser that counts keeps the laws of jxl_cuts: so every cut, the bounds and the payloads follow
abbrev pub ParserIsLawful : Type 0
ParserIsLawful = Lawful parser

-- every step: it consumes no more than is there; a payload shown lies inside the input; on WANT at most 15 bytes are left; a refusal leaves a
-- parser that repeats it, with its total and place
abbrev pub EveryStep : Type 0
EveryStep = (p : ContainerParser) (s : List ℕ) → Kept parser (length s) (step_of p s)

-- refused stays: a refused parser answers its very refusal, values, total and place too, consumes nothing and is unchanged
abbrev pub RefusedStays : Type 0
RefusedStays =
    (k : BitstreamKind) (r : BoxRefusal) (j : JxlpIndexState) (total header : ℕ) (s : List ℕ) →
    let p = counted (at (S.Refused k r) j) total header in
    numbered (step_of p s) ≡ refuses (said (refusal_of r p)) p 0

-- what a step consumes is within the limit and is added to the record's total, which the answer carries; a payload is the last of it
abbrev pub Counts : ContainerParser → Told → Type 0
Counts p (shows e q c) = (q.total ≡ p.total + c) × (e.total ≡ q.total) × (c ≤ room p) × EndsAt c e.event
Counts p (wants q c) = (q.total ≡ p.total + c) × (c ≤ room p)
Counts p (refuses r q c) = (q.total ≡ p.total + c) × (r.total ≡ q.total) × (c ≤ room p)

abbrev pub StepCounts : Type 0
StepCounts = (p : ContainerParser) (s : List ℕ) → Counts p (step_of p s)

-- which goes first. An empty feed wants more and changes nothing, of any record that is not refused
abbrev pub EmptyFeed : Type 0
EmptyFeed = (p : ContainerParser) → is_refused p ≡ false → step_of p [] ≡ wants p 0

-- at the limit or past it, StreamLimit to any byte, of a record that no file leads to as well
abbrev pub AtTheLimit : Type 0
AtTheLimit =
    (p : ContainerParser) (x : ℕ) (s : List ℕ) → is_refused p ≡ false → limit ≤ p.total →
    let q = counted (Boxes.refused StreamLimit p.boxes) p.total p.header in
    step_of p (x ∷ s) ≡ refuses (refusal_of StreamLimit q) q 0

-- before it, a record that no file leads to is refused for that, bytes beyond or not, with the total for its place
abbrev pub BeforeTheLimit : Type 0
BeforeTheLimit =
    (p : ContainerParser) (x : ℕ) (s : List ℕ) → impossible p.boxes ≡ true → p.total < limit →
    let q = counted (Boxes.refused ImpossibleRecord p.boxes) p.total (newest true p) in
    (step_of p (x ∷ s) ≡ refuses (refusal_of ImpossibleRecord q) q 0) × ((refusal_of ImpossibleRecord q).place ≡ p.total)

-- one answer: each promise determines what its function gives
abbrev pub OneParser : Type 0
OneParser = OneAnswer (λ r. r ≡ fresh)

abbrev pub OneKind : Type 0
OneKind = (p : ContainerParser) → OneAnswer (λ r. r ≡ kind_of p)

abbrev pub OneStopped : Type 0
OneStopped = (p : ContainerParser) (w : BoxRefusal) → OneAnswer (λ r. r ≡ counted (Boxes.refused w p.boxes) p.total p.header)
