-- What is proved of the end call, for every record, those that no file leads to as well. Each statement is a type, which proofs/Laws.antt
-- proves under the same name in small letters.
use Rattle.std.specs.Prelude.{◌≡◌, true, false, List, [], ◌∷◌, ℕ}
use Rattle.jxl_refusals.specs.declared.BoxRefusal.TheVariants as Rule
use Rattle.jxl_impossible.specs.Impossible.{impossible}
use Rattle.jxl_events.specs.declared.ParseEvent.{ParseEvent}
use Rattle.jxl_events.specs.declared.ParseEvent.TheVariants as E
use Rattle.jxl_events.specs.declared.FileEvent.{FileEvent}
use Rattle.jxl_totals.specs.Step.{kind_of, is_refused, step_of}
use Rattle.jxl_totals.specs.Step as Step
use Rattle.jxl_totals.specs.Naming.{closed, is_closed, numbered}
use Rattle.jxl_endings.specs.End.{Ended, done, refuses, stopped, end_of}
use Rattle.jxl_totals.specs.declared.ContainerParser.{ContainerParser}
use Rattle.jxl_totals.specs.declared.FileRefusal.{FileRefusal}

-- done closes: behind an end that is not refused every feed, an empty one too, is answered Closed, and every further end DONE with nothing
-- owed, whatever bytes it is made with
abbrev pub DoneCloses : Type 0
DoneCloses =
    (p q : ContainerParser) (u : List ℕ) (es : List FileEvent) → end_of p u ≡ done es q → (s : List ℕ)
    → (numbered (step_of q s) ≡ Step.refuses (closed q.total q.total) q 0) × (end_of q s ≡ done [] q)

-- an end that is refused stays so: every feed and every further end repeats its refusal
abbrev pub RefusedEndStays : Type 0
RefusedEndStays =
    (p q : ContainerParser) (u : List ℕ) (r : FileRefusal) → end_of p u ≡ refuses r q → (s : List ℕ)
    → (step_of q s ≡ Step.refuses r q 0) × (end_of q s ≡ refuses r q)

-- a parser that a step refused repeats that refusal, not DONE and not CutShort
abbrev pub EndRepeats : Type 0
EndRepeats =
    (p q : ContainerParser) (s u : List ℕ) (r : FileRefusal) (n : ℕ) → step_of p s ≡ Step.refuses r q n → is_closed r.rule ≡ false
    → end_of q u ≡ refuses r q

-- of a parser that is neither refused nor closed the only refusal is CutShort, with the total for its place
abbrev pub CutShortNames : Type 0
CutShortNames =
    (p q : ContainerParser) (u : List ℕ) (r : FileRefusal) → is_refused p ≡ false → end_of p u ≡ refuses r q
    → (r.rule ≡ Rule.CutShort) × (r.total ≡ p.total) × (r.place ≡ p.total)

-- at most one event, of those that can be owed, with the record's total; kind, total and header stay
abbrev pub Keeps : ContainerParser → ContainerParser → Type 0
Keeps p q = (kind_of q ≡ kind_of p) × (q.total ≡ p.total) × (q.header ≡ p.header)

-- AUX_END, an empty CODESTREAM, which shows nothing, or NO_MORE_AUX
pub data Owable : ParseEvent → Type 0 where
  side_ends : {t : ℕ} → Owable (E.AuxBoxEnd t)
  empty_code : Owable (E.Codestream 0 0)
  no_more : Owable E.NoMoreAuxBox

pub data Owed (total : ℕ) : List FileEvent → Type 0 where
  none : Owed total []
  one : {e : FileEvent} → Owable e.event → e.total ≡ total → Owed total (e ∷ [])

abbrev pub Kept : ContainerParser → Ended → Type 0
Kept p (done es q) = Owed p.total es × Keeps p q
Kept p (refuses r q) = Keeps p q

abbrev pub EndKeeps : Type 0
EndKeeps = (p : ContainerParser) (u : List ℕ) → Kept p (end_of p u)

-- a record that no file leads to is cut short, whatever is unread
abbrev pub ImpossibleIsCutShort : Type 0
ImpossibleIsCutShort =
    (p : ContainerParser) (u : List ℕ) → impossible p.boxes ≡ true
    → (r : FileRefusal) × (r.rule ≡ Rule.CutShort) × (end_of p u ≡ refuses r (stopped Rule.CutShort p))
