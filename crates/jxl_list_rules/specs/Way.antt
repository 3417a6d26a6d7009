-- The short way through a turn: an input inside the codestream part held only makes that part longer.
use Rattle.std.specs.Prelude.{Option, None, Some, ◌≡◌, false, List, ℕ, ◌+◌, ◌-◌, eqb, leb, length}
use Rattle.jxl_events.specs.declared.FileEvent.{FileEvent}
use Rattle.jxl_headers.specs.Bytes.{if, and}
use Rattle.jxl_reach.specs.Reach.{under, less}
use Rattle.jxl_grammar.specs.Step.{in_code}
use Rattle.jxl_impossible.specs.Impossible.{over_index}
use Rattle.jxl_record.specs.declared.DetectState.{DetectState}
use Rattle.jxl_record.specs.declared.DetectState.TheVariants as D
use Rattle.jxl_record.specs.declared.BoxParser.{BoxParser}
use Rattle.jxl_events.specs.Total.{carrying}
use Rattle.jxl_events.specs.declared.ParseEvent.{ParseEvent}
use Rattle.jxl_events.specs.declared.ParseEvent.TheVariants as E
use Rattle.jxl_joiner.specs.declared.Joiner.{Joiner}
use Rattle.jxl_totals.specs.Step.{limit, counted}
use Rattle.jxl_totals.specs.declared.ContainerParser.{ContainerParser}
use Rattle.jxl_lines.specs.declared.StopWord.TheVariants as S
use Rattle.jxl_list_rules.specs.Turned.{over, turn_of}

-- what the short way leaves of a turn; none for the long way
abbrev pub Way : Type 0
Way = Option (ContainerParser × Joiner)

-- the record with the boxes q behind n bytes, and the part from a on up to there
abbrev pub short_way : ContainerParser → BoxParser → ℕ → ℕ → Way
short_way p q a n =
    Some (counted q (p.total + n) p.header, record { held = Some (carrying (E.Codestream a (p.total + n - a)) (p.total + n)) })

-- n bytes behind the part at a: short inside a payload of which something is left behind them, with no event to tell first
abbrev pub way_in : ContainerParser → ℕ → ℕ → DetectState → Way
way_in p a n D.WaitingSignature = None
way_in p a n D.WaitingBoxHeader = None
way_in p a n (D.WaitingJxlpIndex l) = None
way_in p a n (D.WaitingInnerType l) = None
way_in p a n (D.InAuxBox t l) = None
way_in p a n (D.InCodestream k l pending) =
    if pending None
    (if (over_index p.boxes.jxlp) None
    (if (under 1 (less l n)) None (short_way p (in_code k (less l n) false p.boxes.jxlp) a n)))
way_in p a n (D.Refused k r) = None

abbrev pub way_behind : ContainerParser → ℕ → ℕ → Way
way_behind p a n = way_in p a n p.boxes.state

-- n bytes, with the event held: short only of a byte or more, up to the limit at most, behind a part that ends where they start
abbrev pub way_holding : ContainerParser → ℕ → ParseEvent → Way
way_holding p n (E.BitstreamKind k) = None
way_holding p n E.NoMoreAuxBox = None
way_holding p n (E.Codestream a len) =
    if (eqb n 0) None
    (if (and (leb (p.total + n) limit) (eqb (a + len) p.total)) (way_behind p a n) None)
way_holding p n (E.AuxBoxStart t b e) = None
way_holding p n (E.AuxBoxData t a l) = None
way_holding p n (E.AuxBoxEnd t) = None

abbrev pub way_of : ContainerParser → Option FileEvent → ℕ → Way
way_of p None n = None
way_of p (Some e) n = way_holding p n e.event

-- what a way claims of a turn on an input of n bytes: the short one makes the part held longer, puts no line, and more is wanted
abbrev pub Leads : Way → ContainerParser → Option FileEvent → ℕ → Type 0
Leads (Some (q, j)) p h n = (s : List ℕ) (room : ℕ) → length s ≡ n → turn_of s room p h ≡ over (Some S.Want) q j.held n
Leads None p h n = Unit {0}
