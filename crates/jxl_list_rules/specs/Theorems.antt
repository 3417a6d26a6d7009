-- What is proved of turns, each statement a type that proofs/ has a proof of under the same name in small letters.
use Rattle.std.specs.Prelude.{Option, None, Some, ◌≡◌, List, ◌∷◌, ◌++◌, ℕ, ◌+◌, ◌^◌, ◌<◌, ◌≤◌, length, drop}
use Rattle.jxl_base.specs.OneAnswer.{OneAnswer, OneAnswerAndBuffer}
use Rattle.jxl_events.specs.Event.{length_of, place_of}
use Rattle.jxl_events.specs.declared.FileEvent.{FileEvent}
use Rattle.jxl_totals.specs.Step.{limit}
use Rattle.jxl_totals.specs.Feeding.{Seen, events}
use Rattle.jxl_totals.specs.Feeding as Feeding
use Rattle.jxl_files.specs.Theorems.{All, rule_in}
use Rattle.jxl_totals.specs.declared.ContainerParser.{ContainerParser}
use Rattle.jxl_endings.specs.End.{end_of}
use Rattle.jxl_joiner.specs.Joiner.{handed, run}
use Rattle.jxl_lines.specs.Putting.{leaves}
use Rattle.jxl_lines.specs.declared.StopWord.{StopWord}
use Rattle.jxl_list_rules.specs.Listed.{stop_of, lines_of, file_text, file_text_in01, next_end, list_of}
use Rattle.jxl_list_rules.specs.Turned.{Turned, turn_of, Told}
use Rattle.jxl_list_rules.specs.Row.{goes_on, row_of}
use Rattle.jxl_list_rules.specs.Way.{way_of, Leads}

-- merges back: what is printed of a file within the limit is document 01's listing, `refused1` for each of the ten
abbrev pub ListingMergesBack : Type 0
ListingMergesBack = (s : List ℕ) → length s ≤ limit → file_text s ≡ file_text_in01 s

-- a turn that began with the event h held and stopped at w takes what feeding sees: the lines put, and those of the joiner run from the
-- event held then on any events that follow, are those of the joiner run on the events seen and these. With none that follow: the lines
-- put and the line of the event held
pub record Feeds (p : ContainerParser) (h : Option FileEvent) (seen : Seen) (w : StopWord) (t : Turned) : Type 0 where
  pub lines_are : (es : List FileEvent) → t.lines ++ lines_of (run t.held es) ≡ lines_of (run h (events seen ++ es))
  pub parser_is : t.parser ≡ seen.next
  pub consumed_is : p.total + t.consumed ≡ seen.consumed
  pub stop_is : w ≡ stop_of (rule_in seen.stop)

-- a turn that the parser ended took exactly what feeding takes of its input
abbrev pub TurnFeeds : Type 0
TurnFeeds =
    (s : List ℕ) (room : ℕ) (p : ContainerParser) (h : Option FileEvent) (w : StopWord) → (turn_of s room p h).stop ≡ Some w
    → Feeds p h (Feeding.take p s) w (turn_of s room p h)

-- a turn ends with no room only where the line of the event held does not fit behind the lines put
abbrev pub FullMeansFull : Type 0
FullMeansFull =
    (s : List ℕ) (room : ℕ) (p : ContainerParser) (h : Option FileEvent) → (turn_of s room p h).stop ≡ None
    → room < length (turn_of s room p h).lines + length (lines_of (handed (turn_of s room p h).held))

-- the place and the length of the event held, if any, fit 64 bits; so they do of each that the code holds
abbrev pub HeldFits : Option FileEvent → Type 0
HeldFits None = Unit {0}
HeldFits (Some e) = (place_of e.event < 2 ^ 64) × (length_of e.event < 2 ^ 64)

-- a turn keeps that, and the record's total within 64 bits
abbrev pub TurnKeepsFit : Type 0
TurnKeepsFit =
    (s : List ℕ) (room : ℕ) (p : ContainerParser) (h : Option FileEvent) → p.total < 2 ^ 64 → HeldFits h
    → ((turn_of s room p h).parser.total < 2 ^ 64) × HeldFits (turn_of s room p h).held

-- and so with room for the longest line a turn that ends with no room has put a line
abbrev pub TurnAdvances : Type 0
TurnAdvances =
    (s : List ℕ) (room : ℕ) (p : ContainerParser) (h : Option FileEvent) → p.total < 2 ^ 64 → HeldFits h → 56 ≤ room → (turn_of s room p h).stop ≡ None
    → 0 < length (turn_of s room p h).lines

-- a turn that ended for want of room and the next one are one turn, with room for the lines of the first and then the room of the next
abbrev pub TurnsGoOn : Type 0
TurnsGoOn =
    (s : List ℕ) (room next : ℕ) (p : ContainerParser) (h : Option FileEvent) → (turn_of s room p h).stop ≡ None →
    let t = turn_of s room p h in
    goes_on t (turn_of (drop t.consumed s) next t.parser t.held) ≡ turn_of s (length t.lines + next) p h

-- and so a row of turns, one at least, is the one turn whose room its lines fill
abbrev pub RowIsOneTurn : Type 0
RowIsOneTurn =
    (s : List ℕ) (room : ℕ) (rooms : List ℕ) (p : ContainerParser) (h : Option FileEvent)
    → row_of s (room ∷ rooms) p h ≡ turn_of s (length (row_of s (room ∷ rooms) p h).lines) p h

-- a row that the parser ended is the turn with any room that its lines fit
abbrev pub RowWithRoom : Type 0
RowWithRoom =
    (s : List ℕ) (rooms : List ℕ) (p : ContainerParser) (h : Option FileEvent) (w : StopWord) (room : ℕ) → (row_of s rooms p h).stop ≡ Some w
    → length (row_of s rooms p h).lines ≤ room → row_of s rooms p h ≡ turn_of s room p h

-- and took exactly what feeding takes of the whole input
abbrev pub RowFeeds : Type 0
RowFeeds =
    (s : List ℕ) (rooms : List ℕ) (p : ContainerParser) (h : Option FileEvent) (w : StopWord) → (row_of s rooms p h).stop ≡ Some w
    → Feeds p h (Feeding.take p s) w (row_of s rooms p h)

-- the parser ends a row of as many turns as there are events, one at least, each with room for the longest line
abbrev pub RowEnds : Type 0
RowEnds =
    (s : List ℕ) (room : ℕ) (rooms : List ℕ) (p : ContainerParser) (h : Option FileEvent) → p.total < 2 ^ 64 → HeldFits h
    → All (λ r. 56 ≤ r) (room ∷ rooms) → length (events (Feeding.take p s)) ≤ length (room ∷ rooms)
    → (w : StopWord) × ((row_of s (room ∷ rooms) p h).stop ≡ Some w)

-- every way leads to what the turn comes to
abbrev pub WayLeads : Type 0
WayLeads = (p : ContainerParser) (h : Option FileEvent) (n : ℕ) → Leads (way_of p h n) p h n

-- one answer: each promise determines what its function gives, and the buffer that it leaves
abbrev pub OneListing : Type 0
OneListing = (d w : List ℕ) → OneAnswerAndBuffer (λ r b. leaves r b ≡ list_of d w)

abbrev pub OneNextAtEnd : Type 0
OneNextAtEnd = (p : ContainerParser) (u : List ℕ) → OneAnswer (λ r. r ≡ next_end (end_of p u))

abbrev pub OneShortWay : Type 0
OneShortWay = (p : ContainerParser) (h : Option FileEvent) (n : ℕ) → OneAnswer (λ r. r ≡ way_of p h n)

abbrev pub OneTurn : Type 0
OneTurn = (buffer : List ℕ) (t : Turned) → OneAnswerAndBuffer (λ r b. Told r b buffer t)
