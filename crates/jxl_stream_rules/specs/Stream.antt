-- A stream as a program lists it: read after read, each behind the bytes left unread and listed in a row of turns; then the last lines.
use Rattle.std.specs.Prelude.{Option, Some, ◌≡◌, List, [], ◌∷◌, ◌++◌, ℕ, drop}
use Rattle.jxl_events.specs.declared.FileEvent.{FileEvent}
use Rattle.jxl_joiner.specs.Joiner.{handed}
use Rattle.jxl_totals.specs.declared.ContainerParser.{ContainerParser}
use Rattle.jxl_endings.specs.End.{end_of}
use Rattle.jxl_lines.specs.declared.StopWord.{StopWord}
use Rattle.jxl_list_rules.specs.Listed.{lines_of, end_text}
use Rattle.jxl_list_rules.specs.Row.{row_of}

-- what a read brings, and the rooms of the turns that list it
pub record Read : Type 0 where
  pub bytes : List ℕ
  pub rooms : List ℕ

-- the bytes of all reads
abbrev pub packets : List Read → List (List ℕ)
packets [] = []
packets (x ∷ xs) = x.bytes ∷ packets xs

-- the lines written, the record, the event held and the bytes left unread then
pub record Listed : Type 0 where
  pub lines : List ℕ
  pub parser : ContainerParser
  pub held : Option FileEvent
  pub unread : List ℕ

abbrev pub in_front : List ℕ → Listed → Listed
in_front l s = record { lines = l ++ s.lines; parser = s.parser; held = s.held; unread = s.unread }

-- read after read, from a record, an event held and the bytes left unread
unfoldable pub listing : ContainerParser → Option FileEvent → List ℕ → List Read → Listed
listing p h u [] = record { lines = []; parser = p; held = h; unread = u }
listing p h u (x ∷ xs) =
    let t = row_of (u ++ x.bytes) x.rooms p h in
    in_front t.lines (listing t.parser t.held (drop t.consumed (u ++ x.bytes)) xs)

-- the parser ends each row: it wants more, or refuses; a row that ended for want of room is not over (`RowEnds` of jxl_list_rules)
unfoldable pub RowsEnd : ContainerParser → Option FileEvent → List ℕ → List Read → Type 0
RowsEnd p h u [] = Unit {0}
RowsEnd p h u (x ∷ xs) =
    let t = row_of (u ++ x.bytes) x.rooms p h in
    ((w : StopWord) × (t.stop ≡ Some w)) × RowsEnd t.parser t.held (drop t.consumed (u ++ x.bytes)) xs

-- all that is written: the lines of the turns, the line of the event held, and what the end call gives, made with the bytes left unread
abbrev pub written : Listed → List ℕ
written s = s.lines ++ (lines_of (handed s.held) ++ end_text (end_of s.parser s.unread) s.parser.total)
