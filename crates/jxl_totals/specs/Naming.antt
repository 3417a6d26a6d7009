-- An answer in the paper's words. A refusal: its number and the values that it tells, the total, and the place that it names; or Closed,
-- which a parser answers that was ended, with the total twice.
use Rattle.std.specs.Prelude.{Bool, true, false, ℕ}
use Rattle.jxl_cuts.specs.Machine.{Told as Answer, shows, wants, refuses}
use Rattle.jxl_headers.specs.Bytes.{if}
use Rattle.jxl_refusals.specs.Refusals.{Why, why}
use Rattle.jxl_refusals.specs.declared.BoxRefusal.{BoxRefusal}
use Rattle.jxl_refusals.specs.declared.BoxRefusal.TheVariants as Rule
use Rattle.jxl_events.specs.declared.FileEvent.{FileEvent}
use Rattle.jxl_totals.specs.Step.{Told}
use Rattle.jxl_totals.specs.declared.ContainerParser.{ContainerParser}
use Rattle.jxl_totals.specs.declared.FileRefusal.{FileRefusal}

pub data Said : Type 0 where
  says : Why → ℕ → ℕ → Said
  closed : ℕ → ℕ → Said

-- "Feeding after an end call that wasn't refused is answered Closed"
abbrev pub is_closed : BoxRefusal → Bool
is_closed Rule.ShortSize = false
is_closed Rule.ExtendedSize = false
is_closed Rule.SecondJxlc = false
is_closed Rule.JxlcAfterJxlp = false
is_closed Rule.JxlpTooSmall = false
is_closed Rule.JxlpAfterJxlc = false
is_closed Rule.JxlpAfterLast = false
is_closed (Rule.WrongIndex found expected) = false
is_closed Rule.BrobTooSmall = false
is_closed Rule.ImpossibleRecord = false
is_closed Rule.ValidationFailed = false
is_closed Rule.StreamLimit = false
is_closed Rule.CutShort = false
is_closed Rule.Closed = true

abbrev pub says_refusal : FileRefusal → Said
says_refusal r = says (why r.rule) r.total r.place

abbrev pub said : FileRefusal → Said
said r = if (is_closed r.rule) (closed r.total r.place) (says_refusal r)

abbrev pub Numbered : Type 0
Numbered = Answer ContainerParser FileEvent Said

abbrev pub numbered : Told → Numbered
numbered (shows e p n) = shows e p n
numbered (wants p n) = wants p n
numbered (refuses r p n) = refuses (said r) p n
