-- The parser that counts, as a machine that is fed: as the rules on boxes, with totals. Joined parts carry the last one's total.
use Rattle.jxl_cuts.specs.Machine.{Machine}
use Rattle.jxl_events.specs.Event.{payload, length_of}
use Rattle.jxl_events.specs.Total.{carrying, further}
use Rattle.jxl_events.specs.declared.FileEvent.{FileEvent}
use Rattle.jxl_parts.specs.Joined.{joins, longer}
use Rattle.jxl_totals.specs.Step.{step_of}
use Rattle.jxl_totals.specs.declared.ContainerParser.{ContainerParser}
use Rattle.jxl_totals.specs.declared.FileRefusal.{FileRefusal}

-- two parts in one
abbrev pub joined_parts : FileEvent → FileEvent → FileEvent
joined_parts e f = carrying (longer (length_of f.event) e.event) f.total

abbrev pub parser : Machine
parser =
    record {
      State = ContainerParser;
      Event = FileEvent;
      Why = FileRefusal;
      step = step_of;
      payload = λ e. payload e.event;
      shifted = further;
      joins = λ e f. joins e.event f.event;
      longer = joined_parts;
      unread = 15;
      price = 3;
      lent = 9;
    }
