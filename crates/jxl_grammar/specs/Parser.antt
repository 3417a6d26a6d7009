-- The container parser as a machine that is fed.
use Rattle.std.specs.Prelude.{List, ℕ}
use Rattle.jxl_grammar.specs.Step.{Told, step_of}
use Rattle.jxl_events.specs.Event.{shifted, payload, length_of}
use Rattle.jxl_refusals.specs.declared.BoxRefusal.{BoxRefusal}
use Rattle.jxl_record.specs.declared.BoxParser.{BoxParser}
use Rattle.jxl_events.specs.declared.ParseEvent.{ParseEvent}
use Rattle.jxl_cuts.specs.Machine.{Machine}
use Rattle.jxl_parts.specs.Joined.{joins, longer}

-- a parser that steps so: at most 15 bytes are left unread; three bytes pay for an event, and a state is lent at most 9
abbrev pub parser_by : (BoxParser → List ℕ → Told) → Machine
parser_by step =
    record {
      State = BoxParser;
      Event = ParseEvent;
      Why = BoxRefusal;
      step = step;
      payload = payload;
      shifted = shifted;
      joins = joins;
      longer = λ e f. longer (length_of f) e;
      unread = 15;
      price = 3;
      lent = 9;
    }

abbrev pub parser : Machine
parser = parser_by step_of
