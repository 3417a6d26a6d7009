-- Two answers that meet a promise are equal, and so are the buffers that they leave.
use mathlib.Core.Path.{◌≡◌, sym, ap, ◌∙◌}
use mathlib.Core.List.{List}
use Prim.Native.Nat.{ℕ}
use lib.ListN.{length}
use Rattle.std.specs.Prelude.{Option}
use Rattle.jxl_events.specs.declared.FileEvent.{FileEvent}
use Rattle.jxl_lines.specs.declared.StopWord.{StopWord}
use Rattle.jxl_base.proofs.OneAnswer.{one_named}
use Rattle.jxl_totals.specs.declared.ContainerParser.{ContainerParser}
use Rattle.jxl_list_rules.specs.Theorems.{OneListing, OneNextAtEnd, OneShortWay, OneTurn}
use Rattle.jxl_endings.specs.End.{end_of}
use Rattle.jxl_list_rules.specs.Listed.{next_end}
use Rattle.jxl_list_rules.specs.Turned.{Told}
use Rattle.jxl_list_rules.specs.Way.{way_of}
use Rattle.jxl_list_rules.specs.declared.AfterTurn.{AfterTurn}

pub one_listing : OneListing
one_listing d w r q b c p e = let same = p ∙ sym e in (cc, cc)

pub one_next_at_end : OneNextAtEnd
one_next_at_end p u = one_named (next_end (end_of p u))

pub one_short_way : OneShortWay
one_short_way p h n = one_named (way_of p h n)

abbrev answer : ContainerParser → Option FileEvent → ℕ → ℕ → Option StopWord → AfterTurn
answer p h k w e = record { parser = p; joiner = record { held = h }; consumed = k; written = w; stop = e }

pub one_turn : OneTurn
one_turn buffer t r q b c d e = (answers r d ∙ sym (answers q e), d.buffer_is ∙ sym e.buffer_is)
  where
    answers : {b : List ℕ} (x : AfterTurn) → Told x b buffer t → x ≡ answer t.parser t.held t.consumed (length t.lines) t.stop
    answers x y =
        ap (λ (p : ContainerParser). answer p x.joiner.held x.consumed x.written x.stop) y.parser_is
        ∙ ap (λ (h : Option FileEvent). answer t.parser h x.consumed x.written x.stop) y.held_is
        ∙ ap (λ (k : ℕ). answer t.parser t.held k x.written x.stop) y.consumed_is
        ∙ ap (λ (w : ℕ). answer t.parser t.held t.consumed w x.stop) y.written_is
        ∙ ap (answer t.parser t.held t.consumed (length t.lines)) y.stop_is
