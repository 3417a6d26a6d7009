-- The container parser keeps the laws of jxl_cuts.
use mathlib.Core.Path.{◌≡◌, refl}
use mathlib.Core.Bool.{Bool, true, false}
use mathlib.Core.Logic.{◌⊎◌, inl, inr}
use mathlib.Core.List.{List}
use Prim.Native.Nat.{ℕ, ◌≤◌}
use native.Mathlib.Omega.{arith}
use lib.ListN.{length}
use Rattle.jxl_refusals.specs.declared.BoxRefusal.{BoxRefusal}
use Rattle.jxl_record.specs.Record.{is_refused}
use Rattle.jxl_grammar.specs.Step.{Told, step_of}
use Rattle.jxl_grammar.specs.Laws as Step
use Rattle.jxl_grammar.proofs.Step.{step_empty}
use Rattle.jxl_grammar.proofs.Laws.{every_step, stays}
use Rattle.jxl_record.specs.declared.BoxParser.{BoxParser}
use Rattle.jxl_cuts.specs.Machine.{shows, wants, refuses}
use Rattle.jxl_cuts.specs.Lawful.{Open, Repeats, Kept}
use Rattle.jxl_grammar.specs.Parser.{parser}
use Rattle.jxl_grammar.specs.Theorems.{ParserIsLawful}
use Rattle.jxl_grammar.proofs.Moving.{moves}
use Rattle.jxl_grammar.proofs.Cut.{cut_step}
use Rattle.jxl_grammar.proofs.Sound.{weight, weight_most, sound, apart}

kept : (n : ℕ) (t : Told) → Step.Kept n t → Kept parser n t
kept n (shows e p c) k = k
kept n (wants p c) k = k
kept n (refuses w p c) k = k

empty : (p : BoxParser) → Open parser p ⊎ ((w : BoxRefusal) × Repeats parser w p)
empty p = go (is_refused p) refl
  where
    go : (t : Bool) → is_refused p ≡ t → Open parser p ⊎ ((w : BoxRefusal) × Repeats parser w p)
    go true r = inr (stays p r)
    go false r = inl (step_empty p r)

pub lawful : ParserIsLawful
lawful =
    record {
      moves = moves;
      kept = λ p s. kept (length s) (step_of p s) (every_step p s);
      empty = empty;
      cut = cut_step;
      apart = λ p s h k. apart p s h k;
      price_some = omega arith;
      credit = weight;
      credit_most = weight_most;
      paid = λ p s. (sound p s).0;
    }
