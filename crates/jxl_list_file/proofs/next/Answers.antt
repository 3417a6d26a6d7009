use Rattle.std.proofs.Common.{◌≡◌, List, ℕ, sym, ap, ◌∙◌}
use mathlib.Core.Logic.{◌⊎◌, inl, inr}
use lib.ListN.{drop}
use Rattle.jxl_totals.specs.Step.{step_of}
use Rattle.jxl_totals.specs.Naming.{numbered}
use Rattle.jxl_totals.specs.declared.ContainerParser.{ContainerParser}
use Rattle.jxl_totals.specs.declared.FileRefusal.{FileRefusal}
use Rattle.jxl_counts.specs.Told.{told}
use Rattle.jxl_counts.specs.declared.StepResult.{StepResult}
use Rattle.jxl_counts.specs.declared.StepResult.TheVariants as A
use Rattle.jxl_counts.proofs.Ruled.{ruled, by_rule}
use Rattle.jxl_endings.specs.End.{end_of}
use Rattle.jxl_list_rules.specs.Listed.{next_end, next_of}
use Rattle.jxl_list_rules.proofs.Text.{stops_wanting, stops_refusing}
use Rattle.jxl_list_file.proofs.next.Goals as goal

-- a step on the bytes behind those consumed that shows no event
module _ (p q : ContainerParser) (f u : List ℕ) (so : u ≡ drop p.total f) {x : StepResult} (e : told x ≡ numbered (step_of p u)) where
  stepped : {y : StepResult} → x ≡ y → step_of p (drop p.total f) ≡ ruled y
  stepped is = ap (step_of p) (sym so) ∙ sym (by_rule x _ e) ∙ ap ruled is

  stops : ((n : ℕ) × (x ≡ A.Want q n)) ⊎ (((n : ℕ) × (r : FileRefusal) × (x ≡ A.Refused q n r)) ⊎ ((n : ℕ) × (x ≡ A.Closed q n)))
      → next_of p (drop p.total f) ≡ next_end (end_of q (drop q.total f))
  stops (inl (n, is)) = stops_wanting p f (stepped is)
  stops (inr (inl (n, r, is))) = stops_refusing p f (stepped is)
  stops (inr (inr (n, is))) = stops_refusing p f (stepped is)

-- the end call is made from the record that the step leaves
pub returns-in-Want : goal.returns-in-Want
returns-in-Want c = c.at_end.ensures ∙ sym (stops c.args.parser c.in-Want.next c.args.file.now _ c.behind.ensures c.step.ensures c.in-Want.is)
