-- The lines that are left of a listing, one by one.
use mathlib.Core.Path.{◌≡◌, ap, ◌∙◌}
use mathlib.Core.List.{List, ◌∷◌, []}
use Prim.Native.Nat.{ℕ}
use lib.ListN.{drop}
use Rattle.std.specs.Prelude.{Option, Some, Ok, Err}
use Rattle.jxl_events.specs.declared.ParseEvent.{ParseEvent}
use Rattle.jxl_totals.specs.Step.{fresh}
use Rattle.jxl_totals.specs.declared.ContainerParser.{ContainerParser}
use Rattle.jxl_lines.specs.declared.Line.TheVariants as L
use Rattle.jxl_lines.specs.declared.StopWord.{StopWord}
use Rattle.jxl_list_rules.specs.Listed.{lines_left, text_of, file_text, next_of}
use Rattle.jxl_list_rules.specs.declared.AfterStep.{AfterStep}
use Rattle.jxl_list_rules.proofs.Text.{following_shown, following_stopped, text_of_file}
use Rattle.jxl_list_file.specs.declared.Lines.{Lines}

-- an event's line, and the others; the stop's, and none
module _ (f : List ℕ) {left : Option ContainerParser} {p : ContainerParser} {n : AfterStep} (there : left ≡ Some p) (so : n ≡ next_of p (drop p.total f)) where
  pub shown_left : {e : ParseEvent} → n.answer ≡ Ok e → lines_left left f ≡ L.Shown e ∷ lines_left (Some n.parser) f
  shown_left is = ap (λ (m : Option ContainerParser). lines_left m f) there ∙ following_shown p f so is

  pub stopped_left : {w : StopWord} → n.answer ≡ Err w → lines_left left f ≡ L.Stopped w n.parser.total ∷ []
  stopped_left is = ap (λ (m : Option ContainerParser). lines_left m f) there ∙ following_stopped p f so is

-- at first all of the file's
pub all_left : (f : List ℕ) {x y : Lines} → x ≡ y → (y.file.now ≡ f) × (y.next ≡ Some fresh) → text_of (lines_left x.next x.file.now) ≡ file_text f
all_left f {x} {y} same (file, first) =
    ap (λ (l : Lines). text_of (lines_left l.next l.file.now)) same ∙ (λ i. text_of (lines_left (first i) (file i))) ∙ text_of_file f
