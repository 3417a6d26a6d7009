-- The short way: what a turn answers where its input only makes the part held longer.
use mathlib.Core.Path.{◌≡◌, refl, sym, ◌∙◌, subst}
use mathlib.Core.List.{List}
use Prim.Native.Nat.{ℕ}
use native.Mathlib.Omega.{arith}
use lib.ListN.{length}
use Rattle.std.specs.Prelude.{Option, Some}
use Rattle.jxl_events.specs.declared.FileEvent.{FileEvent}
use Rattle.jxl_totals.specs.declared.ContainerParser.{ContainerParser}
use Rattle.jxl_joiner.specs.declared.Joiner.{Joiner}
use Rattle.jxl_lines.specs.declared.StopWord.TheVariants as S
use Rattle.jxl_list_rules.specs.Turned as Spec
use Rattle.jxl_list_rules.specs.Turned.{turn_of}
use Rattle.jxl_list_rules.specs.Way.{Way, Leads, way_of}
use Rattle.jxl_list_rules.proofs.Inside.{way_leads}
use Rattle.jxl_long_way.proofs.Going.{finish, leaving}

-- the turn's answer where its input only makes the part held longer
pub told_short : (s buffer : List ℕ) (p : ContainerParser) (h : Option FileEvent) (w : Way) {q : ContainerParser} {j : Joiner} → w ≡ way_of p h (length s)
    → w ≡ Some (q, j) → Spec.Told (leaving q j (length s) 0 (Some S.Want)) buffer buffer (turn_of s (length buffer) p h)
told_short s buffer p h w {q} {j} found short =
    finish buffer buffer (turn_of s (length buffer) p h) (leaving q j (length s) 0 (Some S.Want)) (omega arith) refl
    (subst (λ (x : Way). Leads x p h (length s)) (sym found ∙ short) (way_leads p h (length s)) s (length buffer) refl)
