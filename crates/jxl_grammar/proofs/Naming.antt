-- Refusals by another name.
use mathlib.Core.Path.{◌≡◌, refl, ap}
use Rattle.jxl_refusals.specs.Refusals.{why, in_document01, merged}
use Rattle.jxl_refusals.proofs.Merging.{merges_back}
use Rattle.jxl_refusals.proofs.Telling.{why_tells}
use Rattle.jxl_grammar.specs.Step.{Told, shows, wants, refuses, step_of}
use Rattle.jxl_grammar.specs.Naming.{told_as, numbered}
use Rattle.jxl_grammar.specs.Theorems.{StepMergesBack}

-- the number and the values tell the rule, so an answer in numbers is of one rule
pub unnumbered : (t u : Told) → numbered t ≡ numbered u → t ≡ u
unnumbered (shows e p n) (shows f q m) h = cc
unnumbered (shows e p n) (wants q m) h = cc
unnumbered (shows e p n) (refuses r q m) h = cc
unnumbered (wants p n) (shows f q m) h = cc
unnumbered (wants p n) (wants q m) h = cc
unnumbered (wants p n) (refuses r q m) h = cc
unnumbered (refuses w p n) (shows f q m) h = cc
unnumbered (refuses w p n) (wants q m) h = cc
unnumbered (refuses w p n) (refuses r q m) h =
    let same : why w ≡ why r = cc in
    let rule : w ≡ r = why_tells w r same in
    cc

told_merges : (t : Told) → told_as merged (told_as why t) ≡ told_as in_document01 t
told_merges (shows e p n) = refl
told_merges (wants p n) = refl
told_merges (refuses r p n) = ap (λ w. refuses w p n) (merges_back r)

pub step_merges_back : StepMergesBack
step_merges_back p s = told_merges (step_of p s)
