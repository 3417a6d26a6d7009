-- Promises that have one answer: one that names it, and one that says what it is called, where no two are called the same.
use mathlib.Core.Path.{◌≡◌, sym, ◌∙◌}
use Rattle.jxl_base.specs.OneAnswer.{OneAnswer}

pub one_named : {R : Type 0} (x : R) → OneAnswer (λ r. r ≡ x)
one_named x r q e f = e ∙ sym f

pub one_told : {R X : Type 0} (told : R → X) → ((r q : R) → told r ≡ told q → r ≡ q) → (x : X) → OneAnswer (λ r. told r ≡ x)
one_told told apart x r q e f = apart r q (e ∙ sym f)
