-- One answer: the promise determines what its function gives, and the buffer that it leaves; proofs/Unique.antt.
use Rattle.std.specs.Prelude.{◌≡◌, List, ℕ}
use Rattle.jxl_base.specs.OneAnswer.{OneAnswerAndBuffer}
use Rattle.jxl_refusals.specs.declared.BoxRefusal.{BoxRefusal}
use Rattle.jxl_lines.specs.Putting.{leaves, put_of}
use Rattle.jxl_refusal_words.specs.Text.{text}

abbrev pub OnePutRefusal : Type 0
OnePutRefusal = (d : List ℕ) (at : ℕ) (w : BoxRefusal) → OneAnswerAndBuffer (λ r b. leaves r b ≡ put_of d at (text w))
