-- One answer: the promise determines what its function gives, and the buffer that it leaves; proofs/Unique.antt.
use Rattle.std.specs.Prelude.{List, ℕ}
use Rattle.jxl_base.specs.OneAnswer.{OneAnswerAndBuffer}
use Rattle.jxl_line_fields.specs.Fields.{PutIfRoom}

abbrev pub OnePutIfRoom : Type 0
OnePutIfRoom = (d : List ℕ) (at : ℕ) (w : List ℕ) → OneAnswerAndBuffer (λ r b. PutIfRoom d at w b r)
