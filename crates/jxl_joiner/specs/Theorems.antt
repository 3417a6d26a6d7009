-- One answer: each promise determines what its function gives; proofs/Unique.antt.
use Rattle.std.specs.Prelude.{◌≡◌, None}
use Rattle.jxl_base.specs.OneAnswer.{OneAnswer}
use Rattle.jxl_events.specs.declared.FileEvent.{FileEvent}
use Rattle.jxl_joiner.specs.Joiner.{adding}
use Rattle.jxl_joiner.specs.declared.Joiner.{Joiner}

abbrev pub OneNew : Type 0
OneNew = OneAnswer (λ (r : Joiner). r.held ≡ None)

abbrev pub OneAdd : Type 0
OneAdd = (j : Joiner) (e : FileEvent) → OneAnswer (λ r. r ≡ adding j.held e)

abbrev pub OneFinish : Type 0
OneFinish = (j : Joiner) → OneAnswer (λ r. r ≡ j.held)
