-- What is proved of events; proofs/ has a proof of each statement under the same name in small letters.
use Rattle.std.specs.Prelude.{◌≡◌, List, ℕ}
use Rattle.jxl_base.specs.OneAnswer.{OneAnswer}
use Rattle.jxl_events.specs.Event.{payload_of}
use Rattle.jxl_events.specs.Total.{further, in_file, EndsAt}
use Rattle.jxl_events.specs.declared.ParseEvent.{ParseEvent}
use Rattle.jxl_events.specs.declared.FileEvent.{FileEvent}

-- an event whose payload ends at its total is where it is in the file
abbrev pub InFileThere : Type 0
InFileThere = (e : FileEvent) → EndsAt e.total e.event → in_file e ≡ e

-- and wherever it stood before, its place in the file is the same
abbrev pub InFileAnywhere : Type 0
InFileAnywhere = (n : ℕ) (e : FileEvent) → in_file (further n e) ≡ in_file e

-- one answer: each promise determines what its function gives
abbrev pub OnePayload : Type 0
OnePayload = (s : List ℕ) (e : ParseEvent) → OneAnswer (λ r. r ≡ payload_of s e)

abbrev pub OneInFile : Type 0
OneInFile = (e : FileEvent) → OneAnswer (λ r. r ≡ in_file e)
