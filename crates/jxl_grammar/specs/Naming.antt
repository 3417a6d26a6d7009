-- Which refusal comes of a broken rule is a matter of naming: document 02 numbers them 10 to 19 and 2 (`why`), document 01 called the
-- ten of them 1 (`in_document01`). What a step tells and what a file lists can be said in either.
use Rattle.std.specs.Prelude.{List, ℕ}
use Rattle.jxl_cuts.specs.Machine.{Told as Answer, shows, wants, refuses}
use Rattle.jxl_cuts.specs.Feeding.{Stop as Stops, want, refused}
use Rattle.jxl_refusals.specs.Refusals.{Why, Naming, why}
use Rattle.jxl_record.specs.declared.BoxParser.{BoxParser}
use Rattle.jxl_events.specs.declared.ParseEvent.{ParseEvent}
use Rattle.jxl_grammar.specs.Step.{Told, step_of}
use Rattle.jxl_grammar.specs.Grammar.{ListingBy, file}

-- an answer, a stop, a listing, with the refusal called by another name
abbrev pub told_as : {A B : Type 0} → (A → B) → Answer BoxParser ParseEvent A → Answer BoxParser ParseEvent B
told_as name (shows e p n) = shows e p n
told_as name (wants p n) = wants p n
told_as name (refuses r p n) = refuses (name r) p n

abbrev pub stop_as : {A B : Type 0} → (A → B) → Stops A → Stops B
stop_as name want = want
stop_as name (refused r) = refused (name r)

abbrev pub listing_as : {A B : Type 0} → (A → B) → ListingBy A → ListingBy B
listing_as name l = record { events = l.events; consumed = l.consumed; stop = stop_as name l.stop; close = l.close }

-- an answer in the paper's words: a refusal by its number and the values that it tells
abbrev pub Numbered : Type 0
Numbered = Answer BoxParser ParseEvent Why

abbrev pub numbered : Told → Numbered
numbered = told_as why

-- what a step tells, by a naming
abbrev pub step_by : Naming → BoxParser → List ℕ → Numbered
step_by name p s = told_as name (step_of p s)

-- what a whole file lists, by a naming
abbrev pub file_by : Naming → List ℕ → ListingBy Why
file_by name s = listing_as name (file s)
