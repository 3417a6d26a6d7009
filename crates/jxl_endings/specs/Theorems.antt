-- Every file and every cut, ended. Each statement is a type, which proofs/ proves under the same name in small letters.
use Rattle.std.specs.Prelude.{◌≡◌, false, List, [], ◌∷◌, ℕ, ◌+◌, ◌/◌, ◌≤◌, length}
use Rattle.jxl_refusals.specs.Refusals.{Naming, why}
use Rattle.jxl_refusals.specs.declared.BoxRefusal.TheVariants.{CutShort}
use Rattle.jxl_events.specs.declared.FileEvent.{FileEvent}
use Rattle.jxl_files.specs.Theorems.{All}
use Rattle.jxl_totals.specs.Step.{fresh, is_refused}
use Rattle.jxl_totals.specs.Feeding.{events_in, joined, bytes_of}
use Rattle.jxl_endings.specs.Ended.{Finished, done, refused, finished, events, ended_as, ended, outcome}
use Rattle.jxl_totals.specs.declared.ContainerParser.{ContainerParser}
use Rattle.jxl_totals.specs.declared.FileRefusal.{FileRefusal}

-- every end: any packets, then the end call, from a new parser come to what the grammar says of the whole file, ended: its events joined,
-- the owed one, the bytes consumed, and DONE, CutShort or the first refusal, by number and values
abbrev pub EveryEnd : Type 0
EveryEnd = (xs : List (List ℕ)) → ended_as why (outcome (finished fresh xs)) ≡ ended_as why (ended (bytes_of xs))

-- and so whatever the refusals are called
abbrev pub EveryEndByName : Type 0
EveryEndByName = (name : Naming) (xs : List (List ℕ)) → ended_as name (outcome (finished fresh xs)) ≡ ended_as name (ended (bytes_of xs))

-- every cut, ended: any packets and then an end, from any record that is neither refused nor closed, come to what all their bytes fed at
-- once and then ended come to: events joined, the owed one, bytes consumed, stop with total and place, and record
pub record Agrees (f t : Finished) : Type 0 where
  pub events_are : joined (events_in f.shown) ≡ events_in t.shown
  pub owed_is : f.owed ≡ t.owed
  pub consumed_is : f.consumed ≡ t.consumed
  pub stop_is : f.stop ≡ t.stop
  pub next_is : f.next ≡ t.next

abbrev pub EveryCutEnded : Type 0
EveryCutEnded = (p : ContainerParser) (xs : List (List ℕ)) → is_refused p ≡ false → Agrees (finished p xs) (finished p (bytes_of xs ∷ []))

-- the end counts: the record then, the owed event and the refusal carry the bytes consumed, and CutShort names that place
pub record Counted (f : Finished) : Type 0 where
  pub next_total : f.next.total ≡ f.consumed
  pub owed_total : All (λ (e : FileEvent). e.total ≡ f.consumed) f.owed
  pub stop_total : (r : FileRefusal) → f.stop ≡ refused r → r.total ≡ f.consumed
  pub cut_place : (r : FileRefusal) → f.stop ≡ refused r → r.rule ≡ CutShort → r.place ≡ f.consumed

abbrev pub EndCounts : Type 0
EndCounts = (p : ContainerParser) (xs : List (List ℕ)) → is_refused p ≡ false → Counted (finished p xs)

-- done reads all: on DONE every byte of the file is consumed
abbrev pub DoneReadsAll : Type 0
DoneReadsAll =
    (p : ContainerParser) (xs : List (List ℕ)) → is_refused p ≡ false → (finished p xs).stop ≡ done
    → (finished p xs).consumed ≡ p.total + length (bytes_of xs)

-- most events: n bytes in k packets, and the end call, give at most n / 3 + 3 + k events, from any record
abbrev pub MostEventsEnded : Type 0
MostEventsEnded =
    (p : ContainerParser) (xs : List (List ℕ)) → length (events (finished p xs)) ≤ length (bytes_of xs) / 3 + 3 + length xs

-- and at most k - 1 more than all their bytes fed at once and ended
abbrev pub AtMostMoreEnded : Type 0
AtMostMoreEnded =
    (p : ContainerParser) (x : List ℕ) (xs : List (List ℕ)) → is_refused p ≡ false
    → length (events (finished p (x ∷ xs))) ≤ length (events (finished p (bytes_of (x ∷ xs) ∷ []))) + length xs
