-- Every file, every cut, with totals, places and the limit: what is proved of feeding the parser that counts. Each statement is a type, which
-- proofs/ proves under the same name in small letters.
use Rattle.std.specs.Prelude.{◌≡◌, false, List, [], ◌∷◌, ◌++◌, ℕ, ◌+◌, ◌/◌, ◌<◌, ◌≤◌, length, drop}
use Rattle.jxl_cuts.specs.Theorems as AnyMachine
pub use Rattle.jxl_cuts.specs.Theorems.{All}
use Rattle.jxl_refusals.specs.Refusals.{Naming, why, in_document01, merged}
use Rattle.jxl_refusals.specs.declared.BoxRefusal.TheVariants.{StreamLimit}
use Rattle.jxl_events.specs.Total.{EndsAt, without_totals}
use Rattle.jxl_events.specs.declared.FileEvent.{FileEvent}
use Rattle.jxl_grammar.specs.Grammar.{Listing}
use Rattle.jxl_grammar.specs.Grammar as Grammar
use Rattle.jxl_grammar.specs.Naming.{stop_as, listing_as, file_by}
use Rattle.jxl_grammar.specs.End.{Close, close_at, close_of}
use Rattle.jxl_totals.specs.Step.{limit, fresh, is_refused, room}
use Rattle.jxl_totals.specs.Parser.{parser}
use Rattle.jxl_totals.specs.Feeding.{Stop, Shown, Seen, want, refused, events, joined, taking, take, Takes, feeding, bytes_of}
use Rattle.jxl_files.specs.Files.{file}
use Rattle.jxl_totals.specs.declared.ContainerParser.{ContainerParser}
use Rattle.jxl_totals.specs.declared.FileRefusal.{FileRefusal}

-- total: what an event carries is the number of bytes consumed when it was given, whatever the cut; from any record, whose own total stands
-- for what was consumed before
abbrev pub TotalIsConsumed : Type 0
TotalIsConsumed = (p : ContainerParser) (xs : List (List ℕ)) → All (λ (x : Shown). x.event.total ≡ x.consumed) (feeding p xs).shown

-- and so of the record, and of a refusal
abbrev pub TotalOfPackets : Type 0
TotalOfPackets = (p : ContainerParser) (xs : List (List ℕ)) → (feeding p xs).next.total ≡ (feeding p xs).consumed

abbrev pub TotalOfRefusal : Type 0
TotalOfRefusal = (p : ContainerParser) (xs : List (List ℕ)) (r : FileRefusal) → (feeding p xs).stop ≡ refused r → r.total ≡ (feeding p xs).consumed

-- payload places: a payload's place in the file is the total that its event carries less its length
abbrev pub PayloadPlaces : Type 0
PayloadPlaces = (p : ContainerParser) (xs : List (List ℕ)) → All (λ (x : Shown). EndsAt x.event.total x.event.event) (feeding p xs).shown

-- nothing more: no more is consumed than was fed
abbrev pub NothingMore : Type 0
NothingMore = (p : ContainerParser) (xs : List (List ℕ)) → (feeding p xs).consumed ≤ p.total + length (bytes_of xs)

-- within the limit: nothing beyond it is consumed
abbrev pub StaysWithin : Type 0
StaysWithin = (p : ContainerParser) (xs : List (List ℕ)) → p.total ≤ limit → (feeding p xs).consumed ≤ limit

-- the limit: where more is wanted, no byte lies beyond it; of a total past the limit, none is there
abbrev pub WantsWithin : Type 0
WantsWithin = (p : ContainerParser) (xs : List (List ℕ)) → is_refused p ≡ false → (feeding p xs).stop ≡ want → length (bytes_of xs) ≤ room p

-- and StreamLimit is given only where one does
abbrev pub LimitMeansBeyond : Type 0
LimitMeansBeyond =
    (p : ContainerParser) (xs : List (List ℕ)) (r : FileRefusal) → is_refused p ≡ false → (feeding p xs).stop ≡ refused r → r.rule ≡ StreamLimit
    → room p < length (bytes_of xs)

-- what was seen of a file as a listing, with these of its events: without totals, the stop by the rule that broke, and what an end with the
-- bytes left unread comes to
abbrev pub rule_in : Stop → Grammar.Stop
rule_in = stop_as (λ (r : FileRefusal). r.rule)

abbrev pub close_in : List ℕ → Seen → Close
close_in s r = close_at r.consumed (close_of r.next.boxes (drop r.consumed s))

abbrev pub listing_with : List FileEvent → List ℕ → Seen → Listing
listing_with es s r = record { events = without_totals es; consumed = r.consumed; stop = rule_in r.stop; close = close_in s r }

-- with its events joined
abbrev pub listing : List ℕ → Seen → Listing
listing s r = listing_with (joined (events r)) s r

-- every file: fed whole to a fresh parser it shows exactly the grammar's events, consumes what it says and stops as it says, a refusal by
-- its number and values, with the limit; and where it wants more, an end comes to what the grammar says
abbrev pub EveryFile : Type 0
EveryFile = (s : List ℕ) → listing_as why (listing_with (events (feeding fresh (s ∷ []))) s (feeding fresh (s ∷ []))) ≡ listing_as why (file s)

-- and so in any packets, joined
abbrev pub EveryCutOfAFile : Type 0
EveryCutOfAFile = (xs : List (List ℕ)) → listing_as why (listing (bytes_of xs) (feeding fresh xs)) ≡ listing_as why (file (bytes_of xs))

-- nothing else moved: a file within the limit lists what it did
abbrev pub AsBefore : Type 0
AsBefore = (s : List ℕ) → length s ≤ limit → file s ≡ Grammar.file s

-- and the same whatever the refusals are called
abbrev pub EveryCutByName : Type 0
EveryCutByName = (name : Naming) (xs : List (List ℕ)) → listing_as name (listing (bytes_of xs) (feeding fresh xs)) ≡ listing_as name (file (bytes_of xs))

-- merges back: with numbers 10 to 19 merged into 1, what a file within the limit lists is document 01's, in any packets
abbrev pub EveryCutMergesBack : Type 0
EveryCutMergesBack =
    (xs : List (List ℕ)) → length (bytes_of xs) ≤ limit
    → listing_as merged (listing_as why (listing (bytes_of xs) (feeding fresh xs))) ≡ file_by in_document01 (bytes_of xs)

-- every cut: any packets, from any record that is not refused, come to what all their bytes come to, fed at once: events joined, with their
-- totals, bytes consumed, stop with total and place, and record
abbrev pub EveryCut : Type 0
EveryCut =
    (p : ContainerParser) (xs : List (List ℕ)) → is_refused p ≡ false → AnyMachine.Agrees parser (feeding p xs) (feeding p (bytes_of xs ∷ []))

-- with nothing to join: no two events of one feed lie end to end, from any record
abbrev pub NothingToJoin : Type 0
NothingToJoin = (p : ContainerParser) (s : List ℕ) → joined (events (take p s)) ≡ events (take p s)

-- bytes shown: each payload shown is, byte for byte, the file at its place; `front` is what was consumed before
abbrev pub BytesShown : Type 0
BytesShown =
    (p : ContainerParser) (front : List ℕ) (xs : List (List ℕ)) → length front ≡ p.total
    → All (AnyMachine.Right parser (front ++ bytes_of xs)) (feeding p xs).shown

-- most unread: unless refused, at most 15 bytes are left unread; of one feed from any record, of packets from any that is not refused
abbrev pub MostUnread : Type 0
MostUnread = (p : ContainerParser) (s : List ℕ) → (take p s).stop ≡ want → p.total + length s ≤ (take p s).consumed + 15

abbrev pub MostUnreadOfPackets : Type 0
MostUnreadOfPackets =
    (p : ContainerParser) (xs : List (List ℕ)) → is_refused p ≡ false → (feeding p xs).stop ≡ want
    → p.total + length (bytes_of xs) ≤ (feeding p xs).consumed + 15

-- most events: n bytes in k packets, one at least, give at most n / 3 + 2 + k events, from any record
abbrev pub MostEvents : Type 0
MostEvents =
    (p : ContainerParser) (x : List ℕ) (xs : List (List ℕ))
    → length (events (feeding p (x ∷ xs))) ≤ length (bytes_of (x ∷ xs)) / 3 + 2 + length (x ∷ xs)

-- and at most k - 1 more than all their bytes fed at once
abbrev pub AtMostMore : Type 0
AtMostMore =
    (p : ContainerParser) (x : List ℕ) (xs : List (List ℕ))
    → length (events (feeding p (x ∷ xs))) ≤ length (events (feeding p (bytes_of (x ∷ xs) ∷ []))) + length xs

-- always ends: from any record, on any input; a third as many steps as bytes, and four, are enough
abbrev pub AlwaysEnds : Type 0
AlwaysEnds = (p : ContainerParser) (s : List ℕ) (turns : ℕ) → length s / 3 + 4 ≤ turns → taking turns p s ≡ take p s

-- and `take` stops because a step wants more or refuses, never because its turns ran out
abbrev pub EndsByItself : Type 0
EndsByItself = (p : ContainerParser) (s : List ℕ) → (u : List ℕ) × Takes p p.total s (take p s) u

-- and so there is one thing that taking comes to
abbrev pub OneWay : Type 0
OneWay = (p : ContainerParser) (s : List ℕ) (r : Seen) (u : List ℕ) → Takes p p.total s r u → take p s ≡ r
