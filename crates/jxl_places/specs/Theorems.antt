-- Where events are given and what refusals name, of every file in any cut. Each statement is a type, which proofs/ proves under the same name in
-- small letters.
use Rattle.std.specs.Prelude.{◌≡◌, List, ℕ, ◌+◌, take}
use Rattle.jxl_headers.specs.Types.{jxlp, brob}
use Rattle.jxl_reach.specs.declared.BytesLeft.{BytesLeft}
use Rattle.jxl_record.specs.declared.DetectState.{DetectState}
use Rattle.jxl_record.specs.declared.DetectState.TheVariants as S
use Rattle.jxl_totals.specs.Step.{limit, fresh}
use Rattle.jxl_totals.specs.Feeding.{refused, events, joined, feeding, bytes_of}
use Rattle.jxl_totals.specs.declared.FileRefusal.{FileRefusal}
pub use Rattle.jxl_cuts.specs.Theorems.{All}
use Rattle.jxl_places.specs.Places.{Box, Given, Names}

-- given where: each event of a file, joined, is given where the bytes of the file alone say, whatever the cut
abbrev pub GivenWhere : Type 0
GivenWhere = (xs : List (List ℕ)) → All (Given (take limit (bytes_of xs))) (joined (events (feeding fresh xs)))

-- names its header: the place that a refusal names is where the box starts that it concerns, or, with none, the total
abbrev pub NamesItsHeader : Type 0
NamesItsHeader = (xs : List (List ℕ)) (r : FileRefusal) → (feeding fresh xs).stop ≡ refused r → Names (take limit (bytes_of xs)) r

-- and there is one such place
abbrev pub OnePlace : Type 0
OnePlace = (s : List ℕ) (r q : FileRefusal) → Names s r → Names s q → r.rule ≡ q.rule → r.total ≡ q.total → r.place ≡ q.place

-- while an index or an inner type is awaited the record's header is the one it stands behind
abbrev pub awaits : DetectState → ℕ → BytesLeft → Type 0
awaits (S.WaitingJxlpIndex l) t m = (t ≡ jxlp) × (m ≡ l)
awaits (S.WaitingInnerType l) t m = (t ≡ brob) × (m ≡ l)
awaits S.WaitingSignature t m = ⊥
awaits S.WaitingBoxHeader t m = ⊥
awaits (S.InAuxBox u l) t m = ⊥
awaits (S.InCodestream k l pending) t m = ⊥
awaits (S.Refused k r) t m = ⊥

abbrev pub HeaderIsNewest : Type 0
HeaderIsNewest =
    (xs : List (List ℕ)) (t : ℕ) (l : BytesLeft) → awaits (feeding fresh xs).next.boxes.state t l
    → (n : ℕ) × Box (take limit (bytes_of xs)) t l (feeding fresh xs).next.header n × ((feeding fresh xs).next.total ≡ (feeding fresh xs).next.header + n)
