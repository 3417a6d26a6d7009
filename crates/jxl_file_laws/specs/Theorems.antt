-- The kind that is told, and the joiner, of every file cut in any packets. Each statement is a type, which proofs/ proves under the same
-- name in small letters.
use Rattle.std.specs.Prelude.{None, ◌≡◌, List, [], ◌∷◌, ℕ}
use Rattle.jxl_record.specs.declared.BitstreamKind.{BitstreamKind}
use Rattle.jxl_record.specs.declared.BitstreamKind.TheVariants as K
use Rattle.jxl_events.specs.Total.{EndsAt, without_totals}
use Rattle.jxl_events.specs.declared.ParseEvent.{ParseEvent}
use Rattle.jxl_events.specs.declared.ParseEvent.TheVariants as E
use Rattle.jxl_events.specs.declared.FileEvent.{FileEvent}
use Rattle.jxl_joiner.specs.Joiner.{run}
use Rattle.jxl_totals.specs.Step.{refuses, fresh, kind_of, step_of}
use Rattle.jxl_files.specs.Files.{file}
use Rattle.jxl_totals.specs.Feeding.{events, joined, feeding, bytes_of}
use Rattle.jxl_files.specs.Theorems.{All}
use Rattle.jxl_totals.specs.declared.ContainerParser.{ContainerParser}
use Rattle.jxl_totals.specs.declared.FileRefusal.{FileRefusal}

-- the kind that the first KIND tells; unknown before it
abbrev pub kind_told : List ParseEvent → BitstreamKind
kind_told [] = K.Unknown
kind_told (E.BitstreamKind k ∷ es) = k
kind_told (E.NoMoreAuxBox ∷ es) = kind_told es
kind_told (E.Codestream a n ∷ es) = kind_told es
kind_told (E.AuxBoxStart t b e ∷ es) = kind_told es
kind_told (E.AuxBoxData t a n ∷ es) = kind_told es
kind_told (E.AuxBoxEnd t ∷ es) = kind_told es

-- kind: of a fresh parser fed any packets, the kind told on request is unknown before KIND, then KIND's
abbrev pub KindIsTold : Type 0
KindIsTold = (xs : List (List ℕ)) → kind_of (feeding fresh xs).next ≡ kind_told (without_totals (events (feeding fresh xs)))

-- and so the one that the grammar lists of the file
abbrev pub KindOfAFile : Type 0
KindOfAFile = (xs : List (List ℕ)) → kind_of (feeding fresh xs).next ≡ kind_told (file (bytes_of xs)).events

-- a refusal leaves the kind what it was, the limit's too; from any record, one that no file leads to as well
abbrev pub RefusalKeepsKind : Type 0
RefusalKeepsKind = (p : ContainerParser) (s : List ℕ) (w : FileRefusal) (q : ContainerParser) (c : ℕ) → step_of p s ≡ refuses w q c → kind_of q ≡ kind_of p

-- joiner: of events whose payloads end at the totals that they carry, as those of a parser do, it hands back the joined ones
abbrev pub JoinerJoins : Type 0
JoinerJoins = (es : List FileEvent) → All (λ (e : FileEvent). EndsAt e.total e.event) es → run None es ≡ joined es

-- and so, of a file cut in any packets, exactly what the grammar lists
abbrev pub JoinerListsTheFile : Type 0
JoinerListsTheFile = (xs : List (List ℕ)) → without_totals (run None (events (feeding fresh xs))) ≡ (file (bytes_of xs)).events
