-- The joiner hands back the joined events.
use mathlib.Core.Path.{◌≡◌, refl, sym, ap, ◌∙◌}
use mathlib.Core.Bool.{Bool, true, false}
use mathlib.Core.List.{List, [], ◌∷◌, ◌++◌}
use Rattle.std.specs.Prelude.{Some}
use Rattle.jxl_headers.specs.Bytes.{if}
use Rattle.jxl_events.specs.declared.ParseEvent.{ParseEvent}
use Rattle.jxl_parts.specs.Joined.{joins}
use Rattle.jxl_events.specs.Event.{length_of}
use Rattle.jxl_events.specs.Total.{carrying, in_file, EndsAt, without_totals}
use Rattle.jxl_events.specs.declared.FileEvent.{FileEvent}
use Rattle.jxl_events.proofs.Shifted.{in_file_there}
use Rattle.jxl_joiner.specs.Joiner.{putting, handed, run}
use Rattle.jxl_parts.proofs.Parts.{joins_longer, OnePart, one_part}
use Rattle.jxl_totals.specs.Parser.{joined_parts}
use Rattle.jxl_totals.specs.Step.{fresh}
use Rattle.jxl_totals.specs.Feeding.{Shown, before, joined, events, events_in, feeding}
use Rattle.jxl_files.specs.Theorems.{All}
use Rattle.jxl_files.proofs.Counts.{payload_places}
use Rattle.jxl_files.proofs.Theorems.{cut_file}
use Rattle.jxl_grammar.specs.Grammar.{Listing}
use Rattle.jxl_file_laws.specs.Theorems.{JoinerJoins, JoinerListsTheFile}

-- an event that the next does not join stays apart from it, however long that one grows
keep_apart : (h e : FileEvent) (es : List FileEvent) → joins h.event e.event ≡ false → before h (before e es) ≡ h ∷ before e es
keep_apart h e [] n = rw n
keep_apart h e (f ∷ es) n = go (joins e.event f.event)
  where
    go : (t : Bool) → before h (if t (joined_parts e f ∷ es) (e ∷ f ∷ es)) ≡ h ∷ if t (joined_parts e f ∷ es) (e ∷ f ∷ es)
    go true = rw (joins_longer h.event e.event (length_of f.event) ∙ n)
    go false = rw n

join_twice : (h e : FileEvent) (es : List FileEvent) → joins h.event e.event ≡ true → before h (before e es) ≡ before (joined_parts h e) es
join_twice h e [] j = rw j
join_twice h e (f ∷ es) j = go (joins e.event f.event) refl (one_part h.event e.event j)
  where
    go : (t : Bool) → joins e.event f.event ≡ t → OnePart h.event e.event → before h (before e (f ∷ es)) ≡ before (joined_parts h e) (f ∷ es)
    go true k one =
        rw (k, joins_longer h.event e.event (length_of f.event) ∙ j, one.same_end f.event ∙ k)
        (ap (λ (d : ParseEvent). carrying d f.total ∷ es) (one.grows (length_of f.event)))
    go false k one = rw (k, j, one.same_end f.event ∙ k)

-- events at their places in the file
abbrev Placed : FileEvent → Type 0
Placed e = EndsAt e.total e.event

run_joined : (h : FileEvent) (es : List FileEvent) → Placed h → All Placed es → run (Some h) es ≡ before h (joined es)
run_joined h [] c cs = refl
run_joined h (e ∷ es) c (k, ks) = there (in_file_there e k) ∙ go (joins h.event e.event) refl (run_joined e es k ks) (λ w. run_joined (joined_parts h e) es w ks)
  where
    there : in_file e ≡ e → run (Some h) (e ∷ es) ≡ handed (putting h e).out ++ run (putting h e).next.held es
    there same = ap (λ (x : FileEvent). handed (putting h x).out ++ run (putting h x).next.held es) same

    go : (t : Bool) → joins h.event e.event ≡ t → run (Some e) es ≡ before e (joined es)
        → (Placed (joined_parts h e) → run (Some (joined_parts h e)) es ≡ before (joined_parts h e) (joined es))
        → handed (putting h e).out ++ run (putting h e).next.held es ≡ before h (before e (joined es))
    go true j apart grown =
        let one = (one_part h.event e.event j).reaches h.total e.total c k in
        rw j
        (ap (λ (d : ParseEvent). run (Some (carrying d e.total)) es) one.0
        ∙ grown one.1
        ∙ sym (join_twice h e (joined es) j))
    go false j apart grown = rw j (ap (λ (l : List FileEvent). h ∷ l) apart ∙ sym (keep_apart h e (joined es) j))

pub joiner_joins : JoinerJoins
joiner_joins [] c = refl
joiner_joins (e ∷ es) (c, cs) = ap (λ (x : FileEvent). run (Some x) es) (in_file_there e c) ∙ run_joined e es c cs

-- of a parser's events
shown_placed : (xs : List Shown) → All (λ (x : Shown). Placed x.event) xs → All Placed (events_in xs)
shown_placed [] a = tt
shown_placed (x ∷ xs) (p, a) = (p, shown_placed xs a)

pub joiner_lists_the_file : JoinerListsTheFile
joiner_lists_the_file xs =
    ap without_totals (joiner_joins (events (feeding fresh xs)) (shown_placed (feeding fresh xs).shown (payload_places fresh xs)))
    ∙ ap (λ (l : Listing). l.events) (cut_file xs)
