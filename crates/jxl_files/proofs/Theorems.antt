-- Every file, every cut: the theorems, each under the name that docs/PROMISES.md gives it.
use mathlib.Core.Path.{◌≡◌, refl, sym, ap, ◌∙◌, subst}
use mathlib.Core.List.{List, [], ◌∷◌, ◌++◌}
use Prim.Native.Nat.{ℕ, ◌+◌}
use native.Mathlib.Omega.{arith}
use lib.ListN.{drop}
use Rattle.jxl_cuts.specs.Theorems as AnyTheorems
use Rattle.jxl_cuts.specs.Feeding as AnyFeeding
use Rattle.jxl_cuts.proofs.Theorems as AnyMachine
use Rattle.jxl_cuts.proofs.Payloads as AnyPayloads
use Rattle.jxl_refusals.specs.Refusals.{why, in_document01, merged}
use Rattle.jxl_refusals.proofs.Merging.{merges_back}
use Rattle.jxl_events.specs.Total.{without_totals}
use Rattle.jxl_events.specs.declared.FileEvent.{FileEvent}
use Rattle.jxl_grammar.specs.Grammar as Grammar
use Rattle.jxl_grammar.specs.Naming.{stop_as, listing_as}
use Rattle.jxl_grammar.specs.End.{close_at, close_of}
use Rattle.jxl_totals.specs.Step.{fresh}
use Rattle.jxl_totals.specs.Parser.{parser}
use Rattle.jxl_totals.specs.Feeding.{Seen, events, joined, take, feeding, bytes_of}
use Rattle.jxl_files.specs.Files.{file}
use Rattle.jxl_files.specs.Theorems.{rule_in, listing_with, listing, EveryFile, EveryCutOfAFile, EveryCutByName, EveryCutMergesBack, EveryCut, NothingToJoin, BytesShown, MostUnread, MostUnreadOfPackets, MostEvents, AtMostMore, AlwaysEnds, EndsByItself, OneWay, All}
use Rattle.jxl_totals.specs.declared.ContainerParser.{ContainerParser}
use Rattle.jxl_totals.proofs.Lawful.{lawful}
use Rattle.jxl_totals.proofs.Laws.{empty_feed}
use Rattle.jxl_files.proofs.Listed.{whole, as_before}

-- a file fed whole
pub whole_feed : (p : ContainerParser) (s : List ℕ) → feeding p (s ∷ []) ≡ take p s
whole_feed p s = AnyMachine.whole_feed parser p p.total s

pub nothing_to_join : NothingToJoin
nothing_to_join p s = AnyMachine.nothing_to_join parser lawful p p.total s

pub every_cut : EveryCut
every_cut p xs r = AnyMachine.every_cut parser lawful p p.total xs (empty_feed p r)

-- by the rule that broke: the events as they come, and joined
whole_events : (s : List ℕ) → listing_with (events (take fresh s)) s (take fresh s) ≡ file s
whole_events s = let w = whole s in (λ i. record { events = w.0 i; consumed = w.1 i; stop = w.2 i; close = w.3 i })

pub whole_file : (s : List ℕ) → listing s (take fresh s) ≡ file s
whole_file s = ap (λ (es : List FileEvent). listing_with es s (take fresh s)) (nothing_to_join fresh s) ∙ whole_events s

-- packets list what all their bytes do
cut_listing : (xs : List (List ℕ)) → listing (bytes_of xs) (feeding fresh xs) ≡ listing (bytes_of xs) (take fresh (bytes_of xs))
cut_listing xs =
    let cut = every_cut fresh xs refl in
    let all = whole_feed fresh (bytes_of xs) in
    let same : joined (events (feeding fresh xs)) ≡ joined (events (take fresh (bytes_of xs))) =
    cut.events_are ∙ ap events all ∙ sym (nothing_to_join fresh (bytes_of xs)) in
    let consumed = cut.consumed_is ∙ ap (λ (r : Seen). r.consumed) all in
    let next = cut.next_is ∙ ap (λ (r : Seen). r.next) all in
    (λ i. record {
      events = without_totals (same i);
      consumed = consumed i;
      stop = rule_in ((cut.stop_is ∙ ap (λ (r : Seen). r.stop) all) i);
      close = close_at (consumed i) (close_of (next i).boxes (drop (consumed i) (bytes_of xs)));
    })

pub cut_file : (xs : List (List ℕ)) → listing (bytes_of xs) (feeding fresh xs) ≡ file (bytes_of xs)
cut_file xs = cut_listing xs ∙ whole_file (bytes_of xs)

pub every_file : EveryFile
every_file s = ap (listing_as why) (ap (λ (r : Seen). listing_with (events r) s r) (whole_feed fresh s) ∙ whole_events s)

pub every_cut_of_a_file : EveryCutOfAFile
every_cut_of_a_file xs = ap (listing_as why) (cut_file xs)

pub every_cut_by_name : EveryCutByName
every_cut_by_name name xs = ap (listing_as name) (cut_file xs)

stop_merges : (w : Grammar.Stop) → stop_as merged (stop_as why w) ≡ stop_as in_document01 w
stop_merges Grammar.want = refl
stop_merges (Grammar.refused r) = ap Grammar.refused (merges_back r)

pub every_cut_merges_back : EveryCutMergesBack
every_cut_merges_back xs h =
    let l = listing (bytes_of xs) (feeding fresh xs) in
    (λ i. record { events = l.events; consumed = l.consumed; stop = stop_merges l.stop i; close = l.close })
    ∙ ap (listing_as in_document01) (cut_file xs ∙ as_before (bytes_of xs) h)

pub bytes_shown : BytesShown
bytes_shown p front xs l =
    subst (λ (n : ℕ). All (AnyTheorems.Right parser (front ++ bytes_of xs)) (AnyFeeding.feeding parser p n xs).shown) l
    (AnyPayloads.bytes_shown parser lawful p front xs)

pub most_unread : MostUnread
most_unread p s = AnyMachine.most_unread parser lawful p p.total s

pub most_unread_of_packets : MostUnreadOfPackets
most_unread_of_packets p xs r e = AnyMachine.most_unread_of_packets parser lawful p p.total xs (empty_feed p r) e

pub most_events_lem : MostEvents
most_events_lem p x xs = omega (arith, AnyMachine.most_events_lem parser lawful p p.total x xs)

pub at_most_more : AtMostMore
at_most_more p x xs = AnyMachine.at_most_more parser lawful p p.total x xs

pub always_ends : AlwaysEnds
always_ends p s turns h = AnyMachine.always_ends parser lawful p p.total s turns (omega arith)

pub ends_by_itself : EndsByItself
ends_by_itself p s = AnyMachine.ends_by_itself parser lawful p p.total s

pub one_way : OneWay
one_way p s = AnyMachine.one_way parser lawful p p.total s
