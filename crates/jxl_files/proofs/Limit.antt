-- The limit, told exactly.
use mathlib.Core.Path.{◌≡◌, sym, ap, ◌∙◌, subst}
use mathlib.Core.Bool.{false}
use mathlib.Core.List.{List, [], ◌∷◌}
use Prim.Native.Nat.{ℕ, ◌-◌, ◌<◌, ◌≤◌}
use native.Mathlib.Omega.{arith}
use lib.ListN.{length, length-drop, length-take}
use borrow.Author.Tests.{ltb-true, ltb-false}
use Rattle.jxl_refusals.specs.declared.BoxRefusal.{BoxRefusal}
use Rattle.jxl_refusals.specs.declared.BoxRefusal.TheVariants.{StreamLimit}
use Rattle.jxl_events.specs.declared.FileEvent.{FileEvent}
use Rattle.jxl_cuts.proofs.Theorems as AnyMachine
use Rattle.jxl_grammar.proofs.Laws as BoxLaws
use Rattle.jxl_totals.specs.Step.{shows, limit, is_refused, room, visible, refused, step_of}
use Rattle.jxl_totals.specs.Parser.{parser}
use Rattle.jxl_totals.specs.Feeding.{Seen, want, Takes, more, waits, ends, take as takeAll, feeding, bytes_of}
use Rattle.jxl_totals.specs.Feeding as Feeding
use Rattle.jxl_files.specs.Theorems.{WantsWithin, LimitMeansBeyond}
use Rattle.jxl_totals.specs.declared.ContainerParser.{ContainerParser}
use Rattle.jxl_totals.specs.declared.FileRefusal.{FileRefusal}
use Rattle.jxl_totals.proofs.Marks.{Own, marks}
use Rattle.jxl_totals.proofs.Counting.{shown_by}
use Rattle.jxl_totals.proofs.Lawful.{lawful}
use Rattle.jxl_totals.proofs.Laws.{empty_feed}
use Rattle.jxl_totals.proofs.Taking.{takes}
use Rattle.jxl_files.proofs.Listed.{Refusing, by_the_rule, by_limit, wanted_by, refusing_by}
use Rattle.jxl_base.proofs.Never.{never}

-- of the bytes there, no fewer lie beyond behind an event than before it
module _ (p : ContainerParser) (s : List ℕ) {e : FileEvent} {q : ContainerParser} {c : ℕ} (k : step_of p s ≡ shows e q c) where
  less_room : room q ≡ room p - c
  less_room = let next = (shown_by p s k).1 in ap (λ (x : ContainerParser). limit - x.total) next ∙ omega arith

  there : (c ≤ room p) × (c ≤ length s)
  there = let most = (rw (shown_by p s k).0 at (BoxLaws.every_step p.boxes (visible p s))).0 in
      (omega (arith, most, length-take (room p) s), omega (arith, most, length-take (room p) s))

-- where more is wanted
wants_inside : {p : ContainerParser} {at : ℕ} {s u : List ℕ} {r : Seen} → Takes p at s r u → r.stop ≡ want → length s ≤ room p
wants_inside {p} {s = s} (more {c = c} k t) w = omega (arith, wants_inside t w, less_room p s k, (there p s k).0, length-drop c s)
wants_inside {p} {s = s} (waits k) w = ltb-false (room p) (length s) (wanted_by p s k).1
wants_inside (ends k) w = never cc

-- the rules' own refusals are not the limit
not_own : (r : BoxRefusal) → Own r → r ≡ StreamLimit → ⊥
not_own r o e = subst Own e o

limit_beyond : {p : ContainerParser} {at : ℕ} {s u : List ℕ} {r : Seen} (w : FileRefusal) → is_refused p ≡ false → Takes p at s r u → r.stop ≡ Feeding.refused w
    → w.rule ≡ StreamLimit → room p < length s
limit_beyond {p} {s = s} w o (more {q = q} {c = c} k t) h l =
    let by = shown_by p s k in
    let after = (rw by.0 at (marks p.boxes (visible p s))).1 in
    omega (arith, limit_beyond w after t h l, less_room p s k, (there p s k).0, length-drop c s)
limit_beyond w o (waits k) h l = never cc
limit_beyond {p} {s = s} w o (ends {q = q} {c = c} {w = v} k) h l = go (refusing_by p s k)
  where
    same : v ≡ w
    same = cc

    go : Refusing p s v q c → room p < length s
    go (by_the_rule st next why) =
        absurd (not_own v.rule ((rw st at (marks p.boxes (visible p s))) o) (ap (λ (x : FileRefusal). x.rule) same ∙ l))
    go (by_limit st e next why) = ltb-true (room p) (length s) e

-- of packets what is so of all their bytes
module _ (p : ContainerParser) (xs : List (List ℕ)) (r : is_refused p ≡ false) where
  all : feeding p (bytes_of xs ∷ []) ≡ takeAll p (bytes_of xs)
  all = AnyMachine.whole_feed parser p p.total (bytes_of xs)

  stop_is : (takeAll p (bytes_of xs)).stop ≡ (feeding p xs).stop
  stop_is = ap (λ (x : Seen). x.stop) (sym all) ∙ sym (AnyMachine.every_cut parser lawful p p.total xs (empty_feed p r)).stop_is

pub wants_within : WantsWithin
wants_within p xs r w = wants_inside (takes p p.total (bytes_of xs)).1 (stop_is p xs r ∙ w)

pub limit_means_beyond : LimitMeansBeyond
limit_means_beyond p xs w r h l = limit_beyond w r (takes p p.total (bytes_of xs)).1 (stop_is p xs r ∙ h) l
