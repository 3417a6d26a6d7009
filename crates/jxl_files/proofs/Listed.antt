-- What is taken by the parser that counts is what the rules on boxes take of the input that is there, with totals and the limit.
use mathlib.Core.Path.{◌≡◌, refl, sym, ap, ◌∙◌, subst}
use mathlib.Core.Bool.{Bool, true, false}
use mathlib.Core.List.{List, [], ◌∷◌}
use Prim.Native.Nat.{ℕ, ◌+◌, ◌-◌, ◌≤◌}
use native.Mathlib.Omega.{arith}
use lib.Dec.{ltb}
use lib.ListN.{length, take, drop, length-drop}
use lib.Seq.{take_all}
use borrow.Author.Tests.{ltb-true, ltb-false, lt-ltb, le-ltb}
use Rattle.jxl_refusals.specs.declared.BoxRefusal.{BoxRefusal}
use Rattle.jxl_refusals.specs.declared.BoxRefusal.TheVariants.{StreamLimit}
use Rattle.jxl_record.specs.Record as Record
use Rattle.jxl_record.specs.declared.BoxParser.{BoxParser}
use Rattle.jxl_events.specs.Event.{shifted}
use Rattle.jxl_events.specs.Total.{without_totals}
use Rattle.jxl_events.specs.declared.ParseEvent.{ParseEvent}
use Rattle.jxl_grammar.specs.Step as Rules
use Rattle.jxl_grammar.specs.Feeding as Boxes
use Rattle.jxl_grammar.specs.Grammar as Grammar
use Rattle.jxl_grammar.specs.Theorems as BoxTheorems
use Rattle.jxl_grammar.proofs.Laws as BoxLaws
use Rattle.jxl_grammar.proofs.Taking as BoxTaking
use Rattle.jxl_grammar.proofs.Theorems as BoxProofs
use Rattle.jxl_base.proofs.Never.{never}
use Rattle.jxl_totals.specs.Step.{Told, shows, wants, refuses, limit, fresh, room, visible, beyond, behind, refusal_of, refused, wanting, step_of}
use Rattle.jxl_totals.specs.Feeding.{Seen, want, events, Takes, more, waits, ends}
use Rattle.jxl_totals.specs.Feeding as Feeding
use Rattle.jxl_grammar.specs.End.{Close, missing, close_at, close_of}
use Rattle.jxl_grammar.proofs.Listed.{refused_close}
use Rattle.jxl_cuts.proofs.Theorems as AnyMachine
use Rattle.jxl_files.specs.Files.{limited_stop, limited_close, file}
use Rattle.jxl_files.specs.Theorems.{rule_in, close_in, AsBefore}
use Rattle.jxl_totals.specs.declared.ContainerParser.{ContainerParser}
use Rattle.jxl_totals.specs.declared.FileRefusal.{FileRefusal}
use Rattle.jxl_totals.proofs.Counting.{step_by_lem, shown_by, visible_most, visible_behind, not_beyond}
use Rattle.jxl_totals.proofs.Taking.{takes}

-- what the rules tell where more is wanted, and where a step refuses
module _ (p : ContainerParser) (s : List ℕ) where
  pub wanted_by : {q : ContainerParser} {c : ℕ} → step_of p s ≡ wants q c → (Rules.step_of p.boxes (visible p s) ≡ wants q.boxes c) × (beyond p s ≡ false)
  wanted_by {q} {c} h = go (Rules.step_of p.boxes (visible p s)) refl
    where
      by : (b : Bool) (o : BoxParser) (n : ℕ) → wanting b p o n ≡ wants q c → (◌≡◌ {A = Rules.Told} (wants o n) (wants q.boxes c)) × (b ≡ false)
      by true o n k = never cc
      by false o n k =
          let next : behind p o n ≡ q = cc in
          let far : n ≡ c = cc in
          ((λ i. wants (next i).boxes (far i)), refl)

      go : (t : Rules.Told) → Rules.step_of p.boxes (visible p s) ≡ t → (t ≡ wants q.boxes c) × (beyond p s ≡ false)
      go (shows e o n) k = let told = sym (step_by_lem p s k) ∙ h in never cc
      go (wants o n) k = by (beyond p s) o n (sym (step_by_lem p s k) ∙ h)
      go (refuses r o n) k = let told = sym (step_by_lem p s k) ∙ h in never cc

  -- a refusal of the rules, or the limit
  pub data Refusing (w : FileRefusal) (q : ContainerParser) (c : ℕ) : Type 0 where
    by_the_rule : {o : BoxParser} → Rules.step_of p.boxes (visible p s) ≡ refuses w.rule o c → q ≡ refused p o c → w ≡ refusal_of w.rule q → Refusing w q c
    by_limit : {o : BoxParser} → Rules.step_of p.boxes (visible p s) ≡ wants o c → beyond p s ≡ true → q ≡ behind p (Rules.refused StreamLimit o) c
        → w ≡ refusal_of StreamLimit q → Refusing w q c

  pub refusing_by : {w : FileRefusal} {q : ContainerParser} {c : ℕ} → step_of p s ≡ refuses w q c → Refusing w q c
  refusing_by {w} {q} {c} h = go (Rules.step_of p.boxes (visible p s)) refl
    where
      by : (b : Bool) → beyond p s ≡ b → (o : BoxParser) (n : ℕ) → Rules.step_of p.boxes (visible p s) ≡ wants o n → wanting b p o n ≡ refuses w q c → Refusing w q c
      by true e o n k l =
          let next : behind p (Rules.refused StreamLimit o) n ≡ q = cc in
          let far : n ≡ c = cc in
          let why : refusal_of StreamLimit (behind p (Rules.refused StreamLimit o) n) ≡ w = cc in
          by_limit (k ∙ ap (wants o) far) e (sym next ∙ ap (behind p (Rules.refused StreamLimit o)) far) (sym why ∙ ap (refusal_of StreamLimit) next)
      by false e o n k l = never cc

      go : (t : Rules.Told) → Rules.step_of p.boxes (visible p s) ≡ t → Refusing w q c
      go (shows e o n) k = let told = sym (step_by_lem p s k) ∙ h in never cc
      go (wants o n) k = by (beyond p s) refl o n k (sym (step_by_lem p s k) ∙ h)
      go (refuses r o n) k =
          let told = sym (step_by_lem p s k) ∙ h in
          let next : refused p o n ≡ q = cc in
          let far : n ≡ c = cc in
          let why : refusal_of r (refused p o n) ≡ w = cc in
          let rule : r ≡ w.rule = ap (λ (x : FileRefusal). x.rule) why in
          by_the_rule (k ∙ (λ i. refuses (rule i) o (far i))) (sym next ∙ ap (refused p o) far) (sym why ∙ (λ i. refusal_of (rule i) (next i)))

-- what was seen, and what the rules saw of the input that is there
pub record Follows (more : Bool) (r : Seen) (u : List ℕ) (b : Boxes.Seen) (v : List ℕ) : Type 0 where
  pub events_are : without_totals (events r) ≡ Boxes.events b
  pub consumed_is : r.consumed ≡ b.consumed
  pub stop_is : rule_in r.stop ≡ limited_stop more b.stop
  pub close_is : close_of r.next.boxes u ≡ limited_close more (close_of b.next v)

stop_rule : (more : Bool) (r : BoxRefusal) → limited_stop more (Grammar.refused r) ≡ Grammar.refused r
stop_rule true r = refl
stop_rule false r = refl

close_missing : (more : Bool) → limited_close more missing ≡ missing
close_missing true = refl
close_missing false = refl

close_limited : (n : ℕ) (more : Bool) (w : Close) → close_at n (limited_close more w) ≡ limited_close more (close_at n w)
close_limited n true w = refl
close_limited n false w = refl

beyond_behind : (p : ContainerParser) (q : BoxParser) (c : ℕ) (s : List ℕ) → c ≤ length (visible p s) → beyond (behind p q c) (drop c s) ≡ beyond p s
beyond_behind p q c s h = go (beyond p s) refl
  where
    go : (t : Bool) → beyond p s ≡ t → beyond (behind p q c) (drop c s) ≡ t
    go true e = lt-ltb (limit - (p.total + c)) (length (drop c s)) (omega (arith, length-drop c s, ltb-true (room p) (length s) e, (visible_most p s).0, (visible_most p s).1))
    go false e = le-ltb (limit - (p.total + c)) (length (drop c s)) (omega (arith, length-drop c s, ltb-false (room p) (length s) e))

pub follows : {p : ContainerParser} {at : ℕ} {s u : List ℕ} {r : Seen} → Takes p at s r u
    → (b : Boxes.Seen) × (v : List ℕ) × Boxes.Takes p.boxes at (visible p s) b v × Follows (beyond p s) r u b v
follows {p} {at} {s} (more {q = q} {c = c} {e = e} {r = r} k t) =
    let first = shown_by p s k in
    let most = (rw first.0 at (BoxLaws.every_step p.boxes (visible p s))).0 in
    let there : visible q (drop c s) ≡ drop c (visible p s) = ap (λ (x : ContainerParser). visible x (drop c s)) first.1 ∙ visible_behind p q.boxes c s most in
    let still : beyond q (drop c s) ≡ beyond p s = ap (λ (x : ContainerParser). beyond x (drop c s)) first.1 ∙ beyond_behind p q.boxes c s most in
    let then = follows t in (
      Boxes.followed (Boxes.placed at (visible p s) e.event c ∷ []) then.0,
      then.1,
      Boxes.more first.0 (subst (λ (l : List ℕ). Boxes.Takes q.boxes (at + c) l then.0 then.1) there then.2),
      record {
        events_are = ap (λ (es : List ParseEvent). shifted at e.event ∷ es) then.3.events_are;
        consumed_is = then.3.consumed_is;
        stop_is = then.3.stop_is ∙ ap (λ (b : Bool). limited_stop b then.0.stop) still;
        close_is = then.3.close_is ∙ ap (λ (b : Bool). limited_close b (close_of then.0.next then.1)) still;
      },
    )
follows {p} {at} {s} (waits {q = q} {c = c} k) =
    let by = wanted_by p s k in (
      Boxes.stops Grammar.want q.boxes (at + c),
      drop c (visible p s),
      Boxes.waits by.0,
      record {
        events_are = refl;
        consumed_is = refl;
        stop_is = ap (λ (b : Bool). limited_stop b Grammar.want) (sym by.1);
        close_is = ap (λ (l : List ℕ). close_of q.boxes (drop c l)) (sym (not_beyond p s by.1)) ∙ ap (λ (b : Bool). limited_close b (close_of q.boxes (drop c (visible p s)))) (sym by.1);
      },
    )
follows {p} {at} {s} (ends {q = q} {c = c} {w = w} k) = go (refusing_by p s k)
  where
    go : Refusing p s w q c → (b : Boxes.Seen) × (v : List ℕ) × Boxes.Takes p.boxes at (visible p s) b v × Follows (beyond p s) (Feeding.stops (Feeding.refused w) q (at + c)) (drop c s) b v
    go (by_the_rule {o = o} h next why) = (
      Boxes.stops (Grammar.refused w.rule) o (at + c),
      drop c (visible p s),
      Boxes.ends h,
      record {
        events_are = refl;
        consumed_is = refl;
        stop_is = sym (stop_rule (beyond p s) w.rule);
        close_is =
            let repeats = (rw h at (BoxLaws.every_step p.boxes (visible p s))).1 in
            ap (λ (x : ContainerParser). close_of x.boxes (drop c s)) next ∙ refused_close w.rule o (drop c s) repeats
            ∙ sym (ap (limited_close (beyond p s)) (refused_close w.rule o (drop c (visible p s)) repeats) ∙ close_missing (beyond p s));
      },
    )
    go (by_limit {o = o} h e next why) = (
      Boxes.stops Grammar.want o (at + c),
      drop c (visible p s),
      Boxes.waits h,
      record {
        events_are = refl;
        consumed_is = refl;
        stop_is = ap (λ (x : FileRefusal). Grammar.refused x.rule) why ∙ ap (λ (b : Bool). limited_stop b Grammar.want) (sym e);
        close_is =
            ap (λ (x : ContainerParser). close_of x.boxes (drop c s)) next
            ∙ refused_close StreamLimit (Rules.refused StreamLimit o) (drop c s) (BoxLaws.refused_repeats (Record.kind_of o) StreamLimit o.jxlp)
            ∙ ap (λ (b : Bool). limited_close b (close_of o (drop c (visible p s)))) (sym e);
      },
    )

-- a whole file fed to a fresh parser
pub whole : (s : List ℕ) → (without_totals (events (Feeding.take fresh s)) ≡ (file s).events) × ((Feeding.take fresh s).consumed ≡ (file s).consumed)
    × (rule_in (Feeding.take fresh s).stop ≡ (file s).stop) × (close_in s (Feeding.take fresh s) ≡ (file s).close)
unfolding file
whole s =
    let got = takes fresh 0 s in
    let by = follows got.1 in
    let seen : by.0 ≡ Boxes.take Record.fresh 0 (take limit s) = sym (BoxTaking.take_is by.2) in
    let all : by.0.consumed - 0 ≡ by.0.consumed = omega arith in
    let left : by.1 ≡ drop by.0.consumed (take limit s) = (AnyMachine.unread by.2).1 ∙ ap (λ (n : ℕ). drop n (take limit s)) all in
    let lists : BoxTheorems.listing by.1 by.0 ≡ Grammar.file (take limit s) =
    ap (λ (u : List ℕ). BoxTheorems.listing u by.0) left
    ∙ ap (λ (r : Boxes.Seen). BoxTheorems.listing (drop r.consumed (take limit s)) r) (seen ∙ sym (BoxProofs.whole_feed Record.fresh 0 (take limit s)))
    ∙ BoxProofs.whole_file (take limit s) in
    let c = (Feeding.take fresh s).consumed in
    let every : c - 0 ≡ c = omega arith in
    let unread : drop c s ≡ got.0 = sym ((AnyMachine.unread got.1).1 ∙ ap (λ (n : ℕ). drop n s) every) in
    let more = ltb limit (length s) in (
      by.3.events_are ∙ ap (λ (l : Grammar.Listing). l.events) lists,
      by.3.consumed_is ∙ ap (λ (l : Grammar.Listing). l.consumed) lists,
      by.3.stop_is ∙ ap (λ (l : Grammar.Listing). limited_stop more l.stop) lists,
      ap (λ (u : List ℕ). close_at c (close_of (Feeding.take fresh s).next.boxes u)) unread
          ∙ ap (close_at c) by.3.close_is
          ∙ close_limited c more (close_of by.0.next by.1)
          ∙ ap (λ (n : ℕ). limited_close more (close_at n (close_of by.0.next by.1))) by.3.consumed_is
          ∙ ap (λ (l : Grammar.Listing). limited_close more l.close) lists,
    )

pub as_before : AsBefore
unfolding file
as_before s h = rw (le-ltb limit (length s) h, take_all limit s h)
