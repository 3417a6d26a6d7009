-- A turn that the parser ended takes what feeding takes.
use mathlib.Core.Path.{◌≡◌, refl, sym, ap, ◌∙◌, subst}
use mathlib.Core.List.{List, [], ◌∷◌, ◌++◌, append_assoc}
use Prim.Native.Nat.{ℕ, ◌+◌}
use native.Mathlib.Omega.{arith}
use lib.ListN.{drop}
use Rattle.std.specs.Prelude.{Option, Some}
use Rattle.jxl_events.specs.declared.FileEvent.{FileEvent}
use Rattle.jxl_totals.specs.Feeding.{Stop, Seen, events, followed, placed, stops, want, refused}
use Rattle.jxl_totals.specs.Feeding as Feeding
use Rattle.jxl_files.specs.Theorems.{rule_in}
use Rattle.jxl_totals.specs.declared.ContainerParser.{ContainerParser}
use Rattle.jxl_totals.proofs.Taking.{take_is}
use Rattle.jxl_joiner.specs.Joiner.{adding, handed, run}
use Rattle.jxl_joiner.specs.declared.Added.{Added}
use Rattle.jxl_lines.specs.Lines.{text}
use Rattle.jxl_lines.specs.declared.Line.TheVariants as L
use Rattle.jxl_lines.specs.declared.StopWord.{StopWord}
use Rattle.jxl_list_rules.specs.Listed.{stop_of, lines_of}
use Rattle.jxl_list_rules.specs.Theorems.{Feeds, TurnFeeds}
use Rattle.jxl_list_rules.specs.Turned.{Turned, over, behind, line_of, held_then}
use Rattle.jxl_list_rules.proofs.Text.{shown_counts, taken_shown}
use Rattle.jxl_list_rules.proofs.Turning.{adding_further}
use Rattle.jxl_list_rules.proofs.Goes.{Goes, puts, lacks, waits, ends, went}

pub lines_append : (a b : List FileEvent) → lines_of (a ++ b) ≡ lines_of a ++ lines_of b
lines_append [] b = refl
lines_append (e ∷ es) b =
    ap (λ (l : List ℕ). text (L.Shown e.event) ++ l) (lines_append es b) ∙ sym (append_assoc (text (L.Shown e.event)) (lines_of es) (lines_of b))

-- at the stop the joiner hands back what it holds
at_stop : (p : ContainerParser) (h : Option FileEvent) (x : Stop) (q : ContainerParser) (k n : ℕ) {w : StopWord} {e : Option StopWord} → p.total + k ≡ n → w ≡ stop_of (rule_in x)
    → Feeds p h (stops x q n) w (over e q h k)
at_stop p h x q k n there same = record { lines_are = λ es. refl; parser_is = refl; consumed_is = there; stop_is = same }

-- an event's line goes in front of the others, as the joiner hands it back first
one_more_lem : {p : ContainerParser} {h : Option FileEvent} {w : StopWord} {f : Seen} {t : Turned} (at : ℕ) (s : List ℕ) (e : FileEvent) (c : ℕ) → Feeds p (held_then h e) f w t
    → Feeds p h (followed (placed at s e c ∷ []) f) w (behind (line_of h e) t)
one_more_lem {p} {h} {w} {f} {t} at s e c r =
    let l = line_of h e in
    record {
      lines_are =
          λ es. append_assoc l t.lines (lines_of (run t.held es))
          ∙ ap (λ (x : List ℕ). l ++ x) (r.lines_are es)
          ∙ sym (lines_append (handed (adding h e).out) (run (held_then h e) (events f ++ es)))
          ∙ ap (λ (x : Added). lines_of (handed x.out ++ run x.next.held (events f ++ es))) (sym (adding_further h at e));
      parser_is = r.parser_is;
      consumed_is = r.consumed_is;
      stop_is = r.stop_is;
    }

-- of a turn that began with the record p₀
module _ (p₀ : ContainerParser) (s : List ℕ) (w : StopWord) where
  -- what is to be proved of a turn from k on
  abbrev FeedsFrom : ContainerParser → Option FileEvent → ℕ → Turned → Type 0
  FeedsFrom p h k t = t.stop ≡ Some w → Feeds p₀ h (Feeding.take p (drop k s)) w t

  -- what the feed came to, put for it
  taken : (p : ContainerParser) (h : Option FileEvent) (k : ℕ) {t u : Turned} {f : Seen} → u ≡ t → Feeding.take p (drop k s) ≡ f → (t.stop ≡ Some w → Feeds p₀ h f w t)
      → FeedsFrom p h k u
  taken p h k {t} so came r =
      subst (FeedsFrom p h k) (sym so) (λ stop. subst (λ (f : Seen). Feeds p₀ h f w t) (sym came) (r stop))

  feeds : {room k : ℕ} {p : ContainerParser} {h : Option FileEvent} {t : Turned} → p.total ≡ p₀.total + k → Goes s room p h k t → FeedsFrom p h k t
  feeds {k = k} {p = p} {h = h} here (puts {m = m} {c = c} {q = q} {t = t} {e = e} st at fits so g) =
      let there : q.total ≡ p₀.total + m = omega (arith, here, at, (shown_counts p (drop k s) st).next_total) in
      taken p h k so
      (taken_shown p s k st ∙ ap (λ (x : ℕ). followed (placed p.total (drop k s) e c ∷ []) (Feeding.take q (drop x s))) (sym at))
      (λ stop. one_more_lem p.total (drop k s) e c (feeds there g stop))
  feeds here (lacks st none so) = λ stop. absurd (let z : ◌≡◌ {A = ℕ} 0 1 = cc in omega arith)
  feeds {k = k} {p = p} {h = h} here (waits {c = c} {q = q} st so) =
      taken p h k so (take_is (Feeding.waits st)) (λ stop. at_stop p₀ h want q (k + c) (p.total + c) (omega (arith, here)) (cc))
  feeds {k = k} {p = p} {h = h} here (ends {c = c} {r = r} {q = q} st so) =
      taken p h k so (take_is (Feeding.ends st)) (λ stop. at_stop p₀ h (refused r) q (k + c) (p.total + c) (omega (arith, here)) (cc))

pub turn_feeds : TurnFeeds
turn_feeds s room p h w = feeds p s w (omega arith) (went s room p h)
