-- A row of turns is one turn.
use mathlib.Core.Path.{◌≡◌, refl, sym, ap, ◌∙◌, subst}
use mathlib.Core.List.{List, [], ◌∷◌, ◌++◌, append-nil}
use Prim.Native.Nat.{ℕ, suc, ◌+◌, ◌-◌, ◌^◌, ◌<◌, ◌≤◌}
use native.Mathlib.Omega.{arith}
use lib.ListN.{length, drop, length-append}
use lib.Seq.{drop-drop}
use Rattle.std.specs.Prelude.{Option, None, Some}
use Rattle.jxl_events.specs.declared.FileEvent.{FileEvent}
use Rattle.jxl_totals.specs.Step.{step_of}
use Rattle.jxl_totals.specs.Feeding.{Seen, Shown, events_in}
use Rattle.jxl_totals.specs.Feeding as Feeding
use Rattle.jxl_files.specs.Theorems.{All}
use Rattle.jxl_totals.specs.declared.ContainerParser.{ContainerParser}
use Rattle.jxl_refusals.specs.Refusals.{why}
use Rattle.jxl_lines.specs.Lines.{printed}
use Rattle.jxl_lines.specs.declared.StopWord.{StopWord}
use Rattle.jxl_lines.specs.declared.StopWord.TheVariants as S
use Rattle.jxl_list_rules.specs.Theorems.{Feeds, HeldFits, TurnsGoOn, RowIsOneTurn, RowWithRoom, RowFeeds, RowEnds}
use Rattle.jxl_list_rules.specs.Turned.{Turned, over, behind, line_of, turn_of}
use Rattle.jxl_list_rules.specs.Row.{goes_on, row_by, row_of}
use Rattle.jxl_list_rules.proofs.Text.{count, taken_shown}
use Rattle.jxl_list_rules.proofs.Turning.{behind_behind}
use Rattle.jxl_list_rules.proofs.Goes.{Goes, puts, lacks, waits, ends, went, comes}
use Rattle.jxl_list_rules.proofs.Feeds.{turn_feeds}
use Rattle.jxl_list_rules.proofs.Full.{turn_keeps_fit, turn_advances}

-- a turn whose input stands c bytes further on in another
abbrev forward : ℕ → Turned → Turned
forward c t = record { lines = t.lines; parser = t.parser; held = t.held; consumed = c + t.consumed; stop = t.stop }

module _ (s : List ℕ) where
  -- a turn that ended for want of room, and what comes behind it from there
  spliced : {room next k : ℕ} {p : ContainerParser} {h : Option FileEvent} {t u : Turned} → Goes s room p h k t → t.stop ≡ None
      → Goes s next t.parser t.held t.consumed u → Goes s (length t.lines + next) p h k (behind t.lines u)
  spliced {next = next} {k = k} {p = p} {h = h} {u = u} (puts {t = t} {e = e} st at fits so g) full v =
      let rest = spliced g (sym (ap (λ (x : Turned). x.stop) so) ∙ full) (subst (λ (x : Turned). Goes s next x.parser x.held x.consumed u) so v) in
      let room : length (line_of h e ++ t.lines) + next ≡ length (line_of h e) + (length t.lines + next) = omega (arith, length-append (line_of h e) t.lines) in
      subst (λ (x : Turned). Goes s (length x.lines + next) p h k (behind x.lines u)) (sym so)
      (puts st at room (sym (behind_behind (line_of h e) t.lines u)) rest)
  spliced {next = next} {k = k} {p = p} {h = h} {u = u} (lacks st none so) full v =
      let same : next ≡ 0 + next = omega arith in
      subst (λ (x : Turned). Goes s next x.parser x.held x.consumed u → Goes s (length x.lines + next) p h k (behind x.lines u)) (sym so)
      (subst (λ (n : ℕ). Goes s n p h k u) same) v
  spliced (waits st so) full v = absurd (let z : ◌≡◌ {A = ℕ} 0 1 = cc in omega arith)
  spliced (ends st so) full v = absurd (let z : ◌≡◌ {A = ℕ} 0 1 = cc in omega arith)

  -- a turn on the rest of the input, said of the whole
  moved : (c : ℕ) {room k : ℕ} {p : ContainerParser} {h : Option FileEvent} {t : Turned} → Goes (drop c s) room p h k t → Goes s room p h (c + k) (forward c t)
  moved c {k = k} {p = p} (puts {m = m} {c = n} st at fits so g) =
      let place : c + m ≡ c + k + n = omega (arith, at) in
      puts (ap (step_of p) (sym (drop-drop k c s)) ∙ st) place fits (ap (forward c) so) (moved c g)
  moved c {k = k} {p = p} (lacks st none so) = lacks (ap (step_of p) (sym (drop-drop k c s)) ∙ st) none (ap (forward c) so)
  moved c {k = k} {p = p} {h = h} (waits {c = n} {q = q} st so) =
      waits (ap (step_of p) (sym (drop-drop k c s)) ∙ st) (ap (forward c) so ∙ ap (over (Some S.Want) q h) (let z : c + (k + n) ≡ c + k + n = omega arith in z))
  moved c {k = k} {p = p} {h = h} (ends {c = n} {r = r} {q = q} st so) =
      ends (ap (step_of p) (sym (drop-drop k c s)) ∙ st)
      (ap (forward c) so ∙ ap (over (Some (printed (why r.rule))) q h) (let z : c + (k + n) ≡ c + k + n = omega arith in z))

  -- the room that the lines fill is enough
  filled : {room k : ℕ} {p : ContainerParser} {h : Option FileEvent} {t : Turned} → Goes s room p h k t → Goes s (length t.lines) p h k t
  filled {h = h} (puts {t = t} {e = e} st at fits so g) =
      puts st at (ap (λ (x : Turned). length x.lines) so ∙ length-append (line_of h e) t.lines) so (filled g)
  filled {h = h} {t = t} (lacks {e = e} st none so) =
      let few : length t.lines < length (line_of h e) = omega (arith, none, ap (λ (x : Turned). length x.lines) so) in
      lacks st few so
  filled (waits st so) = waits st so
  filled (ends st so) = ends st so

  -- and so is more, where the parser ended the turn
  enough : {room more k : ℕ} {p : ContainerParser} {h : Option FileEvent} {t : Turned} {w : StopWord} → Goes s room p h k t → t.stop ≡ Some w → length t.lines ≤ more
      → Goes s more p h k t
  enough {more = more} {h = h} (puts {t = t} {e = e} st at fits so g) stop f =
      let size : length (line_of h e) + length t.lines ≤ more = omega (arith, f, ap (λ (x : Turned). length x.lines) so, length-append (line_of h e) t.lines) in
      let left : more ≡ length (line_of h e) + (more - length (line_of h e)) = omega (arith, size) in
      let rest : length t.lines ≤ more - length (line_of h e) = omega (arith, size) in
      puts st at left so (enough g (sym (ap (λ (x : Turned). x.stop) so) ∙ stop) rest)
  enough (lacks st none so) stop f = absurd (let z : ◌≡◌ {A = ℕ} 0 1 = cc in omega arith)
  enough (waits st so) stop f = waits st so
  enough (ends st so) stop f = ends st so

  -- a turn that ended for want of room leaves events to come, and fewer if it put a line
  pub record BytesLeft (p : ContainerParser) (k : ℕ) (t : Turned) : Type 0 where
    pub some : 0 < count t.parser t.consumed s
    pub most : count t.parser t.consumed s ≤ count p k s
    pub fewer : 0 < length t.lines → count t.parser t.consumed s < count p k s

  left_behind : {room k : ℕ} {p : ContainerParser} {h : Option FileEvent} {t : Turned} → Goes s room p h k t → t.stop ≡ None → BytesLeft p k t
  left_behind {k = k} {p = p} (puts {m = m} {q = q} st at fits so g) full =
      let one : count p k s ≡ suc (count q m s) = ap (λ (x : Seen). length x.shown) (taken_shown p s k st) ∙ ap (λ (x : ℕ). suc (count q x s)) (sym at) in
      let rest = left_behind g (sym (ap (λ (x : Turned). x.stop) so) ∙ full) in
      subst (BytesLeft p k) (sym so) (record { some = rest.some; most = omega (arith, one, rest.most); fewer = λ put. omega (arith, one, rest.most) })
  left_behind {k = k} {p = p} (lacks st none so) full =
      subst (BytesLeft p k) (sym so)
      (record { some = omega (arith, ap (λ (x : Seen). length x.shown) (taken_shown p s k st)); most = omega arith; fewer = λ put. absurd (omega (arith, put)) })
  left_behind (waits st so) full = absurd (let z : ◌≡◌ {A = ℕ} 0 1 = cc in omega arith)
  left_behind (ends st so) full = absurd (let z : ◌≡◌ {A = ℕ} 0 1 = cc in omega arith)

pub turns_go_on : TurnsGoOn
turns_go_on s room next p h full =
    let first = went s room p h in
    let t = turn_of s room p h in
    let c = t.consumed in
    let there : c + 0 ≡ c = omega arith in
    let u = turn_of (drop c s) next t.parser t.held in
    let then = went (drop c s) next t.parser t.held in
    sym (comes s (length t.lines + next) p h
    (spliced s first full (subst (λ (k : ℕ). Goes s next t.parser t.held k (forward c u)) there (moved s c then))))

-- the one turn whose room the lines fill
abbrev Tight : List ℕ → ContainerParser → Option FileEvent → Turned → Type 0
Tight s p h t = t ≡ turn_of s (length t.lines) p h

turn_tight : (s : List ℕ) (room : ℕ) (p : ContainerParser) (h : Option FileEvent) → Tight s p h (turn_of s room p h)
turn_tight s room p h = sym (comes s (length (turn_of s room p h).lines) p h (filled s (went s room p h)))

-- a row, by why its first turn ended
module _ (s : List ℕ) (room : ℕ) (rooms : List ℕ) (p : ContainerParser) (h : Option FileEvent) where
  abbrev Rest : Turned
  Rest = let t = turn_of s room p h in row_of (drop t.consumed s) rooms t.parser t.held

  row_full : (turn_of s room p h).stop ≡ None → row_of s (room ∷ rooms) p h ≡ goes_on (turn_of s room p h) Rest
  unfolding row_of
  row_full e = ap (row_by (turn_of s room p h) Rest) e

  row_stopped : {w : StopWord} → (turn_of s room p h).stop ≡ Some w → row_of s (room ∷ rooms) p h ≡ turn_of s room p h
  unfolding row_of
  row_stopped e = ap (row_by (turn_of s room p h) Rest) e

row_none : (s : List ℕ) (p : ContainerParser) (h : Option FileEvent) → row_of s [] p h ≡ over None p h 0
unfolding row_of
row_none s p h = refl

-- nothing behind a turn
nothing_more : (t : Turned) → t.stop ≡ None → goes_on t (over None t.parser t.held 0) ≡ t
nothing_more t full =
    let all : t.consumed + 0 ≡ t.consumed = omega arith in
    λ i. record { lines = append-nil t.lines i; parser = t.parser; held = t.held; consumed = all i; stop = sym full i }

module _ (s : List ℕ) (room : ℕ) (p : ContainerParser) (h : Option FileEvent) where
  abbrev First : Turned
  First = turn_of s room p h

  -- by why the first turn ended
  tight_by : (rooms : List ℕ) → (First.stop ≡ None → Tight s p h (goes_on First (Rest s room rooms p h))) → (e : Option StopWord) → First.stop ≡ e
      → Tight s p h (row_of s (room ∷ rooms) p h)
  tight_by rooms more None e = subst (Tight s p h) (sym (row_full s room rooms p h e)) (more e)
  tight_by rooms more (Some w) e = subst (Tight s p h) (sym (row_stopped s room rooms p h e)) (turn_tight s room p h)

  last : First.stop ≡ None → Tight s p h (goes_on First (Rest s room [] p h))
  last e =
      let same = ap (goes_on First) (row_none (drop First.consumed s) First.parser First.held) ∙ nothing_more First e in
      subst (Tight s p h) (sym same) (turn_tight s room p h)

  further : (rooms : List ℕ) → Tight (drop First.consumed s) First.parser First.held (Rest s room rooms p h) → First.stop ≡ None
      → Tight s p h (goes_on First (Rest s room rooms p h))
  further rooms rest e =
      let u = Rest s room rooms p h in
      ap (goes_on First) rest ∙ turns_go_on s room (length u.lines) p h e ∙ ap (λ (n : ℕ). turn_of s n p h) (sym (length-append First.lines u.lines))

pub row_is_one_turn : RowIsOneTurn
row_is_one_turn s room [] p h = tight_by s room p h [] (last s room p h) (turn_of s room p h).stop refl
row_is_one_turn s room (next ∷ rooms) p h =
    let t = turn_of s room p h in
    tight_by s room p h (next ∷ rooms)
    (further s room p h (next ∷ rooms) (row_is_one_turn (drop t.consumed s) next rooms t.parser t.held)) t.stop refl

-- a row that the parser ended is a turn that the parser ended
pub row_with_room : RowWithRoom
row_with_room s [] p h w room stop fits =
    absurd (let z : None ≡ Some w = sym (ap (λ (x : Turned). x.stop) (row_none s p h)) ∙ stop in let y : ◌≡◌ {A = ℕ} 0 1 = cc in omega arith)
row_with_room s (first ∷ rooms) p h w room stop fits =
    let r = row_of s (first ∷ rooms) p h in
    let one = row_is_one_turn s first rooms p h in
    let g : Goes s (length r.lines) p h 0 r = subst (Goes s (length r.lines) p h 0) (sym one) (went s (length r.lines) p h) in
    sym (comes s room p h (enough s g stop fits))

pub row_feeds : RowFeeds
row_feeds s rooms p h w stop =
    let r = row_of s rooms p h in
    let one : r ≡ turn_of s (length r.lines) p h = row_with_room s rooms p h w (length r.lines) stop (omega arith) in
    subst (Feeds p h (Feeding.take p s) w) (sym one) (turn_feeds s (length r.lines) p h w (sym (ap (λ (x : Turned). x.stop) one) ∙ stop))

length_events : (xs : List Shown) → length (events_in xs) ≡ length xs
length_events [] = refl
length_events (x ∷ xs) = ap suc (length_events xs)

-- the turns that end for want of room use the events up
abbrev EndsByParser : Turned → Type 0
EndsByParser t = (w : StopWord) × (t.stop ≡ Some w)

module _ (s : List ℕ) (room : ℕ) (p : ContainerParser) (h : Option FileEvent) where
  ends_by : (rooms : List ℕ) → ((First s room p h).stop ≡ None → EndsByParser (Rest s room rooms p h)) → (e : Option StopWord) → (First s room p h).stop ≡ e
      → EndsByParser (row_of s (room ∷ rooms) p h)
  ends_by rooms more None e = subst EndsByParser (sym (row_full s room rooms p h e)) (more e)
  ends_by rooms more (Some w) e = (w, ap (λ (x : Turned). x.stop) (row_stopped s room rooms p h e) ∙ e)

  events_left : p.total < 2 ^ 64 → HeldFits h → 56 ≤ room → (First s room p h).stop ≡ None
      → let n = count (First s room p h).parser (First s room p h).consumed s in (0 < n) × (n < count p 0 s)
  events_left f i r full =
      let rest = left_behind s (went s room p h) full in
      (rest.some, rest.fewer (turn_advances s room p h f i r full))

ends_for : (s : List ℕ) (room : ℕ) (rooms : List ℕ) (p : ContainerParser) (h : Option FileEvent) → p.total < 2 ^ 64 → HeldFits h
    → All (λ r. 56 ≤ r) (room ∷ rooms) → count p 0 s ≤ length (room ∷ rooms) → EndsByParser (row_of s (room ∷ rooms) p h)
ends_for s room [] p h f i (r, all) few =
    ends_by s room p h [] (λ full. absurd (omega (arith, few, (events_left s room p h f i r full).0, (events_left s room p h f i r full).1))) _ refl
ends_for s room (next ∷ rooms) p h f i (r, all) few =
    let t = turn_of s room p h in
    let kept = turn_keeps_fit s room p h f i in
    ends_by s room p h (next ∷ rooms)
    (λ full. ends_for (drop t.consumed s) next rooms t.parser t.held kept.0 kept.1 all (omega (arith, few, (events_left s room p h f i r full).1)))
    _ refl

pub row_ends : RowEnds
row_ends s room rooms p h f i all few = ends_for s room rooms p h f i all (omega (arith, few, length_events (Feeding.take p s).shown))
