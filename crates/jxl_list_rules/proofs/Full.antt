-- A turn that ends with no room is full: it has put a line, if there was room for the longest.
use mathlib.Core.Path.{◌≡◌, sym, ap, subst}
use mathlib.Core.Bool.{Bool, true, false}
use mathlib.Core.List.{List, [], ◌∷◌, append-nil}
use Prim.Native.Nat.{ℕ, ◌+◌, ◌^◌, ◌<◌, ◌≤◌}
use native.Mathlib.Omega.{arith}
use lib.ListN.{length, drop, length-append}
use Rattle.std.specs.Prelude.{Option, None, Some}
use Rattle.jxl_headers.specs.Bytes.{if}
use Rattle.jxl_events.specs.Total.{carrying, ending_at, in_file, EndsAt}
use Rattle.jxl_events.specs.declared.ParseEvent.{ParseEvent}
use Rattle.jxl_events.specs.declared.ParseEvent.TheVariants as E
use Rattle.jxl_events.specs.declared.FileEvent.{FileEvent}
use Rattle.jxl_totals.specs.declared.ContainerParser.{ContainerParser}
use Rattle.jxl_joiner.specs.Joiner.{added, adding, handed}
use Rattle.jxl_parts.specs.Joined.{joins, reaching}
use Rattle.jxl_lines.specs.Lines.{text}
use Rattle.jxl_lines.specs.declared.Line.TheVariants as L
use Rattle.jxl_lines.proofs.Numbers.{decimal_most, type_length}
use Rattle.jxl_lines.proofs.Sizes.{most_bytes}
use Rattle.jxl_list_rules.specs.Listed.{lines_of}
use Rattle.jxl_list_rules.specs.Theorems.{FullMeansFull, HeldFits, TurnKeepsFit, TurnAdvances}
use Rattle.jxl_list_rules.specs.Turned.{Turned, line_of, turn_of}
use Rattle.jxl_list_rules.proofs.Text.{shown_counts, wants_counts, refuses_counts}
use Rattle.jxl_list_rules.proofs.Goes.{Goes, puts, lacks, waits, ends, went}

-- a joiner hands back what it held, or nothing
handed_back : (b : Bool) (x : FileEvent) (a c : Option FileEvent) → length (lines_of (handed (if b (added None a) (added (Some x) c)).out)) ≤ length (lines_of (x ∷ []))
handed_back true x a c = omega arith
handed_back false x a c = omega arith

line_held : (h : Option FileEvent) (e : FileEvent) → length (line_of h e) ≤ length (lines_of (handed h))
line_held None e = omega arith
line_held (Some x) e =
    handed_back (joins x.event (in_file e).event) x (Some (carrying (reaching e.total x.event) e.total)) (Some (in_file e))

-- the lines put and the line of the event held are more than the room
abbrev Filled : ℕ → Turned → Type 0
Filled room t = t.stop ≡ None → room < length t.lines + length (lines_of (handed t.held))

fills : {s : List ℕ} {room k : ℕ} {p : ContainerParser} {h : Option FileEvent} {t : Turned} → Goes s room p h k t → Filled room t
fills {room = room} {h = h} (puts {t = t} {e = e} st at fits so g) =
    subst (Filled room) (sym so) (λ full. omega (arith, fits, fills g full, length-append (line_of h e) t.lines))
fills {room = room} {h = h} (lacks {e = e} st none so) = subst (Filled room) (sym so) (λ full. omega (arith, none, line_held h e))
fills (waits st so) = λ full. absurd (let z : ◌≡◌ {A = ℕ} 0 1 = cc in omega arith)
fills (ends st so) = λ full. absurd (let z : ◌≡◌ {A = ℕ} 0 1 = cc in omega arith)

pub full_means_full : FullMeansFull
full_means_full s room p h full = fills (went s room p h) full

-- an event whose place and length fit 64 bits
abbrev Fits : FileEvent → Type 0
Fits e = HeldFits (Some e)

-- so they do of an event at its place in a file of fewer than 2^64 bytes
event_fits : (total c : ℕ) (e : ParseEvent) → EndsAt c e → c < 2 ^ 64 → total < 2 ^ 64 → Fits (carrying (ending_at total e) total)
event_fits total c (E.BitstreamKind x) there f g = (omega arith, omega arith)
event_fits total c E.NoMoreAuxBox there f g = (omega arith, omega arith)
event_fits total c (E.Codestream a l) there f g = (omega arith, omega arith)
event_fits total c (E.AuxBoxStart t b x) there f g = (omega arith, omega arith)
event_fits total c (E.AuxBoxData t a l) there f g = (omega arith, omega arith)
event_fits total c (E.AuxBoxEnd t) there f g = (omega arith, omega arith)

reaching_fits : (total old : ℕ) (e : ParseEvent) → Fits (carrying e old) → total < 2 ^ 64 → Fits (carrying (reaching total e) total)
reaching_fits total old (E.BitstreamKind x) f g = (omega arith, omega arith)
reaching_fits total old E.NoMoreAuxBox f g = (omega arith, omega arith)
reaching_fits total old (E.Codestream a n) (p, l) g = (omega arith, omega arith)
reaching_fits total old (E.AuxBoxStart t b x) f g = (omega arith, omega arith)
reaching_fits total old (E.AuxBoxData t a n) (p, l) g = (omega arith, omega arith)
reaching_fits total old (E.AuxBoxEnd t) f g = (omega arith, omega arith)

-- what a joiner holds fits
adding_fits : (h : Option FileEvent) (e : FileEvent) → HeldFits h → Fits (in_file e) → e.total < 2 ^ 64 → HeldFits (adding h e).next.held
adding_fits None e i f g = f
adding_fits (Some x) e i f g = go (joins x.event (in_file e).event)
  where
    go : (j : Bool) → HeldFits (if j (added None (Some (carrying (reaching e.total x.event) e.total))) (added (Some x) (Some (in_file e)))).next.held
    go true = reaching_fits e.total x.total x.event i g
    go false = f

-- a total of 64 bits stays so, since nothing beyond the limit is consumed
abbrev KeepsFit : Turned → Type 0
KeepsFit t = (t.parser.total < 2 ^ 64) × HeldFits t.held

module _ (s : List ℕ) where
  keeps : {room k : ℕ} {p : ContainerParser} {h : Option FileEvent} {t : Turned} → p.total < 2 ^ 64 → HeldFits h → Goes s room p h k t → KeepsFit t
  keeps {k = k} {p = p} {h = h} f i (puts {c = c} {q = q} {e = e} st at fits so g) =
      let n = shown_counts p (drop k s) st in
      let few : c < 2 ^ 64 = omega (arith, n.within) in
      let next : p.total + c < 2 ^ 64 = omega (arith, n.within, f) in
      let total : e.total < 2 ^ 64 = omega (arith, n.event_total, next) in
      subst KeepsFit (sym so)
      (keeps (omega (arith, n.next_total, next)) (adding_fits h e i (event_fits e.total c e.event n.ends_there few total) total) g)
  keeps f i (lacks st none so) = subst KeepsFit (sym so) (f, i)
  keeps {k = k} {p = p} f i (waits {q = q} st so) =
      let n = wants_counts p (drop k s) st in
      subst KeepsFit (sym so) (omega (arith, n.0, n.1, f), i)
  keeps {k = k} {p = p} f i (ends {q = q} st so) =
      let n = refuses_counts p (drop k s) st in
      subst KeepsFit (sym so) (omega (arith, n.0, n.1, f), i)

pub turn_keeps_fit : TurnKeepsFit
turn_keeps_fit s room p h f i = keeps s f i (went s room p h)

-- a line of such an event has at most 56 bytes, whatever its type
fits_most : (e : ParseEvent) (total : ℕ) → Fits (carrying e total) → length (text (L.Shown e)) ≤ 56
fits_most (E.BitstreamKind k) total f = most_bytes (L.Shown (E.BitstreamKind k)) _
fits_most E.NoMoreAuxBox total f = omega arith
fits_most (E.Codestream a n) total f = most_bytes (L.Shown (E.Codestream a n)) f
fits_most (E.AuxBoxStart t true true) total f = simp length-append (omega (arith, type_length t))
fits_most (E.AuxBoxStart t true false) total f = simp length-append (omega (arith, type_length t))
fits_most (E.AuxBoxStart t false true) total f = simp length-append (omega (arith, type_length t))
fits_most (E.AuxBoxStart t false false) total f = simp length-append (omega (arith, type_length t))
fits_most (E.AuxBoxData t a n) total (p, l) = simp length-append (omega (arith, type_length t, decimal_most a p, decimal_most n l))
fits_most (E.AuxBoxEnd t) total f = simp length-append (omega (arith, type_length t))

held_most : (h : Option FileEvent) → HeldFits h → length (lines_of (handed h)) ≤ 56
held_most None f = omega arith
held_most (Some e) f = omega (arith, fits_most e.event e.total f, ap length (append-nil (text (L.Shown e.event))))

pub turn_advances : TurnAdvances
turn_advances s room p h f i r e =
    omega (arith, full_means_full s room p h e, held_most (turn_of s room p h).held (turn_keeps_fit s room p h f i).1)
