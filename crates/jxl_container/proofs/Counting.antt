-- What the rules on boxes tell of the input that is there, counted.
use mathlib.Core.Path.{◌≡◌, refl, sym, ap, subst, ◌∙◌}
use mathlib.Core.Bool.{Bool, true, false}
use mathlib.Core.List.{List, [], ◌∷◌}
use Prim.Native.Nat.{ℕ, zero, suc, ◌+◌, ◌-◌, ◌^◌, ◌<◌, ◌≤◌, min}
use native.Mathlib.Omega.{arith}
use lib.ListN.{length, take, length-take}
use mir.Val.{Val}
use denote.Laws.{Is}
use denote.Struct.Declared.{row}
use denote.Struct.Laws.{owed}
use borrow.Author.Tests.{lt-ltb, le-ltb}
use Rattle.jxl_headers.specs.Bytes.{if, and}
use Rattle.jxl_refusals.specs.declared.BoxRefusal.{BoxRefusal}
use Rattle.jxl_refusals.specs.declared.BoxRefusal.TheVariants as Rule
use Rattle.jxl_record.specs.declared.BoxParser.{BoxParser}
use Rattle.jxl_events.specs.Total.{carrying}
use Rattle.jxl_events.specs.declared.ParseEvent.{ParseEvent}
use Rattle.jxl_grammar.specs.Laws.{Kept}
use Rattle.jxl_grammar.specs.Step as Boxes
use Rattle.jxl_grammar.specs.Naming.{numbered}
use Rattle.jxl_grammar.proofs.Laws.{every_step}
use Rattle.jxl_payloads.specs.Told.{told}
use Rattle.jxl_payloads.specs.declared.BoxResult.{BoxResult}
use Rattle.jxl_payloads.specs.declared.BoxResult.TheVariants as A
use Rattle.jxl_payloads.proofs.Ruled.{ruled, by_rule}
use Rattle.jxl_totals.specs.Step.{shows, wants, limit, counted, room, beyond, at_header, behind, refusing, wanting, counting, step_of}
use Rattle.jxl_totals.specs.declared.ContainerParser.{ContainerParser}
use Rattle.jxl_totals.specs.contracts.ContainerParser.{the_type}
use Rattle.jxl_totals.proofs.ContainerParser.TheLaws.{the_laws}

-- n bytes of the input are there
abbrev pub There : ContainerParser → List ℕ → ℕ → Type 0
There p s n = n ≡ min (length s) (limit - p.total)

-- and of those the rules on boxes tell x
abbrev pub Asked : ContainerParser → List ℕ → ℕ → BoxResult → Type 0
Asked p s n x = told x ≡ numbered (Boxes.step_of p.boxes (take n s))

-- the input that is there, by its length
up_to : (k : ℕ) (s : List ℕ) → take (min (length s) k) s ≡ take k s
up_to zero s = let none : min (length s) 0 ≡ 0 = omega arith in rw none
up_to (suc k) [] = let none : min 0 (suc k) ≡ 0 = omega arith in rw none
up_to (suc k) (x ∷ s) =
    let one : min (suc (length s)) (suc k) ≡ suc (min (length s) k) = omega arith in
    rw one (ap (λ (u : List ℕ). x ∷ u) (up_to k s))

-- so a step tells that, counted
counts : (p : ContainerParser) (s : List ℕ) (n : ℕ) (x : BoxResult) → There p s n → Asked p s n x → step_of p s ≡ counting (beyond p s) p (ruled x)
unfolding step_of
counts p s n x h e =
    ap (counting (beyond p s) p)
    (sym (by_rule x _ e ∙ ap (Boxes.step_of p.boxes) (ap (λ (k : ℕ). take k s) h ∙ up_to (room p) s)))

abbrev consumed_of : Boxes.Told → ℕ
consumed_of (Boxes.shows e q c) = c
consumed_of (Boxes.wants q c) = c
consumed_of (Boxes.refuses r q c) = c

kept_within : (n : ℕ) (t : Boxes.Told) → Kept n t → consumed_of t ≤ n
kept_within n (Boxes.shows e q c) h = h.0
kept_within n (Boxes.wants q c) h = h.0
kept_within n (Boxes.refuses r q c) h = h.0

-- no more is consumed than is there
within : (p : ContainerParser) (s : List ℕ) (n : ℕ) (x : BoxResult) → Asked p s n x → consumed_of (ruled x) ≤ n
within p s n x e =
    let t = Boxes.step_of p.boxes (take n s) in
    let most = kept_within (length (take n s)) t (every_step p.boxes (take n s)) in
    subst (λ (t : Boxes.Told). consumed_of t ≤ n) (sym (by_rule x t e)) (omega (arith, length-take n s))

-- so the total behind the step fits, as the one before it does
pub total_fits : (p : ContainerParser) (vs : List Val) (s : List ℕ) (n : ℕ) (x : BoxResult) → Is (row the_type) p vs → There p s n → Asked p s n x
    → p.total + consumed_of (ruled x) < 2 ^ 64
total_fits p vs s n x f h e = omega (arith, within p s n x e, (owed the_type the_laws p vs f).1.0.1)

pub shown : (p : ContainerParser) (s : List ℕ) (n : ℕ) (e : ParseEvent) (q : BoxParser) (c : ℕ) → There p s n → Asked p s n (A.Shown q c e)
    → step_of p s ≡ shows (carrying e (p.total + c)) (behind p q c) c
shown p s n e q c h a = counts p s n (A.Shown q c e) h a

pub wanted : (p : ContainerParser) (s : List ℕ) (n : ℕ) (q : BoxParser) (c : ℕ) → There p s n → n ≡ length s → Asked p s n (A.Want q c)
    → step_of p s ≡ wants (behind p q c) c
wanted p s n q c h g a = counts p s n (A.Want q c) h a ∙ ap (λ (t : Bool). wanting t p q c) (le-ltb (room p) (length s) (omega arith))

pub limited : (p : ContainerParser) (s : List ℕ) (n : ℕ) (q : BoxParser) (c : ℕ) → There p s n → (n ≡ length s → ⊥) → Asked p s n (A.Want q c)
    → step_of p s ≡ refusing Rule.StreamLimit (behind p (Boxes.refused Rule.StreamLimit q) c) c
limited p s n q c h g a = counts p s n (A.Want q c) h a ∙ ap (λ (t : Bool). wanting t p q c) (lt-ltb (room p) (length s) (omega (arith, g)))

and_true : (t : Bool) → and t true ≡ t
and_true true = refl
and_true false = refl

pub refused_there : (p : ContainerParser) (s : List ℕ) (n : ℕ) (r : BoxRefusal) (q : BoxParser) (c : ℕ) → There p s n → Asked p s n (A.Refused q c r)
    → step_of p s ≡ refusing r (counted q (p.total + c) (if (at_header p.boxes) p.total p.header)) c
refused_there p s n r q c h a = counts p s n (A.Refused q c r) h a ∙ rw (and_true (at_header p.boxes))
