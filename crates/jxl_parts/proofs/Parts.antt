-- Two parts that join, and the one that they are.
use mathlib.Core.Path.{◌≡◌, refl, ap, subst}
use mathlib.Core.Bool.{true}
use Prim.Native.Nat.{ℕ, ◌+◌, ◌-◌}
use native.Mathlib.Omega.{arith}
use lib.Dec.{eqb}
use borrow.Author.Tests.{eqb-true}
use Rattle.jxl_headers.proofs.And.{and_first, and_second}
use Rattle.jxl_events.specs.Event.{length_of}
use Rattle.jxl_events.specs.Total.{EndsAt}
use Rattle.jxl_events.specs.declared.ParseEvent.{ParseEvent}
use Rattle.jxl_events.specs.declared.ParseEvent.TheVariants as E
use Rattle.jxl_parts.specs.Joined.{code_at, aux_at, joins, longer, reaching}
use Rattle.jxl_parts.specs.Theorems.{JoinedReaches}
use Rattle.jxl_base.proofs.Never.{never}

-- a longer part starts where it did
code_longer : (x m : ℕ) (e : ParseEvent) → code_at x (longer m e) ≡ code_at x e
code_longer x m (E.BitstreamKind k) = refl
code_longer x m E.NoMoreAuxBox = refl
code_longer x m (E.Codestream b n) = refl
code_longer x m (E.AuxBoxStart t c i) = refl
code_longer x m (E.AuxBoxData t b n) = refl
code_longer x m (E.AuxBoxEnd t) = refl

aux_longer : (u x m : ℕ) (e : ParseEvent) → aux_at u x (longer m e) ≡ aux_at u x e
aux_longer u x m (E.BitstreamKind k) = refl
aux_longer u x m E.NoMoreAuxBox = refl
aux_longer u x m (E.Codestream b n) = refl
aux_longer u x m (E.AuxBoxStart t c i) = refl
aux_longer u x m (E.AuxBoxData t b n) = refl
aux_longer u x m (E.AuxBoxEnd t) = refl

pub joins_longer : (h e : ParseEvent) (m : ℕ) → joins h (longer m e) ≡ joins h e
joins_longer (E.BitstreamKind k) e m = refl
joins_longer E.NoMoreAuxBox e m = refl
joins_longer (E.Codestream a n) e m = code_longer (a + n) m e
joins_longer (E.AuxBoxStart t c i) e m = refl
joins_longer (E.AuxBoxData t a n) e m = aux_longer t (a + n) m e
joins_longer (E.AuxBoxEnd t) e m = refl

-- two parts that join are one that ends where the second does, and grows as it would
pub record OnePart (h e : ParseEvent) : Type 0 where
  pub same_end : (f : ParseEvent) → joins (longer (length_of e) h) f ≡ joins e f
  pub grows : (m : ℕ) → longer (length_of (longer m e)) h ≡ longer m (longer (length_of e) h)
  pub reaches : (n m : ℕ) → EndsAt n h → EndsAt m e → (reaching m h ≡ longer (length_of e) h) × EndsAt m (longer (length_of e) h)

code_one : (a n b m : ℕ) → a + n ≡ b → OnePart (E.Codestream a n) (E.Codestream b m)
code_one a n b m j =
    let end : a + (n + m) ≡ b + m = omega arith in
    record {
      same_end = λ f. ap (λ (x : ℕ). code_at x f) end;
      grows = λ k. ap (E.Codestream a) (let z : n + (m + k) ≡ n + m + k = omega arith in z);
      reaches = λ x y i k. (ap (E.Codestream a) (let z : y - a ≡ n + m = omega arith in z), let z : a + (n + m) ≡ y = omega arith in z);
    }

aux_one : (t a n b m : ℕ) → a + n ≡ b → OnePart (E.AuxBoxData t a n) (E.AuxBoxData t b m)
aux_one t a n b m j =
    let end : a + (n + m) ≡ b + m = omega arith in
    record {
      same_end = λ f. ap (λ (x : ℕ). aux_at t x f) end;
      grows = λ k. ap (E.AuxBoxData t a) (let z : n + (m + k) ≡ n + m + k = omega arith in z);
      reaches = λ x y i k. (ap (E.AuxBoxData t a) (let z : y - a ≡ n + m = omega arith in z), let z : a + (n + m) ≡ y = omega arith in z);
    }

pub one_part : (h e : ParseEvent) → joins h e ≡ true → OnePart h e
one_part (E.BitstreamKind k) e j = never j
one_part E.NoMoreAuxBox e j = never j
one_part (E.Codestream a n) (E.BitstreamKind k) j = never j
one_part (E.Codestream a n) E.NoMoreAuxBox j = never j
one_part (E.Codestream a n) (E.Codestream b m) j = code_one a n b m (eqb-true (a + n) b j)
one_part (E.Codestream a n) (E.AuxBoxStart t c i) j = never j
one_part (E.Codestream a n) (E.AuxBoxData t b m) j = never j
one_part (E.Codestream a n) (E.AuxBoxEnd t) j = never j
one_part (E.AuxBoxStart t c i) e j = never j
one_part (E.AuxBoxData u a n) (E.BitstreamKind k) j = never j
one_part (E.AuxBoxData u a n) E.NoMoreAuxBox j = never j
one_part (E.AuxBoxData u a n) (E.Codestream b m) j = never j
one_part (E.AuxBoxData u a n) (E.AuxBoxStart t c i) j = never j
one_part (E.AuxBoxData u a n) (E.AuxBoxData t b m) j =
    subst (λ (x : ℕ). OnePart (E.AuxBoxData u a n) (E.AuxBoxData x b m)) (eqb-true u t (and_first (eqb u t) (eqb (a + n) b) j))
    (aux_one u a n b m (eqb-true (a + n) b (and_second (eqb u t) j)))
one_part (E.AuxBoxData u a n) (E.AuxBoxEnd t) j = never j
one_part (E.AuxBoxEnd t) e j = never j

pub joined_reaches : JoinedReaches
joined_reaches h e j i k = ((one_part h.event e.event j).reaches h.total e.total i k).0
