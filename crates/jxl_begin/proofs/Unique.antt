-- Each promise determines its answer: the slice of a place is named, and what is told of its answer says the rest.
-- Assumes nothing.
use Rattle.std.proofs.Common.{◌≡◌, ℕ, ◌-◌, ◌^◌, ◌≤◌, List, [], length, Ok, Err, sym, ap, subst, ◌∙◌}
use Rattle.std.specs.Borrow.{Bor}
use Rattle.std.proofs.Math.Bridge.{le_prop}
use Rattle.jxl_base.proofs.OneAnswer.{one_named}
use Rattle.jxl_bit_rules.specs.Answer.{Answer, gives, refuses}
use Rattle.jxl_bit_rules.specs.Bits.{bits, end}
use Rattle.jxl_bit_rules.specs.Told.{refused}
use Rattle.jxl_bit_rules.specs.declared.Refused.{Refused}
use Rattle.jxl_bit_rules.proofs.Unique.{back_refused, same_refused}
use Rattle.jxl_begin.specs.declared.Place.{Place}
use Rattle.jxl_begin.specs.Theorems.{OnePlaceNew, OnePlaceRead, OnePlaceLook}

-- ---- places of the same slice and position are equal: their bounds have one proof
abbrev place : (b : Bor (List ℕ)) (at : ℕ) → length b.now ≤ 2 ^ 61 - 1 → at ≤ end b.now → Place
place b at short within = record { bytes = b; at = at; short = short; within = within }

same_bounds : (p : Place) (short : length p.bytes.now ≤ 2 ^ 61 - 1) (within : p.at ≤ end p.bytes.now) → p ≡ place p.bytes p.at short within
same_bounds p short within =
    ap (λ h. place p.bytes p.at h p.within) (le_prop p.short short) ∙ ap (λ h. place p.bytes p.at short h) (le_prop p.within within)

same_place : (p q : Place) → p.bytes ≡ q.bytes → p.at ≡ q.at → p ≡ q
same_place p q e f =
    subst (λ b. (at : ℕ) → p.at ≡ at → (short : length b.now ≤ 2 ^ 61 - 1) (within : at ≤ end b.now) → p ≡ place b at short within) e
    (λ at g. subst (λ at. (short : length p.bytes.now ≤ 2 ^ 61 - 1) (within : at ≤ end p.bytes.now) → p ≡ place p.bytes at short within) g (same_bounds p))
    q.at f q.short q.within

-- ---- what is told of an answer, read back
abbrev position : {A : Type 0} → Answer A → ℕ
position (gives x at) = at
position (refuses n t at) = at

abbrev value : Answer ℕ → ℕ
value (gives x at) = x
value (refuses n t at) = 0

abbrev refusal : {A : Type 0} → Answer A → Refused
refusal (gives x at) = back_refused 0 [] at
refusal (refuses n t at) = back_refused n t at

one_refused : {A : Type 0} (a : Answer A) (r q : Refused) → refused r ≡ a → refused q ≡ a → r ≡ q
one_refused a r q e f = sym (same_refused r) ∙ ap refusal (e ∙ sym f) ∙ same_refused q

abbrev Given : {A : Type 0} → Answer A → Type 0
Given (gives x at) = Unit {0}
Given (refuses n t at) = ⊥

apart : {A : Type 0} (a : Answer A) (x : A) (at : ℕ) (e : Refused) → gives x at ≡ a → refused e ≡ a → ⊥
apart a x at e g r = subst Given (g ∙ sym r) tt

-- ---- each function's
pub one_place_new : OnePlaceNew
one_place_new s a (Ok p) (Ok q) e f = ap Ok (same_place p q (e.0 ∙ sym f.0) (ap position (e.1 ∙ sym f.1)))
one_place_new s a (Ok p) (Err q) e f = absurd (apart a tt p.at q e.1 f)
one_place_new s a (Err r) (Ok q) e f = absurd (apart a tt q.at r f.1 e)
one_place_new s a (Err r) (Err q) e f = ap Err (one_refused a r q e f)

pub one_place_read : OnePlaceRead
one_place_read s a (Ok x) (Ok y) e f =
    let places : x.1 ≡ y.1 = same_place x.1 y.1 (e.0 ∙ sym f.0) (ap position (e.1 ∙ sym f.1)) in
    ap (λ v. Ok (v, x.1)) (ap value (e.1 ∙ sym f.1)) ∙ ap (λ p. Ok (y.0, p)) places
one_place_read s a (Ok x) (Err q) e f = absurd (apart a x.0 x.1.at q e.1 f)
one_place_read s a (Err r) (Ok y) e f = absurd (apart a y.0 y.1.at r f.1 e)
one_place_read s a (Err r) (Err q) e f = ap Err (one_refused a r q e f)

pub one_place_look : OnePlaceLook
one_place_look s at n = one_named (bits s at n)
