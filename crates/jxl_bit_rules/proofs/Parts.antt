-- What a caller may know of a part, and of the beginning of every call, by how it was answered.
-- Assumes nothing.
use Rattle.std.specs.Prelude.{Result, IsErrAnd}
use Rattle.std.proofs.lemmas.Result.{err_from_is_err_and}
use mathlib.Core.Bool.{Bool, true, false, cond}
use mathlib.Core.List.{List, []}
use mathlib.Core.Path.{◌≡◌, refl, sym}
use Prim.Native.Nat.{ℕ, ◌+◌, ◌-◌, ◌/◌, ◌^◌, ◌≤◌, ◌<◌}
use native.Mathlib.Nat.{mod-lt}
use native.Mathlib.Omega.{arith}
use borrow.Author.Tests.{ltb-false, leb-true}
use lib.Dec.{ltb, leb}
use lib.ListN.{length}
use lib.Pow.{pow_pos}
use Rattle.jxl_bit_rules.specs.Answer.{Answer, Field, onward, gives, refuses}
use Rattle.jxl_bit_rules.specs.Bits.{number, bits, end, start}
use Rattle.jxl_bit_rules.specs.Readers.{begin, part}
use Rattle.jxl_bit_rules.specs.Refusals.{eof, width, long}
use Rattle.jxl_bit_rules.specs.Told.{told, refused}
use Rattle.jxl_bit_rules.specs.declared.Refused.{Refused}

abbrev Absurd : Type 0
Absurd = ◌≡◌ {A = ℕ} 0 1

-- a value and a refusal are not the same answer
pub differ : {A : Type 0} {a : A} {p r q : ℕ} {t : List ℕ} {B : Type 0} → gives a p ≡ refuses r t q → B
differ h = let z : Absurd = cc in absurd (omega arith)

-- a sequence gives a value only where its first part gives one
pub gave : {A B : Type 0} (s : List ℕ) (b : Answer B) (next : B → Field A) (v : A) (p : ℕ) → onward s b next ≡ gives v p
    → (x : B) × (q : ℕ) × (b ≡ gives x q) × (next x s q ≡ gives v p)
gave s (gives x q) next v p h = (x, q, refl, h)
gave s (refuses r t q) next v p h = differ (sym h)

pub record Begun (wide : Bool) (s : List ℕ) (at p : ℕ) : Type 0 where
  pub short : length s ≤ 2 ^ 61 - 1
  pub within : p ≤ end s
  pub place : p ≡ start s at
  pub narrow : wide ≡ false

pub begun : (wide : Bool) (s : List ℕ) (at p : ℕ) → gives (tt {0}) p ≡ begin wide s at → Begun wide s at p
unfolding begin
begun wide s at p h = go (ltb (2 ^ 61 - 1) (length s)) wide refl refl h
  where
    go : (t w : Bool) → ltb (2 ^ 61 - 1) (length s) ≡ t → wide ≡ w
        → gives (tt {0}) p ≡ cond t (refuses long [] at) (cond w (refuses width [] at) (gives tt (start s at))) → Begun wide s at p
    go true w l e k = differ k
    go false true l e k = differ k
    go false false l e k =
        let place : p ≡ start s at = cc in
        record { short = ltb-false _ _ l; within = omega arith; place = place; narrow = e }

pub record Given (n : ℕ) (s : List ℕ) (at v p : ℕ) : Type 0 where
  pub next : p ≡ at + n
  pub within : p ≤ end s
  pub value : v ≡ bits s at n
  pub below : v < 2 ^ n

bits_below : (s : List ℕ) (at n : ℕ) → bits s at n < 2 ^ n
unfolding bits
bits_below s at n = mod-lt (number s / 2 ^ at) (pow_pos n)

pub given : (n : ℕ) (s : List ℕ) (at v p : ℕ) → gives v p ≡ part n s at → Given n s at v p
unfolding part
given n s at v p h = go (leb (at + n) (end s)) refl h
  where
    go : (t : Bool) → leb (at + n) (end s) ≡ t → gives v p ≡ cond t (gives (bits s at n) (at + n)) (refuses eof [] at) → Given n s at v p
    go true l k =
        let next : p ≡ at + n = cc in
        let value : v ≡ bits s at n = cc in
        record { next = next; within = omega (arith, leb-true (at + n) (end s) l); value = value; below = rw value (bits_below s at n) }
    go false l k = differ k

-- a refusal that `?` hands on is told as it was
pub handed_on : {A : Type 0} (r : Result (A × ℕ) Refused) (e : Refused) → IsErrAnd r (λ y. y ≡ e) → told r ≡ refused e
handed_on r e h = let p = err_from_is_err_and r h in rw (p.1, p.2)
