-- Laws of the readers that callers lean on: when a read gives a value, and which; reading n then m bits is reading n + m bits;
-- and a peek and then a consume is a read.
-- Assumes nothing.
use mathlib.Core.Bool.{Bool, true, false}
use mathlib.Core.List.{List}
use mathlib.Core.Path.{◌≡◌, refl, sym, ap, ◌∙◌}
use Prim.Native.Nat.{ℕ, ◌+◌, ◌-◌, ◌^◌, ◌≤◌}
use native.Mathlib.Nat.{min-eq_left}
use native.Mathlib.Omega.{arith}
use borrow.Author.Tests.{le-ltb, le-leb, ltb-false}
use lib.Dec.{leb}
use lib.ListN.{length}
use Rattle.jxl_bit_rules.specs.Answer.{Answer, gives, refuses, ◌>>=◌, done}
use Rattle.jxl_bit_rules.specs.Bits.{bits, end, start}
use Rattle.jxl_bit_rules.specs.Readers.{over, begin, part, read, peek, consume, move}
use Rattle.jxl_bit_rules.specs.Theorems.{ReadGave, ReadGives, ReadRead, PeekConsume}
use Rattle.jxl_bit_rules.proofs.Order.{together}
use Rattle.jxl_bit_rules.proofs.Parts.{begun, given, gave}

begins : (n : ℕ) (s : List ℕ) (at : ℕ) → length s ≤ 2 ^ 61 - 1 → n ≤ 32 → begin (over n) s at ≡ gives tt (start s at)
unfolding begin
begins n s at short narrow = rw (le-ltb (2 ^ 61 - 1) (length s) short, le-ltb 32 n narrow)

pub read_gave : ReadGave
unfolding read
read_gave n s at v p h =
    let g = gave s (begin (over n) s at) (λ _. part n) v p h in
    let b = begun (over n) s at g.1 (sym g.2) in
    let k = given n s g.1 v p (sym g.3) in
    record {
      short = b.short;
      narrow = ltb-false 32 n b.narrow;
      within = omega (arith, b.place, k.next, k.within);
      value = k.value ∙ ap (λ (q : ℕ). bits s q n) b.place;
      next = omega (arith, b.place, k.next);
    }

there : (n : ℕ) (s : List ℕ) (at : ℕ) → length s ≤ 2 ^ 61 - 1 → n ≤ 32 → start s at + n ≤ end s
    → read n s at ≡ gives (bits s (start s at) n) (start s at + n)
unfolding read part
there n s at short narrow within = rw (begins n s at short narrow, le-leb (start s at + n) (end s) within)

pub read_gives : ReadGives
read_gives n s at v p r = cc (there n s at r.short r.narrow r.within)

-- n bits and then m, the m above the n, are n + m bits
pub read_read : ReadRead
read_read n m s at v p h =
    let r = read_gave (n + m) s at v p h in
    let q = start s at in
    let within = r.within in
    let narrow = r.narrow in
    let onward : start s (q + n) ≡ q + n = min-eq_left (omega arith) in
    let far : q + n + m ≡ p = omega (arith, r.next) in
    rw (there n s at r.short (omega arith) (omega arith), there m s (q + n) r.short (omega arith) (omega arith), onward, far)
    (ap (λ (x : ℕ). gives x p) (sym (together s q n m) ∙ sym r.value))

-- a peek and then a consume is a read, refusals too
pub peek_consume : PeekConsume
unfolding peek consume read part move
peek_consume n s at = go (begin (over n) s at) refl
  where
    moved : (q : ℕ) → begin (over n) s q ≡ gives tt q → (t : Bool) → leb (q + n) (end s) ≡ t
        → (consume n >>= λ _. done (bits s q n)) s q ≡ part n s q
    moved q e true l = rw (e, l)
    moved q e false l = rw (e, l)

    go : (b : Answer (Unit {0})) → begin (over n) s at ≡ b → (peek n >>= λ x. consume n >>= λ _. done x) s at ≡ read n s at
    go (refuses r t q) e = rw e
    go (gives u q) e =
        let k = begun (over n) s at q (sym e) in
        let same : begin (over n) s q ≡ gives tt q = begins n s q k.short (ltb-false 32 n k.narrow) ∙ ap (gives tt) (min-eq_left k.within) in
        rw e (moved q same (leb (q + n) (end s)) refl)
