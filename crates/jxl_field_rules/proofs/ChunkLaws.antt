-- U64's chunks, one turn at a time; and how long a U64 is at most.
-- Assumes nothing.
use mathlib.Core.Bool.{Bool, true, false, cond}
use mathlib.Core.List.{List, [], ◌∷◌}
use mathlib.Core.Path.{◌≡◌, refl, sym, ap, ◌∙◌}
use Prim.Native.Nat.{ℕ, zero, suc, ◌+◌, ◌*◌, ◌%◌, ◌^◌, ◌≤◌, ◌<◌}
use native.Mathlib.Nat.{add_comm}
use native.Mathlib.Omega.{arith}
use borrow.Author.Tests.{eq-eqb, ne_eqb}
use lib.Arith.{digits_lt}
use lib.Bits.{bit_or, or_shifted_r}
use lib.Dec.{eqb}
use lib.ListN.{length, drop}
use lib.Pow.{pow-add, shl_exact}
use Rattle.jxl_bit_rules.specs.Answer.{Field, gives, refuses, ◌>>=◌, done}
use Rattle.jxl_bit_rules.specs.Bits.{end}
use Rattle.jxl_bit_rules.specs.Readers.{begin, part}
use Rattle.jxl_field_rules.specs.Fields.{chunks, places, plus, u64_by, u64}
use Rattle.jxl_field_rules.specs.Theorems.{AtMost73}
use Rattle.jxl_field_rules.proofs.Choices.{never_refused}
use Rattle.jxl_bit_rules.proofs.Parts.{begun, gave, given}

-- the places in turn
pub place : (i : ℕ) → i < 6 → drop i places ≡ (12 + 8 * i) ∷ drop (i + 1) places
place zero h = refl
place (suc zero) h = refl
place (suc (suc zero)) h = refl
place (suc (suc (suc zero))) h = refl
place (suc (suc (suc (suc zero)))) h = refl
place (suc (suc (suc (suc (suc zero))))) h = refl
place (suc (suc (suc (suc (suc (suc i)))))) h = absurd (omega arith)

module _ (v : ℕ) (s : List ℕ) (at : ℕ) where
  -- no flag is left
  pub no_flag : (ps : List ℕ) (r : ℕ) (t : List ℕ) (p : ℕ) → refuses r t p ≡ part 1 s at → refuses r t p ≡ chunks ps v s at
  unfolding chunks
  no_flag [] r t p h = rw (← h)
  no_flag (b ∷ ps) r t p h = rw (← h)

  module _ (flag after : ℕ) (h : gives flag after ≡ part 1 s at) where
    -- the flag is not 1
    pub stop : (ps : List ℕ) → (flag ≡ 1 → ⊥) → chunks ps v s at ≡ gives v after
    unfolding chunks
    stop [] n = rw (← h, ne_eqb flag 1 n)
    stop (p ∷ ps) n = rw (← h, ne_eqb flag 1 n)

    -- it is 1, and no chunk is left
    pub no_chunk : (b : ℕ) (ps : List ℕ) (r : ℕ) (t : List ℕ) (p : ℕ) → flag ≡ 1 → refuses r t p ≡ part 8 s after → refuses r t p ≡ chunks (b ∷ ps) v s at
    unfolding chunks
    no_chunk b ps r t p e k = rw (← h, eq-eqb flag 1 e, ← k)

    -- a chunk, and on; or the last one
    pub more : (p : ℕ) (ps : List ℕ) (x next : ℕ) → flag ≡ 1 → gives x next ≡ part 8 s after → chunks (p ∷ ps) v s at ≡ chunks ps (v + x * 2 ^ p) s next
    unfolding chunks
    more p ps x next e k = rw (← h, eq-eqb flag 1 e, ← k)

    pub last : (x next : ℕ) → flag ≡ 1 → gives x next ≡ part 4 s after → chunks [] v s at ≡ gives (v + x * 2 ^ 60) next
    unfolding chunks
    last x next e k = rw (← h, eq-eqb flag 1 e, ← k)

-- j bits placed above k
module _ (v x j k : ℕ) (hv : v < 2 ^ k) (hx : x < 2 ^ j) where
  pub placed : j + k ≤ 64 → bit_or v (x * 2 ^ k % 2 ^ 64) ≡ v + x * 2 ^ k
  placed l = ap (bit_or v) (shl_exact j k 64 hx l) ∙ or_shifted_r x k v hv ∙ add_comm (x * 2 ^ k) v

  pub placed_below : v + x * 2 ^ k < 2 ^ (j + k)
  placed_below = rw (pow-add 2 j k, add_comm v (x * 2 ^ k)) (digits_lt hx hv)

-- ---- the selectors
three : (P : ℕ → Type 0) → P 0 → P 1 → P 2 → (k : ℕ) → k ≤ 2 → P k
three P a b c zero h = a
three P a b c (suc zero) h = b
three P a b c (suc (suc zero)) h = c
three P a b c (suc (suc (suc k))) h = absurd (omega arith)

-- 3, and what no selector is
pub by_chunks : (k : ℕ) → 2 < k → (s : List ℕ) (at : ℕ) → u64_by k s at ≡ (part 12 >>= λ x. chunks places x) s at
by_chunks k h s at = rw (ne_eqb k 0 (λ e. omega arith), ne_eqb k 1 (λ e. omega arith), ne_eqb k 2 (λ e. omega arith))

-- the others, where the part is refused, of the width as the code computes it
pub short_refused : (k : ℕ) → k ≤ 2 → (s : List ℕ) (at w r : ℕ) (t : List ℕ) (p : ℕ) → at ≤ end s → (k ≡ 2 → w ≡ 8) → ((k ≡ 2 → ⊥) → w ≡ 4 * k)
    → refuses r t p ≡ part w s at → refuses r t p ≡ u64_by k s at
short_refused k l s at w r t p within two less h =
    three (λ k. (k ≡ 2 → w ≡ 8) → ((k ≡ 2 → ⊥) → w ≡ 4 * k) → refuses r t p ≡ u64_by k s at)
    (λ m n. never_refused s at r t p within (h ∙ ap (λ (j : ℕ). part j s at) (n (λ e. absurd (omega arith)))))
    (λ m n. let e = h ∙ ap (λ (j : ℕ). part j s at) (n (λ e. absurd (omega arith))) in rw (← e))
    (λ m n. let e = h ∙ ap (λ (j : ℕ). part j s at) (m refl) in rw (← e))
    k l two less

-- ---- U64 takes at most 73 bits
same_place : {A : Type 0} {a b : A} {p q : ℕ} → gives a p ≡ gives b q → p ≡ q
same_place h = cc

-- a chunk of n bits, if the flag is 1, and then nothing, or what is at most m bits long
flagged : (n m : ℕ) (next : ℕ → Field ℕ) (v : ℕ) (s : List ℕ) → ((x at w p : ℕ) → next x s at ≡ gives w p → p ≤ at + m)
    → (at w p : ℕ) → (part 1 >>= λ flag. cond (eqb flag 1) (part n >>= next) (done v)) s at ≡ gives w p → p ≤ at + (1 + n + m)
flagged n m next v s most at w p h =
    let f = gave s (part 1 s at) (λ flag. cond (eqb flag 1) (part n >>= next) (done v)) w p h in
    go f.1 (given 1 s at f.0 f.1 (sym f.2)).next (eqb f.0 1) f.3
  where
    go : (q : ℕ) → q ≡ at + 1 → (t : Bool) → (cond t (part n >>= next) (done v)) s q ≡ gives w p → p ≤ at + (1 + n + m)
    go q e false k = omega (arith, same_place k)
    go q e true k =
        let g = gave s (part n s q) next w p k in
        omega (arith, (given n s q g.0 g.1 (sym g.2)).next, most g.0 g.1 w p g.3)

chunks_most : (ps : List ℕ) (v : ℕ) (s : List ℕ) (at w p : ℕ) → chunks ps v s at ≡ gives w p → p ≤ at + (9 * length ps + 5)
unfolding chunks
chunks_most [] v s at w p h = omega (arith, flagged 4 0 (λ x. done (v + x * 2 ^ 60)) v s (λ x q y r e. omega (arith, same_place e)) at w p h)
chunks_most (b ∷ ps) v s at w p h =
    omega (arith, flagged 8 (9 * length ps + 5) (λ x. chunks ps (v + x * 2 ^ b)) v s (λ x. chunks_most ps (v + x * 2 ^ b) s) at w p h)

plus_most : (n o : ℕ) (s : List ℕ) (at w p : ℕ) → plus n o s at ≡ gives w p → p ≤ at + n
plus_most n o s at w p h =
    let g = gave s (part n s at) (λ x. done (o + x)) w p h in
    omega (arith, (given n s at g.0 g.1 (sym g.2)).next, same_place g.3)

by_most : (k : ℕ) (s : List ℕ) (at w p : ℕ) → u64_by k s at ≡ gives w p → p ≤ at + 71
by_most k s at w p = go (eqb k 0) (eqb k 1) (eqb k 2)
  where
    go : (x y z : Bool) → cond x (done 0) (cond y (plus 4 1) (cond z (plus 8 17) (part 12 >>= λ first. chunks places first))) s at ≡ gives w p → p ≤ at + 71
    go true y z h = omega (arith, same_place h)
    go false true z h = omega (arith, plus_most 4 1 s at w p h)
    go false false true h = omega (arith, plus_most 8 17 s at w p h)
    go false false false h =
        let g = gave s (part 12 s at) (λ first. chunks places first) w p h in
        omega (arith, (given 12 s at g.0 g.1 (sym g.2)).next, chunks_most places g.0 s g.1 w p g.3)

-- from where the reading starts
pub at_most_73 : AtMost73
unfolding u64
at_most_73 s at v p h =
    let b = gave s (begin false s at) (λ _. part 2 >>= λ k. u64_by k) v p h in
    let g = gave s (part 2 s b.1) (λ k. u64_by k) v p b.3 in
    omega (arith, (begun false s at b.1 (sym b.2)).place, (given 2 s b.1 g.0 g.1 (sym g.2)).next, by_most g.0 s g.1 v p g.3)
