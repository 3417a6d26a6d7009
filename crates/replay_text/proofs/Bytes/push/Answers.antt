-- What is copied stands behind the bytes that are there, as far as there is room.
use Rattle.std.proofs.Common.{◌≡◌, ◌+◌, ◌-◌, ◌≤◌, ◌++◌, ℕ, List, length, min, take, ap, sym, ◌∙◌, append_assoc, arith, length-append}
use Rattle.std.proofs.lemmas.List.{length-take, length-take-le, take_at, take_min}
use Rattle.std.proofs.Math.Seq.{take-append-add}
use Rattle.replay_text.proofs.Bytes.push.Goals as goal

-- the bytes in front, and behind them a part that is as long as `count`
written : (start count : ℕ) (bytes part rest : List ℕ) → start ≤ length bytes → length part ≡ count → take (start + count) (take start bytes ++ (part ++ rest)) ≡ take start bytes ++ part
written start count bytes part rest within is = ap (take (start + count)) (sym (append_assoc (take start bytes) part rest))
    ∙ take_at (take start bytes ++ part) rest _ (omega (arith, length-append (take start bytes) part, length-take-le start bytes within))

-- a text of `start` bytes, and what is left of the room
filled : (n start : ℕ) (front more : List ℕ) → length front ≡ start → start ≤ n → take n (front ++ more) ≡ front ++ take (n - start) more
filled n start front more is within = let e : n ≡ length front + (n - start) = omega arith in ap (λ k. take k (front ++ more)) e ∙ take-append-add front more (n - start)

pushed : (n len start count : ℕ) (bytes more part rest : List ℕ) → length bytes ≡ n → start ≡ min len n → count ≡ min (length more) (n - start) → part ≡ take count more
    → take (start + count) (take start bytes ++ (part ++ rest)) ≡ take n (take len bytes ++ more)
pushed n len start count bytes more part rest room is_start is_count is_part =
    let front : take start bytes ≡ take len bytes = ap (λ k. take k bytes) (is_start ∙ ap (min len) (sym room)) ∙ take_min len bytes in
    let cut : take count more ≡ take (n - start) more = let e : count ≡ min (n - start) (length more) = omega arith in ap (λ k. take k more) e ∙ take_min (n - start) more in
    let long : length (take len bytes) ≡ start = omega (arith, length-take len bytes) in
    written start count bytes part rest (omega arith) (ap length is_part ∙ length-take-le count more (omega arith))
    ∙ ap (λ x. x ++ part) front
    ∙ ap (λ x. take len bytes ++ x) (is_part ∙ cut)
    ∙ sym (filled n start (take len bytes) more long (omega arith))

pub returns-clause-bytes : goal.returns-clause-bytes
returns-clause-bytes g c = pushed g.row.N c.args.self.now.len _ _ c.args.self.now.bytes c.args.more.now c.copy_from_slice.new.self _
    (omega arith) c.min-start.ensures c.min-count.ensures c.copy_from_slice.ensures.after

pub returns-clause-most : goal.returns-clause-most
returns-clause-most g c = omega (arith, length-take {A = ℕ})
