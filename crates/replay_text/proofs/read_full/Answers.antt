-- What a read puts behind the bytes that are there is what it consumed; one that is interrupted consumes nothing.
use Rattle.std.proofs.Common.{◌≡◌, ℕ, ◌+◌, ◌-◌, ◌≤◌, List, ◌++◌, rules, length, take, sym, ap, ◌∙◌, subst, le_refl, length-take-le}
use Rattle.std.proofs.lemmas.Slice.{take-put_mid_below}
use Rattle.std.specs.Io.KnownBytes.{Consumes}
use Rattle.std.proofs.KnownBytes.{Consumes-trans, Consumes-kept}
use borrow.Rule.Slice.PartMut.{put_mid, post_of}
use lib.Seq.{take-append-le, take-append-add}
use Rattle.replay_text.proofs.read_full.Goals as goal
use Rattle.replay_text.proofs.read_full.Goals.{in-Ok, in-Err}

-- the bytes that were there, and behind them those of the read
more : (at k n : ℕ) (room part : List ℕ) → at ≤ length room → n ≤ length part → take (at + n) (put_mid at k room part) ≡ take at room ++ take n part
more at k n room part within fits =
    let front : length (take at room) ≡ at = length-take-le at room within in
    ap (λ m. take (m + n) (put_mid at k room part)) (sym front)
    ∙ take-append-add (take at room) (part ++ post_of at k room) n
    ∙ ap (λ l. take at room ++ l) (take-append-le n part (post_of at k room) fits)

pub loop-preserved : goal.loop-preserved
loop-preserved g c =
    let at = c.loop.at in
    let room = c.loop.room in
    let k = length room - at in
    let within = c.loop.invariant.1 in
    elim c.match-read.branch [
      | in-Ok w ↦ rw w.at-is
          (search rules, search rules, subst (Consumes _ _) (sym (more at k w.in-Ok.count room c.read.new.buf within w.in-Ok.ensures.bound.0)) (Consumes-trans _ _ _ _ _ c.loop.invariant.2 w.in-Ok.ensures.bytes.0))
      | in-Err w ↦ rw w.at-is
          (search rules, search rules, subst (Consumes _ _) (sym (take-put_mid_below _ _ _ _ _ (le_refl _) within)) (Consumes-kept _ _ _ _ c.loop.invariant.2 w.in-Err.ensures.bytes))
    ]
