-- What is left to read from the places that are left gives what the whole gives.
use Rattle.std.proofs.Common.{◌≡◌, ◌+◌, ◌*◌, drop, sym, ap, ◌∙◌, arith}
use Rattle.jxl_bit_rules.proofs.Parts.{given, handed_on}
use Rattle.jxl_field_rules.specs.Fields.{chunks, places}
use Rattle.jxl_field_rules.proofs.ChunkLaws.{place, no_flag, stop, no_chunk, more, placed, placed_below}
use Rattle.jxl_u64.proofs.chunks.Goals as goal

pub returns-in_err-flag : goal.returns-in_err-flag
returns-in_err-flag c =
    let l = c.loop-i in
    handed_on c.from_residual.result c.in_err-flag.field-0.0 c.from_residual.ensures.1
    ∙ no_flag l.value l.place.bytes.now l.place.at (drop l.i places) _ _ _ c.in_err-flag.ensures ∙ l.invariant.rest

pub returns-then-flag-ne1 : goal.returns-then-flag-ne1
returns-then-flag-ne1 c =
    let l = c.loop-i in
    sym (stop l.value l.place.bytes.now l.place.at _ _ c.in_ok-flag.ensures.1 (drop l.i places) c.if-flag-ne1.true) ∙ l.invariant.rest

pub returns-in_err-x : goal.returns-in_err-x
returns-in_err-x c =
    let l = c.loop-i in
    let s = l.place.bytes.now in
    let none = rw c.in_ok-flag.ensures.0 at c.in_err-x.ensures in
    handed_on c.from_residual-in_err-x.result c.in_err-x.field-0.0 c.from_residual-in_err-x.ensures.1
    ∙ no_chunk l.value s l.place.at _ _ c.in_ok-flag.ensures.1 (12 + 8 * l.i) (drop (l.i + 1) places) _ _ _ c.if-flag-ne1.false none
    ∙ ap (λ ps. chunks ps l.value s l.place.at) (sym (place l.i c.loop-i-test.true)) ∙ l.invariant.rest

pub loop-i-preserved : goal.loop-i-preserved
loop-i-preserved c =
    let l = c.loop-i in
    let s = l.place.bytes.now in
    let x = c.in_ok-x.x in
    let next = c.in_ok-x.next in
    let here = c.in_ok-x.ensures.0 ∙ c.in_ok-flag.ensures.0 in
    let eight = rw c.in_ok-flag.ensures.0 at c.in_ok-x.ensures.1 in
    let g = given 8 s _ x next.at eight in
    let at = placed l.value x 8 (12 + 8 * l.i) l.invariant.below g.below (omega arith) in
    let up : 8 + (12 + 8 * l.i) ≡ 12 + 8 * (l.i + 1) = omega arith in
    record {
      same = here ∙ l.invariant.same;
      below = rw (c.from.ensures, at, ← up) (placed_below l.value x 8 (12 + 8 * l.i) l.invariant.below g.below);
      rest =
          rw (c.from.ensures, at, here)
          (sym (more l.value s l.place.at _ _ c.in_ok-flag.ensures.1 (12 + 8 * l.i) (drop (l.i + 1) places) x next.at c.if-flag-ne1.false eight)
          ∙ ap (λ ps. chunks ps l.value s l.place.at) (sym (place l.i c.loop-i-test.true)) ∙ l.invariant.rest);
    }
