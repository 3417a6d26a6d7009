-- Up to 2 it is one part whose width is the selector's.
use Rattle.std.proofs.Common.{ℕ, ◌≤◌, ◌∙◌, ap, arith}
use Rattle.std.proofs.Math.Nat.{min-eq_left}
use Rattle.jxl_bit_rules.specs.Readers.{part}
use Rattle.jxl_bit_rules.proofs.Parts.{handed_on}
use Rattle.jxl_field_rules.proofs.ChunkLaws.{short_refused}
use Rattle.jxl_u64.proofs.by_selector.Goals as goal
use Rattle.jxl_u64.proofs.by_selector.Goals.{then-selector-eq2, else-selector-eq2}

pub returns-in_err-x : goal.returns-in_err-x
returns-in_err-x c =
    let place = c.args.place in
    let narrow : c.if-selector-eq2.width ≤ 32 = elim c.if-selector-eq2.branch
    [ then-selector-eq2 b ↦ omega (arith, b.width-is) | else-selector-eq2 b ↦ omega (arith, b.width-is, c.if-selector-gt2.false) ] in
    handed_on c.from_residual-in_err-x.result c.in_err-x.field-0.0 c.from_residual-in_err-x.ensures.1
    ∙ short_refused c.args.selector c.if-selector-gt2.false place.bytes.now place.at c.if-selector-eq2.width _ _ _ place.within
    (elim c.if-selector-eq2.branch [ then-selector-eq2 b ↦ λ e. b.width-is | else-selector-eq2 b ↦ λ e. absurd (b.if-selector-eq2.false e) ])
    (elim c.if-selector-eq2.branch [ then-selector-eq2 b ↦ λ n. absurd (n b.if-selector-eq2.true) | else-selector-eq2 b ↦ λ n. b.width-is ])
    (c.in_err-x.ensures ∙ ap (λ (j : ℕ). part j place.bytes.now place.at) (min-eq_left narrow))
