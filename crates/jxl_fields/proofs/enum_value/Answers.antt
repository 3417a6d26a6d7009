-- Its widths are those of Enum's four choices.
use Rattle.std.proofs.Common.{ℕ, ◌≤◌, ◌∙◌, ap, arith}
use Rattle.std.proofs.Math.Nat.{min-eq_left}
use Rattle.jxl_bit_rules.specs.Readers.{part}
use Rattle.jxl_bit_rules.proofs.Parts.{given, handed_on}
use Rattle.jxl_field_rules.proofs.Choices.{four_refused}
use Rattle.jxl_fields.proofs.enum_value.Goals as goal
use Rattle.jxl_fields.proofs.enum_value.Goals.{then-k-lt2, else-k-lt2}

pub returns-in_err-x : goal.returns-in_err-x
returns-in_err-x c =
    let place = c.args.place in
    let none = rw c.in_ok-k.ensures.0 at c.in_err-x.ensures in
    let below = (given 2 place.bytes.now place.at c.in_ok-k.k c.in_ok-k.next.at c.in_ok-k.ensures.1).below in
    let narrow : c.if-k-lt2.width ≤ 32 = elim c.if-k-lt2.branch
    [ then-k-lt2 b ↦ omega (arith, b.width-is) | else-k-lt2 b ↦ omega (arith, b.width-is, below) ] in
    handed_on c.from_residual-in_err-x.result c.in_err-x.field-0.0 c.from_residual-in_err-x.ensures.1
    ∙ four_refused place.bytes.now place.at c.in_ok-k.k c.in_ok-k.next.at c.if-k-lt2.width _ _ _ c.in_ok-k.ensures.1
    (elim c.if-k-lt2.branch [ then-k-lt2 b ↦ λ l. b.width-is | else-k-lt2 b ↦ λ l. absurd (omega arith) ])
    (elim c.if-k-lt2.branch [ then-k-lt2 b ↦ λ l. absurd (omega arith) | else-k-lt2 b ↦ λ l. b.width-is ])
    (none ∙ ap (λ (j : ℕ). part j place.bytes.now c.in_ok-k.next.at) (min-eq_left narrow))
