-- The one rule that a parser stays at because it was ended: Closed.
use mathlib.Core.Path.{◌≡◌}
use mathlib.Core.Bool.{true}
use Rattle.jxl_refusals.specs.declared.BoxRefusal.{BoxRefusal}
use Rattle.jxl_refusals.specs.declared.BoxRefusal.TheVariants as Rule
use Rattle.jxl_totals.specs.Naming.{is_closed}

pub closed_alone : (r : BoxRefusal) → is_closed r ≡ true → r ≡ Rule.Closed
closed_alone Rule.ShortSize h = cc
closed_alone Rule.ExtendedSize h = cc
closed_alone Rule.SecondJxlc h = cc
closed_alone Rule.JxlcAfterJxlp h = cc
closed_alone Rule.JxlpTooSmall h = cc
closed_alone Rule.JxlpAfterJxlc h = cc
closed_alone Rule.JxlpAfterLast h = cc
closed_alone (Rule.WrongIndex found expected) h = cc
closed_alone Rule.BrobTooSmall h = cc
closed_alone Rule.ImpossibleRecord h = cc
closed_alone Rule.ValidationFailed h = cc
closed_alone Rule.StreamLimit h = cc
closed_alone Rule.CutShort h = cc
closed_alone Rule.Closed h = cc
