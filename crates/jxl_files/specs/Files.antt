-- What a whole file lists, with the limit, and what its end comes to.
use Rattle.std.specs.Prelude.{Bool, true, false, List, ℕ, ltb, length, take}
use Rattle.jxl_cuts.specs.Feeding.{want, refused}
use Rattle.jxl_refusals.specs.declared.BoxRefusal.TheVariants.{StreamLimit}
use Rattle.jxl_grammar.specs.Grammar.{Stop, Listing}
use Rattle.jxl_grammar.specs.Grammar as Boxes
use Rattle.jxl_grammar.specs.End.{Close, missing}
use Rattle.jxl_totals.specs.Step.{limit}

-- "where this ends in WANT although more bytes lie beyond": StreamLimit
abbrev pub limited_stop : Bool → Stop → Stop
limited_stop true want = refused StreamLimit
limited_stop true (refused r) = refused r
limited_stop false w = w

-- and then no end mends it
abbrev pub limited_close : Bool → Close → Close
limited_close true w = missing
limited_close false w = w

abbrev pub limited : Bool → Listing → Listing
limited more l =
    record { events = l.events; consumed = l.consumed; stop = limited_stop more l.stop; close = limited_close more l.close }

-- the whole file: the boxes of what lies within the limit; "input beyond that place is treated as not there"
unfoldable pub file : List ℕ → Listing
file s = limited (ltb limit (length s)) (Boxes.file (take limit s))
