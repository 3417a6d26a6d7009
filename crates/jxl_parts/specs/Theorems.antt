-- What is proved of joined parts; proofs/Parts.antt.
use Rattle.std.specs.Prelude.{◌≡◌, true}
use Rattle.jxl_events.specs.Event.{length_of}
use Rattle.jxl_events.specs.Total.{EndsAt}
use Rattle.jxl_events.specs.declared.FileEvent.{FileEvent}
use Rattle.jxl_parts.specs.Joined.{joins, longer, reaching}

-- the joined part that reaches to the last one's total is the first one longer by the last one, where both end at the totals they carry
abbrev pub JoinedReaches : Type 0
JoinedReaches =
    (h e : FileEvent) → joins h.event e.event ≡ true → EndsAt h.total h.event → EndsAt e.total e.event
    → reaching e.total h.event ≡ longer (length_of e.event) h.event
