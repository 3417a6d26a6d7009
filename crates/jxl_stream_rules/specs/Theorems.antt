-- What is proved of a stream; proofs/ has a proof of the statement under the same name in small letters.
use Rattle.std.specs.Prelude.{None, ◌≡◌, List, []}
use Rattle.jxl_totals.specs.Step.{fresh}
use Rattle.jxl_totals.specs.Feeding.{bytes_of}
use Rattle.jxl_list_rules.specs.Listed.{file_text}
use Rattle.jxl_stream_rules.specs.Stream.{Read, packets, listing, RowsEnd, written}

-- a stream that comes in any reads, listed with any rooms that let the parser end each row of turns, and then ended, lists exactly what its
-- whole file does
abbrev pub StreamLists : Type 0
StreamLists = (xs : List Read) → RowsEnd fresh None [] xs → written (listing fresh None [] xs) ≡ file_text (bytes_of (packets xs))
