-- What is left to read from the places that are left gives what the whole gives.
use Rattle.std.proofs.Common.{◌≡◌, ◌+◌, ◌*◌, ◌^◌, ◌<◌, drop}
use Rattle.jxl_begin.specs.Places.{here}
use Rattle.jxl_field_rules.specs.Fields.{chunks, places}
use Rattle.jxl_u64.proofs.chunks.Given as goal

abbrev pub invariant-loop-i : goal.invariant-loop-i
invariant-loop-i l = record {
  same : l.place.bytes ≡ l.start.bytes;
  below : l.value < 2 ^ (12 + 8 * l.i);
  rest : here (chunks (drop l.i places) l.value) l.place ≡ here (chunks places l.first) l.start;
}
