-- The loop's invariant: what is left of both to look at decides.
use Rattle.std.proofs.Common.{length, drop, ◌≡◌, ◌≤◌}
use Rattle.jxl_signatures.specs.Bytes.{starts}
use Rattle.jxl_signatures.proofs.starts_with.Given as goal

abbrev pub invariant-loop-i : goal.invariant-loop-i
invariant-loop-i l = record {
  inside : l.i ≤ length l.prefix;
  last : l.i-end ≡ length l.prefix;
  fits : length l.prefix ≤ length l.s;
  rest : starts l.prefix l.s ≡ starts (drop l.i l.prefix) (drop l.i l.s);
}
