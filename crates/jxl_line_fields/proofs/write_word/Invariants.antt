-- The loop's invariant: the buffer is what it was with the first i bytes of the word copied in.
use Rattle.std.proofs.Common.{◌≡◌, ◌≤◌, length}
use lib.Seq.{paste}
use Rattle.jxl_line_fields.proofs.write_word.Given as goal

abbrev pub invariant-loop-i : goal.invariant-loop-i
invariant-loop-i l = record {
  copied : l.out ≡ paste l.fn.out l.at l.word l.i;
  within : l.i ≤ length l.word;
  last : l.i-end ≡ length l.word;
  long : length l.out ≡ length l.fn.out;
}
