-- The loop's invariant: the sum and the length of the lines that are left are the whole, at most the largest number of 64 bits.
use Rattle.std.proofs.Common.{◌≡◌, ◌+◌, ◌≤◌, length}
use Rattle.std.specs.Prelude.{min}
use Rattle.jxl_list_rules.specs.Listed.{file_text, lines_left, text_of}
use Rattle.jxl_list_file.proofs.measure.Given as goal

abbrev pub invariant-loop-line : goal.invariant-loop-line
invariant-loop-line l = record {
  fits : l.sum ≤ 18446744073709551615;
  summed :
      min (l.sum + length (text_of (lines_left l.line-iterator.next l.line-iterator.file.now))) 18446744073709551615 ≡ min (length (file_text l.file)) 18446744073709551615;
}
