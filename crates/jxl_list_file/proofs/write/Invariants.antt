-- The loop's invariant: the lines so far are at the front of the buffer, which is else as it was, and the others are left.
use Rattle.std.proofs.Common.{◌≡◌, ◌≤◌, ◌++◌, length, take, drop}
use Rattle.jxl_list_rules.specs.Listed.{file_text, lines_left, text_of}
use Rattle.jxl_list_file.proofs.write.Given as goal

abbrev pub invariant-loop-line : goal.invariant-loop-line
invariant-loop-line l = record {
  within : l.written ≤ length (file_text l.file);
  rest : drop l.written (file_text l.file) ≡ text_of (lines_left l.line-iterator.next l.line-iterator.file.now);
  front : l.out ≡ take l.written (file_text l.file) ++ drop l.written l.fn.out;
}
