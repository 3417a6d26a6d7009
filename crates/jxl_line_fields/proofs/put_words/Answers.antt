use Rattle.jxl_lines.proofs.Putting.{room}
use Rattle.jxl_line_fields.proofs.put_words.Goals as goal

pub returns-then-has_room : goal.returns-then-has_room
returns-then-has_room c = room c.write_word.ensures
