use Rattle.std.proofs.Common.{ℕ, List, Ok, Err, sym, ap, ap₂, ◌∙◌, arith}
use Rattle.jxl_lines.specs.Putting.{leaves}
use Rattle.jxl_list_rules.specs.Listed.{file_text}
use Rattle.jxl_list_rules.proofs.Text.{list_fits, list_refused}
use Rattle.jxl_list_file.proofs.list_file.Goals as goal

pub returns-then-out-needed : goal.returns-then-out-needed
returns-then-out-needed c =
    let d = c.args.out.now in
    let w = file_text c.args.file.now in
    ap (λ (n : ℕ). leaves (Err (record { needed = n })) d) c.measure-needed.ensures ∙ sym (list_refused d w (omega arith))

pub returns : goal.returns
returns c =
    let d = c.args.out.now in
    let w = file_text c.args.file.now in
    ap₂ (λ (n : ℕ) (l : List ℕ). leaves (Ok n) l) c.write.ensures.0 c.write.ensures.1 ∙ sym (list_fits d w (omega arith))
