use Rattle.std.proofs.Common.{◌≡◌, length, refl, sym, ap, ◌∙◌, arith, length-drop}
use Rattle.jxl_lines.specs.Lines.{text}
use Rattle.jxl_list_rules.specs.Listed.{file_text, lines_left, text_of}
use Rattle.jxl_list_file.proofs.Left.{all_left}
use Rattle.jxl_list_file.proofs.Paste.{line_fits, next_line, paste_all}
use Rattle.jxl_list_file.proofs.write.Goals as goal

pub loop-line-init : goal.loop-line-init
loop-line-init c =
    let all = all_left c.args.file.now c.into_iter-line-iterator.ensures.into_iter_gives c.of-line-items.ensures in
    record { within = omega arith; rest = sym all; front = refl }

pub put-written-requires : goal.put-written-requires
put-written-requires c =
    let l = c.loop-line in
    line_fits (file_text c.args.file.now) c.args.out.now l.out (text c.in-Some.line) (text_of (lines_left c.next.new.self.next c.next.new.self.file.now)) l.written
    c.requires l.invariant.within (l.invariant.rest ∙ ap text_of c.in-Some.ensures.steps) l.invariant.front

pub loop-line-preserved : goal.loop-line-preserved
loop-line-preserved c =
    let l = c.loop-line in
    let put =
    next_line (file_text c.args.file.now) c.args.out.now l.out (text c.in-Some.line) (text_of (lines_left c.next.new.self.next c.next.new.self.file.now)) l.written
    c.requires l.invariant.within (l.invariant.rest ∙ ap text_of c.in-Some.ensures.steps) l.invariant.front c.put-written.result c.put-written.new.out c.put-written.ensures in
    record { within = put.0; rest = put.1; front = put.2 }

pub returns : goal.returns
returns c =
    let l = c.loop-line in
    let none = l.invariant.rest ∙ ap text_of c.in-None.ensures.steps.0 in
    let whole : l.written ≡ length (file_text c.args.file.now) = omega (arith, l.invariant.within, ap length none, length-drop l.written (file_text c.args.file.now)) in
    (whole, l.invariant.front ∙ paste_all (file_text c.args.file.now) c.args.out.now l.written whole)
