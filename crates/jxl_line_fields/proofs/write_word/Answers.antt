use Rattle.std.proofs.Common.{◌≡◌, ℕ, length, ap, ◌∙◌, arith}
use native.Mathlib.Numerals.{add-one}
use lib.ListN.{length-set}
use lib.Seq.{paste, paste-suc}
use Rattle.jxl_lines.proofs.Bytes.{pasted_whole}
use Rattle.jxl_line_fields.proofs.write_word.Goals as goal

pub loop-i-preserved : goal.loop-i-preserved
loop-i-preserved c =
    let l = c.loop-i in
    record {
      copied =
          rw (l.invariant.copied, add-one) (paste-suc c.args.out.now c.args.at c.args.word.now l.i 0 (omega arith) (omega arith));
      within = omega arith;
      last = l.invariant.last;
      long = simp length-set l.invariant.long;
    }

pub returns : goal.returns
returns c =
    let l = c.loop-i in
    let past : l.i ≡ length c.args.word.now = omega arith in
    record {
      room = c.requires;
      bytes =
          l.invariant.copied ∙ ap (λ (k : ℕ). paste c.args.out.now c.args.at c.args.word.now k) past
          ∙ pasted_whole c.args.out.now c.args.at c.args.word.now;
      next = omega arith;
    }
