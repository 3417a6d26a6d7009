-- Every file: the theorem, under the name that docs/PROMISES.md gives it.
use mathlib.Core.Path.{◌≡◌, refl, sym, ap, ◌∙◌}
use mathlib.Core.List.{List, [], ◌∷◌}
use Prim.Native.Nat.{ℕ, ◌-◌}
use native.Mathlib.Omega.{arith}
use lib.ListN.{length, drop}
use Rattle.jxl_record.specs.Record.{fresh}
use Rattle.jxl_record.specs.declared.BoxParser.{BoxParser}
use Rattle.jxl_cuts.proofs.Theorems as AnyMachine
use Rattle.jxl_refusals.specs.Refusals.{why}
use Rattle.jxl_grammar.specs.Step.{step_of}
use Rattle.jxl_grammar.specs.Grammar.{file}
use Rattle.jxl_grammar.specs.Naming.{listing_as}
use Rattle.jxl_grammar.specs.Parser.{parser}
use Rattle.jxl_grammar.specs.Feeding.{Seen, take, feeding}
use Rattle.jxl_grammar.specs.Theorems.{listing, EveryFile}
use Rattle.jxl_grammar.proofs.Taking.{takes}
use Rattle.jxl_grammar.proofs.Listed.{listed}

-- a file fed whole
pub whole_feed : (p : BoxParser) (at : ℕ) (s : List ℕ) → feeding p at (s ∷ []) ≡ take p at s
whole_feed = AnyMachine.whole_feed parser

-- by the rule that broke
pub whole_file : (s : List ℕ) → let r = feeding fresh 0 (s ∷ []) in listing {step = step_of} (drop r.consumed s) r ≡ file s
unfolding file
whole_file s =
    let got = takes fresh 0 s in
    let all : (take fresh 0 s).consumed - 0 ≡ (take fresh 0 s).consumed = omega arith in
    let left : got.0 ≡ drop (take fresh 0 s).consumed s = (AnyMachine.unread got.1).1 ∙ ap (λ (n : ℕ). drop n s) all in
    ap (λ (r : Seen). listing (drop r.consumed s) r) (whole_feed fresh 0 s)
    ∙ ap (λ (u : List ℕ). listing u (take fresh 0 s)) (sym left)
    ∙ sym (listed (length s) fresh 0 s (refl, tt) (omega arith) got.1)

pub every_file : EveryFile
every_file s = ap (listing_as why) (whole_file s)
