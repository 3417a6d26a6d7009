-- What is proved of every step beside its promise; proofs/Laws.antt has a proof of each statement under the same name in small letters.
use Rattle.std.specs.Prelude.{◌≡◌, List, ℕ, ◌+◌, ◌≤◌, length}
use Rattle.jxl_cuts.specs.Machine.{Inside as PayloadInside}
use Rattle.jxl_record.specs.Record.{at}
use Rattle.jxl_refusals.specs.Refusals.{why}
use Rattle.jxl_grammar.specs.Naming.{numbered}
use Rattle.jxl_grammar.specs.Step.{Told, shows, wants, refuses, step_of}
use Rattle.jxl_events.specs.Event.{payload}
use Rattle.jxl_record.specs.declared.BitstreamKind.{BitstreamKind}
use Rattle.jxl_record.specs.declared.JxlpIndexState.{JxlpIndexState}
use Rattle.jxl_refusals.specs.declared.BoxRefusal.{BoxRefusal}
use Rattle.jxl_record.specs.declared.DetectState.TheVariants as S
use Rattle.jxl_record.specs.declared.BoxParser.{BoxParser}
use Rattle.jxl_events.specs.declared.ParseEvent.{ParseEvent}

-- refused stays: a refused parser answers its very refusal, values too, consumes nothing and is unchanged, also on an empty input
abbrev pub RefusedStays : Type 0
RefusedStays =
    (k : BitstreamKind) (r : BoxRefusal) (j : JxlpIndexState) (s : List ℕ)
    → numbered (step_of (at (S.Refused k r) j) s) ≡ refuses (why r) (at (S.Refused k r) j) 0

-- a parser that refuses every input for the rule w, and stays as it is
abbrev pub Repeats : BoxRefusal → BoxParser → Type 0
Repeats w p = (s : List ℕ) → step_of p s ≡ refuses w p 0

-- an event whose payload, if it shows one, lies inside n bytes
abbrev pub Inside : ParseEvent → ℕ → Type 0
Inside e n = PayloadInside (payload e) n

-- what a step tells of n bytes: it consumes no more than the input has; a payload shown lies inside the input; on WANT at most 15
-- bytes are left; a refusal leaves a parser that repeats it
abbrev pub Kept : ℕ → Told → Type 0
Kept n (shows e p c) = (c ≤ n) × Inside e n
Kept n (wants p c) = (c ≤ n) × (n ≤ c + 15)
Kept n (refuses w p c) = (c ≤ n) × Repeats w p

abbrev pub EveryStep : Type 0
EveryStep = (p : BoxParser) (s : List ℕ) → Kept (length s) (step_of p s)
