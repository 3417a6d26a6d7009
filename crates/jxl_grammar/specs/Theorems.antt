-- The rules on boxes: every file, and that they are lawful. Each statement is a type, which proofs/ proves under the same name in small
-- letters (`ParserIsLawful` as `lawful`).
use Rattle.std.specs.Prelude.{◌≡◌, List, [], ◌∷◌, ℕ, drop}
use Rattle.jxl_refusals.specs.Refusals.{why, in_document01, merged}
use Rattle.jxl_refusals.specs.declared.BoxRefusal.TheVariants.{ImpossibleRecord}
use Rattle.jxl_record.specs.Record.{fresh}
use Rattle.jxl_grammar.specs.Step.{Told, shows, wants, refuses, step_of}
use Rattle.jxl_record.specs.declared.BitstreamKind.TheVariants as K
use Rattle.jxl_record.specs.declared.DetectState.TheVariants as S
use Rattle.jxl_record.specs.declared.BoxParser.{BoxParser}
use Rattle.jxl_events.specs.declared.ParseEvent.TheVariants as E
use Rattle.jxl_cuts.specs.Lawful.{Lawful}
use Rattle.jxl_cuts.specs.Feeding as AnyMachine
use Rattle.jxl_grammar.specs.End.{close_at, close_of}
use Rattle.jxl_grammar.specs.Parser.{parser_by, parser}
use Rattle.jxl_grammar.specs.Grammar.{Listing}
use Rattle.jxl_grammar.specs.Naming.{told_as, listing_as, step_by, file_by}
use Rattle.jxl_grammar.specs.Feeding.{events}

-- what was seen of a parser that steps so, as a listing, and what an end with the bytes left unread comes to
abbrev pub listing : {step : BoxParser → List ℕ → Told} → List ℕ → AnyMachine.Seen (parser_by step) → Listing
listing unread r =
    record { events = events r; consumed = r.consumed; stop = r.stop; close = close_at r.consumed (close_of r.next unread) }

-- a step that is right of every file: fed whole to a fresh parser it shows exactly the grammar's events, consumes what it says and
-- stops as it says, a refusal by its number and values; and where it wants more, an end comes to what the grammar says
abbrev pub ListsEveryFile : (BoxParser → List ℕ → Told) → Type 0
ListsEveryFile step =
    (s : List ℕ) →
    let r = AnyMachine.feeding (parser_by step) fresh 0 (s ∷ []) in
    listing_as why (listing {step = step} (drop r.consumed s) r) ≡ file_by why s

-- versions to catch: a parser that only refuses, one that only says KIND invalid, one that only says WANT, and one that gives its first
-- event rightly and then says WANT
abbrev pub only_refuses : BoxParser → List ℕ → Told
only_refuses p s = refuses ImpossibleRecord p 0

abbrev pub only_invalid : BoxParser → List ℕ → Told
only_invalid p s = shows (E.BitstreamKind K.Invalid) p 0

abbrev pub only_wants : BoxParser → List ℕ → Told
only_wants p s = wants p 0

abbrev pub first_then_wants : BoxParser → List ℕ → Told
first_then_wants p s = elim p.state [
  | S.WaitingSignature ↦ step_of p s
  | S.WaitingBoxHeader ↦ wants p 0
  | S.WaitingJxlpIndex l ↦ wants p 0
  | S.WaitingInnerType l ↦ wants p 0
  | S.InAuxBox t l ↦ wants p 0
  | S.InCodestream k l pending ↦ wants p 0
  | S.Refused k r ↦ wants p 0
]

-- every file
abbrev pub EveryFile : Type 0
EveryFile = ListsEveryFile step_of

-- none of those to catch is right of every file
pub record Caught : Type 0 where
  pub refuses_caught : ListsEveryFile only_refuses → ⊥
  pub invalid_caught : ListsEveryFile only_invalid → ⊥
  pub wants_caught : ListsEveryFile only_wants → ⊥
  pub first_caught : ListsEveryFile first_then_wants → ⊥

-- the rules keep the laws of jxl_cuts; what follows from that of feeding is said of the parser that counts (jxl_files)
abbrev pub ParserIsLawful : Type 0
ParserIsLawful = Lawful parser

-- merges back: with numbers 10 to 19 merged into 1, what a step tells is document 01's, for every record and input
abbrev pub StepMergesBack : Type 0
StepMergesBack = (p : BoxParser) (s : List ℕ) → told_as merged (step_by why p s) ≡ step_by in_document01 p s
