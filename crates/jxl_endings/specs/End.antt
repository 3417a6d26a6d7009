-- The end call, made with the unread bytes: document 02, P4. What it answers, and the record that it leaves, for every record.
use Rattle.std.specs.Prelude.{List, [], ◌∷◌, ℕ}
use Rattle.jxl_headers.specs.Bytes.{if}
use Rattle.jxl_refusals.specs.declared.BoxRefusal.{BoxRefusal}
use Rattle.jxl_refusals.specs.declared.BoxRefusal.TheVariants as Rule
use Rattle.jxl_record.specs.declared.DetectState.{DetectState}
use Rattle.jxl_record.specs.declared.DetectState.TheVariants as S
use Rattle.jxl_events.specs.Total.{carrying}
use Rattle.jxl_events.specs.declared.FileEvent.{FileEvent}
use Rattle.jxl_grammar.specs.Step as Boxes
use Rattle.jxl_grammar.specs.End.{Close, missing, owes, nothing, close_of}
use Rattle.jxl_totals.specs.Step.{counted, refusal_of}
use Rattle.jxl_totals.specs.Naming.{Said, is_closed, says_refusal}
use Rattle.jxl_totals.specs.declared.ContainerParser.{ContainerParser}
use Rattle.jxl_totals.specs.declared.FileRefusal.{FileRefusal}

-- one call gives "the one event still owed, or none", and DONE; or a refusal; each with the record then. No byte is consumed
pub data Answer (Why : Type 0) : Type 0 where
  done : List (FileEvent) → ContainerParser → Answer Why
  refuses : Why → ContainerParser → Answer Why

abbrev pub Ended : Type 0
Ended = Answer FileRefusal

-- the record that takes no more for this cause: kind, row, total and header stay
abbrev pub stopped : BoxRefusal → ContainerParser → ContainerParser
stopped r p = counted (Boxes.refused r p.boxes) p.total p.header

-- CutShort "stays", and names the total; an end that is not refused closes the parser
abbrev pub closing : ContainerParser → Close → Ended
closing p missing = refuses (refusal_of Rule.CutShort (stopped Rule.CutShort p)) (stopped Rule.CutShort p)
closing p (owes e) = done (carrying e p.total ∷ []) (stopped Rule.Closed p)
closing p nothing = done [] (stopped Rule.Closed p)

-- "a further end call gives DONE, its bytes not looked at"; "a refused parser repeats its refusal here too"
abbrev pub again : BoxRefusal → ContainerParser → Ended
again r p = if (is_closed r) (done [] p) (refuses (refusal_of r p) p)

abbrev pub end_in : DetectState → ContainerParser → List ℕ → Ended
end_in S.WaitingSignature p u = closing p (close_of p.boxes u)
end_in S.WaitingBoxHeader p u = closing p (close_of p.boxes u)
end_in (S.WaitingJxlpIndex l) p u = closing p (close_of p.boxes u)
end_in (S.WaitingInnerType l) p u = closing p (close_of p.boxes u)
end_in (S.InAuxBox t l) p u = closing p (close_of p.boxes u)
end_in (S.InCodestream k l pending) p u = closing p (close_of p.boxes u)
end_in (S.Refused k r) p u = again r p

unfoldable pub end_of : ContainerParser → List ℕ → Ended
end_of p u = end_in p.boxes.state p u

-- an answer in the paper's words
abbrev pub numbered_end : Ended → Answer Said
numbered_end (done es p) = done es p
numbered_end (refuses r p) = refuses (says_refusal r) p
