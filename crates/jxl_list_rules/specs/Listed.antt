-- The text of a listing: of what was seen, of a whole file, and of what closes it. A listing makes the end call.
use Rattle.std.specs.Prelude.{Option, None, Some, Result, Ok, Err, List, [], ◌∷◌, ◌++◌, ℕ, ◌-◌, ◌^◌, min, leb, length, drop}
use Rattle.jxl_headers.specs.Bytes.{if}
use Rattle.jxl_refusals.specs.Refusals.{Why, why, in_document01}
use Rattle.jxl_refusals.specs.declared.BoxRefusal.{BoxRefusal}
use Rattle.jxl_events.specs.Total.{in_file, without_totals}
use Rattle.jxl_events.specs.declared.ParseEvent.{ParseEvent}
use Rattle.jxl_events.specs.declared.FileEvent.{FileEvent}
use Rattle.jxl_grammar.specs.Grammar as G
use Rattle.jxl_totals.specs.Step.{Told, shows, wants, refuses, step_of}
use Rattle.jxl_totals.specs.Feeding.{take, events}
use Rattle.jxl_endings.specs.End.{Ended, end_of}
use Rattle.jxl_endings.specs.End as End
use Rattle.jxl_endings.specs.Ended.{Stop, done, refused, EndedFile, ended_as, ended_listing, ended}
use Rattle.jxl_totals.specs.declared.ContainerParser.{ContainerParser}
use Rattle.jxl_lines.specs.Lines.{refused_word, printed, text}
use Rattle.jxl_lines.specs.Pasting.{pasted}
use Rattle.jxl_lines.specs.Putting.{Outcome, leaves}
use Rattle.jxl_lines.specs.declared.Line.{Line}
use Rattle.jxl_lines.specs.declared.Line.TheVariants as L
use Rattle.jxl_lines.specs.declared.StopWord.{StopWord}
use Rattle.jxl_lines.specs.declared.StopWord.TheVariants as S
use Rattle.jxl_list_rules.specs.declared.AfterStep.{AfterStep}

-- how a feed stops, as a turn says it
abbrev pub stop_of : G.Stop → StopWord
stop_of G.want = S.Want
stop_of (G.refused r) = printed (why r)

abbrev pub texts : List ParseEvent → List ℕ
texts [] = []
texts (e ∷ es) = text (L.Shown e) ++ texts es

-- the lines of events that carry totals; the totals are not printed
abbrev pub lines_of : List FileEvent → List ℕ
lines_of es = texts (without_totals es)

-- how a file that is ended stops
abbrev pub last_word : Stop BoxRefusal → StopWord
last_word done = S.Done
last_word (refused r) = printed (why r)

-- a line for each event, the owed one too, and the stop
abbrev pub listing_text : EndedFile → List ℕ
listing_text l = texts l.events ++ text (L.Stopped (last_word l.stop) l.consumed)

-- the listing of a whole file, which the grammar gives, with the limit and the end
unfoldable pub file_text : List ℕ → List ℕ
file_text s = listing_text (ended s)

-- the same listing by document 01's naming of refusals: the stop by its number there, or, where the file was not refused, the end
abbrev pub word_in01 : Stop Why → StopWord
word_in01 done = S.Done
word_in01 (refused w) = refused_word w

abbrev pub file_text_in01 : List ℕ → List ℕ
file_text_in01 s =
    let l = ended_as in_document01 (ended_listing (G.file s)) in
    texts l.events ++ text (L.Stopped (word_in01 l.stop) l.consumed)

-- events with their places in the file
abbrev pub in_files : List FileEvent → List FileEvent
in_files [] = []
in_files (e ∷ es) = in_file e ∷ in_files es

-- what closes a listing of which n bytes are consumed: the line of the event still owed, if any, and the stop's
abbrev pub end_text : Ended → ℕ → List ℕ
end_text (End.done es q) n = lines_of (in_files es) ++ text (L.Stopped S.Done n)
end_text (End.refuses r q) n = text (L.Stopped (printed (why r.rule)) n)

-- the same as lines: of events, of what closes a listing, and of all that is still to come of the file f, of which the record's total is
-- consumed
abbrev pub shown_lines : List ParseEvent → List Line
shown_lines [] = []
shown_lines (e ∷ es) = L.Shown e ∷ shown_lines es

abbrev pub end_lines : Ended → ℕ → List Line
end_lines (End.done es q) n = shown_lines (without_totals (in_files es)) ++ L.Stopped S.Done n ∷ []
end_lines (End.refuses r q) n = L.Stopped (printed (why r.rule)) n ∷ []

abbrev pub lines_from : ContainerParser → List ℕ → List Line
lines_from p f =
    let seen = take p (drop p.total f) in
    shown_lines (without_totals (events seen)) ++ end_lines (end_of seen.next (drop seen.consumed f)) seen.consumed

-- with no record: nothing, since the stop was told
abbrev pub lines_left : Option ContainerParser → List ℕ → List Line
lines_left None f = []
lines_left (Some p) f = lines_from p f

-- lines put one behind the other
abbrev pub text_of : List Line → List ℕ
text_of [] = []
text_of (l ∷ ls) = text l ++ text_of ls

abbrev pub after_step : Result ParseEvent StopWord → ContainerParser → AfterStep
after_step answer q = record { parser = q; answer = answer }

-- what comes next: an event with its place in the file, the owed one too, or the stop; and the record then
abbrev pub next_end : Ended → AfterStep
next_end (End.done [] q) = after_step (Err S.Done) q
next_end (End.done (e ∷ es) q) = after_step (Ok (in_file e).event) q
next_end (End.refuses r q) = after_step (Err (printed (why r.rule))) q

-- of a step on the bytes `s` to the end of the file: an event; or, where more is wanted or a rule broke, what the end call says
abbrev pub next_in : List ℕ → Told → AfterStep
next_in s (shows e q c) = after_step (Ok (in_file e).event) q
next_in s (wants q c) = next_end (end_of q (drop c s))
next_in s (refuses r q c) = next_end (end_of q (drop c s))

abbrev pub next_of : ContainerParser → List ℕ → AfterStep
next_of p s = next_in s (step_of p s)

-- the listing put into a buffer if it fits; else the buffer stays as it was, and the room needed is told, at most the largest number
-- of 64 bits
unfoldable pub list_of : List ℕ → List ℕ → Outcome
list_of d w =
    if (leb (length w) (length d)) (leaves (Ok (length w)) (pasted d 0 w))
    (leaves (Err (record { needed = min (length w) (2 ^ 64 - 1) })) d)
