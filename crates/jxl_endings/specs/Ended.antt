-- What packets that are fed and then ended come to, and what the grammar says of a whole file that is ended.
use Rattle.std.specs.Prelude.{List, [], ◌∷◌, ◌++◌, ℕ, ◌-◌, drop}
use Rattle.jxl_refusals.specs.declared.BoxRefusal.{BoxRefusal}
use Rattle.jxl_refusals.specs.declared.BoxRefusal.TheVariants as Rule
use Rattle.jxl_events.specs.Total.{further, without_totals}
use Rattle.jxl_events.specs.declared.ParseEvent.{ParseEvent}
use Rattle.jxl_events.specs.declared.FileEvent.{FileEvent}
use Rattle.jxl_grammar.specs.End.{Close, missing, owes, nothing}
use Rattle.jxl_grammar.specs.Grammar.{Listing}
use Rattle.jxl_grammar.specs.Grammar as Grammar
use Rattle.jxl_totals.specs.Feeding.{Shown, Seen, events_in, joined, feeding, bytes_of}
use Rattle.jxl_files.specs.Files.{file}
use Rattle.jxl_endings.specs.End.{Ended, end_of}
use Rattle.jxl_endings.specs.End as End
use Rattle.jxl_totals.specs.declared.ContainerParser.{ContainerParser}
use Rattle.jxl_totals.specs.declared.FileRefusal.{FileRefusal}

-- how it stops: DONE, or a refusal: CutShort, or the one that came before the end
pub data Stop (Why : Type 0) : Type 0 where
  done : Stop Why
  refused : Why → Stop Why

abbrev pub stop_as : {A B : Type 0} → (A → B) → Stop A → Stop B
stop_as name done = done
stop_as name (refused r) = refused (name r)

-- what was shown, the event still owed, if any, with its place in the file, the place up to which all is consumed, the stop, and the record
pub record Finished : Type 0 where
  pub shown : List Shown
  pub owed : List FileEvent
  pub consumed : ℕ
  pub stop : Stop FileRefusal
  pub next : ContainerParser

-- the event of an end call, which stands at `at` in the file, with its place there
abbrev pub placed_at : ℕ → List FileEvent → List FileEvent
placed_at at [] = []
placed_at at (e ∷ es) = further at e ∷ placed_at at es

abbrev pub owed_by : ℕ → Ended → List FileEvent
owed_by at (End.done es q) = placed_at at es
owed_by at (End.refuses w q) = []

abbrev pub stop_by : Ended → Stop FileRefusal
stop_by (End.done es q) = done
stop_by (End.refuses w q) = refused w

abbrev pub next_by : Ended → ContainerParser
next_by (End.done es q) = q
next_by (End.refuses w q) = q

abbrev pub finished_by : Seen → Ended → Finished
finished_by r e = record { shown = r.shown; owed = owed_by r.consumed e; consumed = r.consumed; stop = stop_by e; next = next_by e }

-- the bytes left unread
abbrev pub unread_of : ContainerParser → List (List ℕ) → Seen → List ℕ
unread_of p xs r = drop (r.consumed - p.total) (bytes_of xs)

-- packets fed, each behind the bytes left unread, and then the end call, made with the bytes left unread
abbrev pub finished : ContainerParser → List (List ℕ) → Finished
finished p xs = let r = feeding p xs in finished_by r (end_of r.next (unread_of p xs r))

-- all events, parts not joined
abbrev pub events : Finished → List FileEvent
events f = events_in f.shown ++ f.owed

-- a file that is ended: events with places in the file, the bytes consumed, the stop
pub record EndedBy (Rule : Type 0) : Type 0 where
  pub events : List ParseEvent
  pub consumed : ℕ
  pub stop : Stop Rule

abbrev pub ended_as : {A B : Type 0} → (A → B) → EndedBy A → EndedBy B
ended_as name l = record { events = l.events; consumed = l.consumed; stop = stop_as name l.stop }

abbrev pub EndedFile : Type 0
EndedFile = EndedBy BoxRefusal

abbrev pub ends : Stop BoxRefusal → List ParseEvent → Listing → EndedFile
ends w owed l = record { events = l.events ++ owed; consumed = l.consumed; stop = w }

-- where more is wanted: CutShort, "ahead of any owed event"; or the owed event, and DONE
abbrev pub closing : Close → Listing → EndedFile
closing missing l = ends (refused Rule.CutShort) [] l
closing (owes e) l = ends done (e ∷ []) l
closing nothing l = ends done [] l

-- a file that is refused stays so
abbrev pub ending : Grammar.Stop → Listing → EndedFile
ending Grammar.want l = closing l.close l
ending (Grammar.refused r) l = ends (refused r) [] l

-- the whole file, ended: what the grammar lists of it, with the limit, and what its end comes to
abbrev pub ended_listing : Listing → EndedFile
ended_listing l = ending l.stop l

abbrev pub ended : List ℕ → EndedFile
ended s = ended_listing (file s)

-- what packets that were ended come to, in the same terms: the events joined, and the owed one
abbrev pub outcome : Finished → EndedFile
outcome f =
    record {
      events = without_totals (joined (events_in f.shown)) ++ without_totals f.owed;
      consumed = f.consumed;
      stop = stop_as (λ (r : FileRefusal). r.rule) f.stop;
    }
