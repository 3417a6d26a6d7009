-- What is printed is document 01's.
use mathlib.Core.Path.{◌≡◌, refl, ap, ◌∙◌}
use mathlib.Core.List.{◌++◌}
use Rattle.jxl_refusals.specs.Refusals.{in_document01}
use Rattle.jxl_refusals.proofs.Merging.{merges_back}
use Rattle.jxl_refusals.specs.declared.BoxRefusal.{BoxRefusal}
use Rattle.jxl_grammar.specs.Grammar.{Listing, file}
use Rattle.jxl_endings.specs.Ended.{Stop, done, refused, stop_as, ended_listing}
use Rattle.jxl_files.proofs.Listed.{as_before}
use Rattle.jxl_lines.specs.Lines.{refused_word, text}
use Rattle.jxl_lines.specs.declared.Line.TheVariants as L
use Rattle.jxl_lines.specs.declared.StopWord.{StopWord}
use Rattle.jxl_list_rules.specs.Listed.{last_word, word_in01, texts, listing_text, file_text}
use Rattle.jxl_list_rules.specs.Theorems.{ListingMergesBack}

stop_printed : (w : Stop BoxRefusal) → last_word w ≡ word_in01 (stop_as in_document01 w)
stop_printed done = refl
stop_printed (refused r) = ap refused_word (merges_back r)

pub listing_merges_back : ListingMergesBack
unfolding file_text
listing_merges_back s within =
    let l = ended_listing (file s) in
    ap (λ (x : Listing). listing_text (ended_listing x)) (as_before s within) ∙ ap (λ (w : StopWord). texts l.events ++ text (L.Stopped w l.consumed)) (stop_printed l.stop)
