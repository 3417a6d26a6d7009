-- One word added behind the other.
use mathlib.Core.Path.{◌≡◌, subst, ◌∙◌}
use mathlib.Core.List.{List, ◌++◌}
use Prim.Native.Nat.{ℕ}
use Rattle.jxl_lines.proofs.Bytes.{pasted_then}
use Rattle.jxl_listing.specs.Pages.{Added}
use Rattle.jxl_listing.specs.declared.Page.{Page}

pub added_then : {p q r : Page} {x y : List ℕ} → Added p x q → Added q y r → Added p (x ++ y) r
added_then a b = record { same_buffer = b.same_buffer ∙ a.same_buffer; put = pasted_then a.put b.put }

-- the same bytes by another name
pub added_as : {p q : Page} {v w : List ℕ} → v ≡ w → Added p v q → Added p w q
added_as {p} {q} same a = subst (λ (l : List ℕ). Added p l q) same a
