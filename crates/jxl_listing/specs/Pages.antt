-- Bytes added to a page: a lent buffer with the place of its next byte.
use Rattle.std.specs.Prelude.{◌≡◌, List, ℕ, ◌+◌, ◌≤◌, length}
use Rattle.jxl_lines.specs.Pasting.{Pasted}
use Rattle.jxl_listing.specs.declared.Page.{Page}

-- there is room for w
abbrev pub Fits : Page → List ℕ → Type 0
Fits p w = p.at + length w ≤ length p.out.now

-- w was added to p, which gave q: a page of the same buffer
pub record Added (p : Page) (w : List ℕ) (q : Page) : Type 0 where
  pub same_buffer : q.out.ghost_name ≡ p.out.ghost_name
  pub put : Pasted p.out.now p.at w q.out.now q.at
