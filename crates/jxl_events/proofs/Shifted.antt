-- An event further on: not at all, twice, and at its place in the file.
use mathlib.Core.Path.{◌≡◌, refl}
use Prim.Native.Nat.{ℕ, ◌+◌, ◌-◌}
use native.Mathlib.Nat.{zero-add, add_assoc}
use native.Mathlib.Omega.{arith}
use Rattle.jxl_events.specs.Event.{shifted}
use Rattle.jxl_events.specs.Total.{carrying, ending_at, EndsAt}
use Rattle.jxl_events.specs.Theorems.{InFileThere, InFileAnywhere}
use Rattle.jxl_events.specs.declared.ParseEvent.{ParseEvent}
use Rattle.jxl_events.specs.declared.ParseEvent.TheVariants as E

pub shifted_zero : (e : ParseEvent) → shifted 0 e ≡ e
shifted_zero (E.BitstreamKind k) = refl
shifted_zero E.NoMoreAuxBox = refl
shifted_zero (E.Codestream a l) = rw zero-add
shifted_zero (E.AuxBoxStart t b e) = refl
shifted_zero (E.AuxBoxData t a l) = rw zero-add
shifted_zero (E.AuxBoxEnd t) = refl

pub shifted_shifted : (n m : ℕ) (e : ParseEvent) → shifted n (shifted m e) ≡ shifted (n + m) e
shifted_shifted n m (E.BitstreamKind k) = refl
shifted_shifted n m E.NoMoreAuxBox = refl
shifted_shifted n m (E.Codestream a l) = rw (add_assoc n m a)
shifted_shifted n m (E.AuxBoxStart t b e) = refl
shifted_shifted n m (E.AuxBoxData t a l) = rw (add_assoc n m a)
shifted_shifted n m (E.AuxBoxEnd t) = refl

-- a payload that ends at the total is where it is in the file
there : (a n total : ℕ) → a + n ≡ total → total - n ≡ a
there a n total h = omega arith

pub in_file_there : InFileThere
in_file_there e = go e.event
  where
    go : (d : ParseEvent) → EndsAt e.total d → carrying (ending_at e.total d) e.total ≡ carrying d e.total
    go (E.BitstreamKind k) h = refl
    go E.NoMoreAuxBox h = refl
    go (E.Codestream a n) h = rw (there a n e.total h)
    go (E.AuxBoxStart t b x) h = refl
    go (E.AuxBoxData t a n) h = rw (there a n e.total h)
    go (E.AuxBoxEnd t) h = refl

-- and the same from anywhere
pub in_file_anywhere : InFileAnywhere
in_file_anywhere n e = go e.event
  where
    go : (d : ParseEvent) → carrying (ending_at e.total (shifted n d)) e.total ≡ carrying (ending_at e.total d) e.total
    go (E.BitstreamKind k) = refl
    go E.NoMoreAuxBox = refl
    go (E.Codestream a l) = refl
    go (E.AuxBoxStart t b x) = refl
    go (E.AuxBoxData t a l) = refl
    go (E.AuxBoxEnd t) = refl
