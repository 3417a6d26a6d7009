-- Events that stand further on: their payloads move along, and two of them join as before.
use mathlib.Core.Path.{◌≡◌, refl, ap}
use mathlib.Core.Bool.{Bool, true, false}
use Prim.Native.Nat.{ℕ, ◌+◌}
use native.Mathlib.Omega.{arith}
use lib.Dec.{eqb}
use borrow.Author.Tests.{eqb-true, eqb-false, eq-eqb, ne_eqb}
use Rattle.jxl_headers.specs.Bytes.{and}
use Rattle.jxl_events.specs.Event.{shifted, payload, length_of}
use Rattle.jxl_events.proofs.Shifted.{shifted_shifted}
use Rattle.jxl_events.specs.declared.ParseEvent.{ParseEvent}
use Rattle.jxl_events.specs.declared.ParseEvent.TheVariants as E
use Rattle.jxl_cuts.specs.Machine.{further}
use Rattle.jxl_cuts.specs.Lawful.{Moves}
use Rattle.jxl_parts.specs.Joined.{code_at, aux_at, joins, longer}
use Rattle.jxl_grammar.specs.Parser.{parser}

shift_payload : (n : ℕ) (e : ParseEvent) → payload (shifted n e) ≡ further n (payload e)
shift_payload n (E.BitstreamKind k) = refl
shift_payload n E.NoMoreAuxBox = refl
shift_payload n (E.Codestream a l) = refl
shift_payload n (E.AuxBoxStart t b e) = refl
shift_payload n (E.AuxBoxData t a l) = refl
shift_payload n (E.AuxBoxEnd t) = refl

shift_eqb : (n a l b : ℕ) → eqb (n + a + l) (n + b) ≡ eqb (a + l) b
shift_eqb n a l b = go (eqb (a + l) b) refl
  where
    go : (t : Bool) → eqb (a + l) b ≡ t → eqb (n + a + l) (n + b) ≡ t
    go true e = eq-eqb (n + a + l) (n + b) (omega (arith, eqb-true (a + l) b e))
    go false e = ne_eqb (n + a + l) (n + b) (λ q. eqb-false (a + l) b e (omega arith))

shift_code : (n a l : ℕ) (f : ParseEvent) → code_at (n + a + l) (shifted n f) ≡ code_at (a + l) f
shift_code n a l (E.BitstreamKind k) = refl
shift_code n a l E.NoMoreAuxBox = refl
shift_code n a l (E.Codestream b m) = shift_eqb n a l b
shift_code n a l (E.AuxBoxStart t b e) = refl
shift_code n a l (E.AuxBoxData t b m) = refl
shift_code n a l (E.AuxBoxEnd t) = refl

shift_aux : (n t a l : ℕ) (f : ParseEvent) → aux_at t (n + a + l) (shifted n f) ≡ aux_at t (a + l) f
shift_aux n t a l (E.BitstreamKind k) = refl
shift_aux n t a l E.NoMoreAuxBox = refl
shift_aux n t a l (E.Codestream b m) = refl
shift_aux n t a l (E.AuxBoxStart u b e) = refl
shift_aux n t a l (E.AuxBoxData u b m) = ap (and (eqb t u)) (shift_eqb n a l b)
shift_aux n t a l (E.AuxBoxEnd u) = refl

shift_joins : (n : ℕ) (e f : ParseEvent) → joins (shifted n e) (shifted n f) ≡ joins e f
shift_joins n (E.BitstreamKind k) f = refl
shift_joins n E.NoMoreAuxBox f = refl
shift_joins n (E.Codestream a l) f = shift_code n a l f
shift_joins n (E.AuxBoxStart t b e) f = refl
shift_joins n (E.AuxBoxData t a l) f = shift_aux n t a l f
shift_joins n (E.AuxBoxEnd t) f = refl

shift_length : (n : ℕ) (f : ParseEvent) → length_of (shifted n f) ≡ length_of f
shift_length n (E.BitstreamKind k) = refl
shift_length n E.NoMoreAuxBox = refl
shift_length n (E.Codestream b m) = refl
shift_length n (E.AuxBoxStart t b e) = refl
shift_length n (E.AuxBoxData t b m) = refl
shift_length n (E.AuxBoxEnd t) = refl

longer_shifted : (n m : ℕ) (e : ParseEvent) → longer m (shifted n e) ≡ shifted n (longer m e)
longer_shifted n m (E.BitstreamKind k) = refl
longer_shifted n m E.NoMoreAuxBox = refl
longer_shifted n m (E.Codestream b l) = refl
longer_shifted n m (E.AuxBoxStart t b e) = refl
longer_shifted n m (E.AuxBoxData t b l) = refl
longer_shifted n m (E.AuxBoxEnd t) = refl

shift_longer : (n : ℕ) (e f : ParseEvent) → longer (length_of (shifted n f)) (shifted n e) ≡ shifted n (longer (length_of f) e)
shift_longer n e f = rw (shift_length n f) (longer_shifted n (length_of f) e)

pub moves : Moves parser
moves = record { shift_twice = shifted_shifted; shift_payload = shift_payload; shift_joins = shift_joins; shift_longer = shift_longer }
