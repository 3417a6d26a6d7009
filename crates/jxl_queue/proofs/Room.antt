-- What tests on 64-bit numbers say of sums, which may not fit.
use mathlib.Core.Path.{◌≡◌, refl, sym, ap, ◌∙◌}
use mathlib.Core.Bool.{Bool, true, false}
use Prim.Native.Nat.{ℕ, ◌+◌, ◌-◌, ◌^◌, ◌<◌, ◌≤◌}
use native.Mathlib.Omega.{arith}
use lib.Dec.{ltb, leb}
use borrow.Author.Tests.{lt-ltb, le-ltb, leb-true, leb-false}

pub room_for : (n m : ℕ) → n < 2 ^ 64 → leb m (18446744073709551615 - n) ≡ ltb (n + m) (2 ^ 64)
room_for n m h = go (leb m (18446744073709551615 - n)) refl
  where
    go : (t : Bool) → leb m (18446744073709551615 - n) ≡ t → leb m (18446744073709551615 - n) ≡ ltb (n + m) (2 ^ 64)
    go true e = e ∙ sym (lt-ltb (n + m) (2 ^ 64) (omega (arith, leb-true m (18446744073709551615 - n) e)))
    go false e = e ∙ sym (le-ltb (n + m) (2 ^ 64) (omega (arith, leb-false m (18446744073709551615 - n) e)))

pub room_behind : (b a n : ℕ) → b < 2 ^ 64 → a ≤ 18446744073709551615 - b → leb n (18446744073709551615 - b - a) ≡ ltb (b + a + n) (2 ^ 64)
room_behind b a n h k =
    let room : 18446744073709551615 - b - a ≡ 18446744073709551615 - (b + a) = omega arith in
    ap (λ (m : ℕ). leb n m) room ∙ room_for (b + a) n (omega arith)

pub no_room : (b a n : ℕ) → b < 2 ^ 64 → 18446744073709551615 - b < a → false ≡ ltb (b + a + n) (2 ^ 64)
no_room b a n h k = sym (le-ltb (b + a + n) (2 ^ 64) (omega arith))
