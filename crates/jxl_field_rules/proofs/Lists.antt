-- Membership, as the library tests it; and what is a member stands in the list, so what Enum gives does.
-- Assumes nothing.
use mathlib.Core.Bool.{Bool, true, false, cond, ◌||◌}
use mathlib.Core.List.{List, [], ◌∷◌}
use Rattle.std.specs.Prelude.{nat_eq}
use Rattle.std.specs.List.{list_any}
use mathlib.Core.Path.{◌≡◌, refl, sym, ap}
use Prim.Native.Nat.{ℕ, suc, ◌<◌}
use native.Mathlib.Omega.{arith}
use borrow.Author.Tests.{eqb-true}
use lib.Dec.{eqb}
use lib.ListN.{length, get_or}
use Rattle.jxl_bit_rules.specs.Answer.{gives, done, refuse}
use Rattle.jxl_bit_rules.specs.Refusals.{enum}
use Rattle.jxl_bit_rules.proofs.Parts.{differ, gave}
use Rattle.jxl_field_rules.specs.Fields.{four, member, u32, enum_of}
use Rattle.jxl_field_rules.specs.Theorems.{EnumListed}

-- the library's test is membership
pub contained : (v : ℕ) (l : List ℕ) → list_any (λ y. nat_eq y v) l ≡ member v l
unfolding member
contained v [] = refl
contained v (x ∷ l) = ap (◌||◌ (eqb x v)) (contained v l)

-- a member stands somewhere in the list
stands : (v : ℕ) (l : List ℕ) → member v l ≡ true → (i : ℕ) × (i < length l) × (get_or l i 0 ≡ v)
unfolding member
stands v [] e = let z : ◌≡◌ {A = ℕ} 0 1 = cc in absurd (omega arith)
stands v (x ∷ l) e = go (eqb x v) refl (stands v l) e
  where
    go : (t : Bool) → eqb x v ≡ t → (member v l ≡ true → (i : ℕ) × (i < length l) × (get_or l i 0 ≡ v)) → t || member v l ≡ true
        → (i : ℕ) × (i < length (x ∷ l)) × (get_or (x ∷ l) i 0 ≡ v)
    go true same rest k = (0, omega arith, eqb-true x v same)
    go false same rest k =
        let r = rest k in
        (suc r.0, omega (arith, r.1), r.2)

pub enum_listed : EnumListed
unfolding enum_of
enum_listed list s at v p h =
    let g = gave s (u32 four s at) (λ x. cond (member x list) (done x) (refuse enum (x ∷ []))) v p h in
    go g.0 g.1 (member g.0 list) refl g.3
  where
    go : (x q : ℕ) (t : Bool) → member x list ≡ t → (cond t (done x) (refuse enum (x ∷ []))) s q ≡ gives v p
        → (i : ℕ) × (i < length list) × (get_or list i 0 ≡ v)
    go x q true m k =
        let same : x ≡ v = cc in
        let r = stands x list m in
        (r.0, r.1, cc)
    go x q false m k = differ (sym k)
