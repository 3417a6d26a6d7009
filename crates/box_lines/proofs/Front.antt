-- What stood in a line stands in front of what is put behind it, as far as there is room.
use Rattle.std.proofs.Common.{◌≡◌, ◌≤◌, ◌++◌, ℕ, List, length, take, ◌∙◌, arith, length-append}
use Rattle.std.proofs.lemmas.List.{length-take, take_all, take-append-le, take-take}

pub stays : (n : ℕ) (old text : List ℕ) → length old ≤ n → take (length old) (take n (old ++ text)) ≡ old
stays n old text within = take-take (length old) n (old ++ text) within ∙ take-append-le (length old) old text (omega arith) ∙ take_all (length old) old (omega arith)

pub stays_parted : (n : ℕ) (old space text : List ℕ) → length old ≤ n → take (length old) (take n (take n (old ++ space) ++ text)) ≡ old
stays_parted n old space text within =
    let long : length old ≤ length (take n (old ++ space)) = omega (arith, length-take n (old ++ space), length-append old space) in
    take-take (length old) n (take n (old ++ space) ++ text) within ∙ take-append-le (length old) (take n (old ++ space)) text long ∙ stays n old space within
