-- What both of two tests say.
use mathlib.Core.Path.{◌≡◌, refl}
use mathlib.Core.Bool.{Bool, true, false}
use Rattle.jxl_base.proofs.Never.{never}
use Rattle.jxl_headers.specs.Bytes.{and}

pub and_first : (t u : Bool) → and t u ≡ true → t ≡ true
and_first true u e = refl
and_first false u e = e

pub and_second : (t : Bool) {u : Bool} → and t u ≡ true → u ≡ true
and_second true e = e
and_second false e = never e
