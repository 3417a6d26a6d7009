-- Numbers at the front of a text.
use Rattle.std.specs.Prelude.{ℕ, List, [], ◌∷◌, ◌+◌, ◌-◌, ◌*◌, ◌^◌, nat_lt, Option, Some, None, if◌then◌else◌}

-- what a byte counts where it is one of `count` digits from `first` on, the first of which counts `from`; else `other`
abbrev span : ℕ → ℕ → ℕ → ℕ → Option ℕ → Option ℕ
span first count from b other = if nat_lt b first then other else if nat_lt b (first + count) then Some (b - first + from) else other

-- what a digit counts: `0` to `9`, and then the small letters from `a` to `f`
unfoldable pub digit : ℕ → Option ℕ
digit b = span 48 10 0 b (span 97 6 10 b None)

-- a number with one more digit, where that is one of the radix and 64 bits hold what comes
unfoldable pub appended : ℕ → ℕ → Option ℕ → Option ℕ
appended radix value None = None
appended radix value (Some d) = if nat_lt d radix then (if nat_lt (value * radix + d) (2 ^ 64) then Some (value * radix + d) else None) else None

-- on with what there is, or to a stop
abbrev go_on : ℕ × List ℕ → (ℕ → ℕ × List ℕ) → Option ℕ → ℕ × List ℕ
go_on stop on None = stop
go_on stop on (Some more) = on more

-- the number that the digits at the front of a text make behind those of `value`, and what stands behind them
unfoldable pub number : ℕ → List ℕ → ℕ → ℕ × List ℕ
number radix [] value = (value, [])
number radix (b ∷ text) value = go_on (value, b ∷ text) (number radix text) (appended radix value (digit b))
