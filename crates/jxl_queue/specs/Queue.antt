-- A sum that stops at the largest number of 64 bits, and how many events a queue must hold.
use Rattle.std.specs.Prelude.{ℕ, ◌+◌, ◌-◌, ◌/◌, ◌^◌, min}

-- the sum, at most 2^64 - 1
abbrev pub saturated : ℕ → ℕ → ℕ
saturated a b = min (a + b) (2 ^ 64 - 1)

-- n bytes in k packets and the end call give at most n / 3 + 3 + k events (`MostEventsEnded` of jxl_endings); the number saturates at 64 bits
abbrev pub most_events : ℕ → ℕ → ℕ
most_events n k = min (n / 3 + 3 + k) (2 ^ 64 - 1)
