-- The two limits of what is counted, and a number that stops at a limit.
use Rattle.std.specs.Prelude.{ℕ, ◌-◌, ◌^◌, min}

-- The number itself up to the top, and the top from there on.
abbrev pub stop : ℕ → ℕ → ℕ
stop top n = min n top

-- The largest count.
abbrev pub most : ℕ
most = 2 ^ 64 - 1

-- What a number of null links is below.
abbrev pub limit : ℕ
limit = 2 ^ 32 - 1
