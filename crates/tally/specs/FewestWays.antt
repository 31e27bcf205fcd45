-- Fewest-ways: the fewest null links that a linkage has, below 2^32 - 1, with how many linkages have them; or nothing, where none has so few.
use Rattle.std.specs.Prelude.{◌≡◌, ℕ, ◌+◌, ◌-◌, ◌*◌, ◌^◌, max, cond, ◌&&◌, Some, None, Option, option_map, nat_lt, refl}
use Rattle.std.proofs.Common.{arith}
use Rattle.tally.specs.Numbers.{stop, most, limit}
use Rattle.tally.specs.Semiring.{Semiring}
use Rattle.tally.specs.declared.fewest_ways.Least.{Least}
use Rattle.tally.specs.declared.fewest_ways.FewestWays.{FewestWays}

-- A number with its count; it is asked for only below the limit, and with a count of at least 1.
abbrev pub least : ℕ → ℕ → Least
least n c = record {
  number = stop (limit - 1) n;
  count = max 1 (stop most c);
  small = omega arith;
  some = omega arith;
  fits = omega arith;
}

-- The two kinds of values.
abbrev pub nothing : FewestWays
nothing = record { least = None }

abbrev pub found : Least → FewestWays
found a = record { least = Some a }

-- A number with its count, which stops at the most; nothing where the number is not below the limit, or the count is 0.
abbrev pub fewest_ways : ℕ → ℕ → FewestWays
fewest_ways n c = cond (nat_lt n limit && nat_lt 0 c) (found (least n c)) nothing

-- The smaller number with its count; equal ones with their counts added.
abbrev pub fewer : Option Least → Option Least → FewestWays
fewer None y = record { least = y }
fewer (Some a) None = found a
fewer (Some a) (Some b) =
    cond (nat_lt a.number b.number) (found a)
    (cond (nat_lt b.number a.number) (found b)
    (fewest_ways a.number (a.count + b.count)))

-- The numbers added, and each way of one with each of the other.
abbrev pub together : Option Least → Option Least → FewestWays
together None y = nothing
together (Some a) None = nothing
together (Some a) (Some b) = fewest_ways (a.number + b.number) (a.count * b.count)

-- A null link counts, and a bare word does not.
abbrev pub fewest_ways_tally : Semiring FewestWays
fewest_ways_tally = record {
  nothing = nothing;
  single = fewest_ways 0 1;
  gap = fewest_ways 1 1;
  bare = fewest_ways 0 1;
  either = λ x y. fewer x.least y.least;
  both = λ x y. together x.least y.least;
}

-- The number with its count, if there is one.
abbrev pub least_of : FewestWays → Option Least
least_of x = x.least

-- For the examples: the number and the count.
abbrev figures : FewestWays → Option (ℕ × ℕ)
figures x = option_map (λ (a : Least). (a.number, a.count)) x.least

-- Two null links in five ways, or three in four; or two in four more.
example_fewer :
    (figures (fewest_ways_tally.either (fewest_ways 2 5) (fewest_ways 3 4)) ≡ Some (2, 5))
    × (figures (fewest_ways_tally.either (fewest_ways 2 5) (fewest_ways 2 4)) ≡ Some (2, 9))
example_fewer = (refl, refl)

-- The numbers are added and the counts multiplied, up to the most.
example_together :
    (figures (fewest_ways_tally.both (fewest_ways 2 5) (fewest_ways 3 4)) ≡ Some (5, 20))
    × (figures (fewest_ways_tally.both (fewest_ways 2 (2 ^ 63)) (fewest_ways 3 4)) ≡ Some (5, 2 ^ 64 - 1))
example_together = (refl, refl)
