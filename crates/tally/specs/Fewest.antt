-- Fewest: the fewest null links that a linkage has, a number below 2^32 - 1; or nothing, where none has so few.
use Rattle.std.specs.Prelude.{◌≡◌, ℕ, ◌+◌, ◌-◌, ◌^◌, min, cond, Some, None, Option, option_map, nat_lt, refl}
use Rattle.std.proofs.Common.{arith}
use Rattle.tally.specs.Numbers.{stop, limit}
use Rattle.tally.specs.Semiring.{Semiring}
use Rattle.tally.specs.declared.fewest.NullLinks.{NullLinks}
use Rattle.tally.specs.declared.fewest.Fewest.{Fewest}

-- A number of null links; it is asked for only below the limit.
abbrev pub null_links : ℕ → NullLinks
null_links n = record { number = stop (limit - 1) n; small = omega arith }

-- The two kinds of values.
abbrev pub nothing : Fewest
nothing = record { links = None }

abbrev pub number : NullLinks → Fewest
number a = record { links = Some a }

-- A number below the limit, and nothing from there on.
abbrev pub fewest : ℕ → Fewest
fewest n = cond (nat_lt n limit) (number (null_links n)) nothing

-- Of two values, each by its number if it has one, the smaller number.
abbrev pub smaller : Option NullLinks → Option NullLinks → Fewest
smaller None y = record { links = y }
smaller (Some a) None = number a
smaller (Some a) (Some b) = fewest (min a.number b.number)

abbrev pub sum : Option NullLinks → Option NullLinks → Fewest
sum None y = nothing
sum (Some a) None = nothing
sum (Some a) (Some b) = fewest (a.number + b.number)

-- A null link counts, and a bare word does not.
abbrev pub fewest_tally : Semiring Fewest
fewest_tally = record {
  nothing = nothing;
  single = fewest 0;
  gap = fewest 1;
  bare = fewest 0;
  either = λ x y. smaller x.links y.links;
  both = λ x y. sum x.links y.links;
}

-- The number, if there is one.
abbrev pub number_of : Fewest → Option ℕ
number_of x = option_map (λ (a : NullLinks). a.number) x.links

-- Of two and three null links the fewest are two, and together they are five.
example_fewest :
    (number_of (fewest_tally.either (fewest 2) (fewest 3)) ≡ Some 2)
    × (number_of (fewest_tally.either (fewest 2) nothing) ≡ Some 2)
    × (number_of (fewest_tally.both (fewest 2) (fewest 3)) ≡ Some 5)
example_fewest = (refl, refl, refl)

-- The largest number, and one more, which is nothing.
example_limit :
    (number_of (fewest (2 ^ 32 - 2)) ≡ Some (2 ^ 32 - 2))
    × (number_of (fewest_tally.both (fewest (2 ^ 32 - 2)) (fewest 1)) ≡ None)
example_limit = (refl, refl)
