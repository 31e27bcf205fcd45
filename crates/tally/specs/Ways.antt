-- Ways: how many legal linkages there are, to 2^64 - 1; a sum or a product that is more stops there.
use Rattle.std.specs.Prelude.{◌≡◌, ℕ, ◌+◌, ◌*◌, ◌^◌, refl}
use Rattle.std.proofs.Common.{arith}
use Rattle.tally.specs.Numbers.{stop, most}
use Rattle.tally.specs.Semiring.{Semiring}
use Rattle.tally.specs.declared.ways.Ways.{Ways}

abbrev pub ways : ℕ → Ways
ways n = record { count = stop most n; fits = omega arith }

-- A linkage with a null link or a bare word is no way.
abbrev pub ways_tally : Semiring Ways
ways_tally = record {
  nothing = ways 0;
  single = ways 1;
  gap = ways 0;
  bare = ways 0;
  either = λ x y. ways (x.count + y.count);
  both = λ x y. ways (x.count * y.count);
}

-- Two ways or three are five, and two with three are six.
example_ways : ((ways_tally.either (ways 2) (ways 3)).count ≡ 5) × ((ways_tally.both (ways 2) (ways 3)).count ≡ 6)
example_ways = (refl, refl)

-- Both stop at the most.
example_stops :
    ((ways_tally.either (ways most) (ways 1)).count ≡ most) × ((ways_tally.both (ways (2 ^ 32)) (ways (2 ^ 32))).count ≡ most)
example_stops = (refl, refl)
