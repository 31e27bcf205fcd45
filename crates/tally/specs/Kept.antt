-- The four kinds keep the laws of a tally: the proofs that each hands over with its values. Assumes nothing.
use Rattle.std.specs.Prelude.{None}
use Rattle.std.proofs.Common.{arith, mul-one, mul-zero, mul_comm, rules}
use Rattle.std.proofs.lemmas.Bool.Decides.{nat_tests}
use Rattle.tally.specs.Semiring.{Laws}
use Rattle.tally.specs.Numbers.{most}
use Rattle.tally.specs.Legal.{legal_tally}
use Rattle.tally.specs.Ways.{ways_tally}
use Rattle.tally.specs.Fewest.{fewest, fewest_tally}
use Rattle.tally.specs.FewestWays.{fewest_ways, fewest_ways_tally}
use Rattle.tally.specs.Same.{same_ways}
use Rattle.tally.specs.Stops.{mul_around, mul_over}
use Rattle.tally.specs.Sizes.{same_fewest, size_small, size_smaller, size_sum}
use Rattle.tally.specs.Figures.{bound, count, same_figures, size_fewer, count_fewer, size_together, count_together}

pub legal_laws : Laws legal_tally
legal_laws = search rules

pub ways_laws : Laws ways_tally
ways_laws = record {
  either_comm = λ x y. same_ways _ _ (omega arith);
  either_assoc = λ x y z. same_ways _ _ (omega arith);
  either_nothing = λ x. same_ways _ _ (let h = x.fits in omega arith);
  both_comm = λ x y. same_ways _ _ (omega (arith, mul_comm x.count y.count));
  both_assoc = λ x y z. same_ways _ _ (mul_around most x.count y.count z.count);
  both_single = λ x. same_ways _ _ (let h = x.fits in omega (arith, mul-one x.count));
  both_nothing = λ x. same_ways _ _ (omega (arith, mul-zero x.count));
  both_either = λ x y z. same_ways _ _ (mul_over most x.count y.count z.count);
}

pub fewest_laws : Laws fewest_tally
fewest_laws = record {
  either_comm = λ x y. same_fewest _ _ (simp size_smaller (omega arith));
  either_assoc = λ x y z. same_fewest _ _ (simp size_smaller (omega arith));
  either_nothing = λ x. same_fewest _ _ (omega (arith, size_smaller x.links None, size_small x.links));
  both_comm = λ x y. same_fewest _ _ (simp size_sum (omega arith));
  both_assoc = λ x y z. same_fewest _ _ (simp size_sum (omega arith));
  both_single = λ x. same_fewest _ _ (omega (arith, size_sum x.links (fewest 0).links, size_small x.links));
  both_nothing = λ x. same_fewest _ _ (simp size_sum (omega arith));
  both_either = λ x y z. same_fewest _ _ (simp (size_smaller, size_sum) (omega arith));
}

pub fewest_ways_laws : Laws fewest_ways_tally
fewest_ways_laws = record {
  either_comm = λ x y. same_figures _ _ (simp size_fewer (omega arith)) (simp count_fewer (grind (arith, nat_tests)));
  either_assoc = λ x y z.
      same_figures _ _ (simp size_fewer (omega arith)) (simp (size_fewer, count_fewer) (grind (arith, nat_tests)));
  either_nothing = λ x.
      let b = bound x.least in
      same_figures _ _ (omega (arith, size_fewer x.least None)) (simp count_fewer (grind (arith, nat_tests)));
  both_comm = λ x y.
      let e = mul_comm (count x.least) (count y.least) in
      same_figures _ _ (simp size_together (omega arith)) (simp count_together (grind (arith, nat_tests)));
  both_assoc = λ x y z.
      let e = mul_around most (count x.least) (count y.least) (count z.least) in
      same_figures _ _ (simp size_together (omega arith)) (simp (size_together, count_together) (grind (arith, nat_tests)));
  both_single = λ x.
      let b = bound x.least in let e = mul-one (count x.least) in
      same_figures _ _ (omega (arith, size_together x.least (fewest_ways 0 1).least)) (simp count_together (grind (arith, nat_tests)));
  both_nothing = λ x. same_figures _ _ (omega (arith, size_together x.least None)) (simp count_together (grind (arith, nat_tests)));
  both_either = λ x y z.
      let e = mul_over most (count x.least) (count y.least) (count z.least) in
      same_figures _ _ (simp (size_together, size_fewer) (omega arith))
      (simp (size_together, size_fewer, count_together, count_fewer) (grind (arith, nat_tests)));
}
