use Rattle.tally.specs.Figures.{found_made}
use Rattle.tally.proofs.fewest_ways.FewestWays.of.Goals as goal

pub returns-then-count-gt0 : goal.returns-then-count-gt0
returns-then-count-gt0 c = found_made _
