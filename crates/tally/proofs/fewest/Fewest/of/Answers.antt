use Rattle.tally.specs.Sizes.{number_made}
use Rattle.tally.proofs.fewest.Fewest.of.Goals as goal

pub returns-then-number-lt-LIMIT : goal.returns-then-number-lt-LIMIT
returns-then-number-lt-LIMIT c = number_made _
