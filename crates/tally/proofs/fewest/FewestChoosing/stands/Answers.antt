use Rattle.tally.specs.Sizes.{chooses}
use Rattle.tally.proofs.fewest.FewestChoosing.stands.Goals as goal

pub returns-in-Some-Some : goal.returns-in-Some-Some
returns-in-Some-Some c = chooses _ _ _ _ c.in-Some-Some.is-0 c.in-Some-Some.is-1
