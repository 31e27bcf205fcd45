use Rattle.linkage.proofs.Listed.{listed, listed_once}
use Rattle.linkage.proofs.laws.each_listed_once.Goals as goal

pub returns : goal.returns
returns c = λ s. (listed s, listed_once s)
