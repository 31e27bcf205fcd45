use Rattle.linkage.proofs.Few.{few_links}
use Rattle.linkage.proofs.Listed.{listed}
use Rattle.linkage.proofs.laws.few_links.Goals as goal

pub returns : goal.returns
returns c = λ s h x p. few_links s h x ((listed s x).1 p)
