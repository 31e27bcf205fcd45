use Rattle.linkage.proofs.Figured.{figures_stand}
use Rattle.linkage.proofs.laws.known_figures.Goals as goal

pub returns : goal.returns
returns c = figures_stand c.inside_is_total.ensures c.inside_is_total-2.ensures
