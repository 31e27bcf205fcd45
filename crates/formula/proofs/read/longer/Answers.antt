use Rattle.std.proofs.Common.{sym, subst, refl}
use Rattle.formula.specs.Shown.{Shows}
use Rattle.formula.specs.Ways.{ways, item_ways}
use Rattle.formula.proofs.Steps.{ways_more}
use Rattle.formula.proofs.read.longer.Goals as goal

pub returns-clause-joins : goal.returns-clause-joins
returns-clause-joins c f i stands joins = (
  refl,
  subst (Shows c.join.result) (sym (ways_more f c.args.next.now.mark i joins.0)) (c.join.ensures (ways f) (item_ways i) stands.1 joins.1),
)
