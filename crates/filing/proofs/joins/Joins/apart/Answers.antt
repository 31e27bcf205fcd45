use Rattle.std.proofs.Common.{arith}
use Rattle.filing.proofs.Held.{holds_none}
use Rattle.filing.proofs.joins.Joins.apart.Goals as goal

pub returns-clause-holds : goal.returns-clause-holds
returns-clause-holds c =
    let xs = c.loop-label.labels.items in
    let l = c.loop-label.invariant.0 in
    holds_none xs c.args.count (omega arith) (λ u h. c.loop-label.invariant.1 u (omega arith))
