use Rattle.std.proofs.Common.{◌≡◌, ◌+◌, length, ◌∙◌, arith, rules}
use Rattle.std.specs.List.{sum_by}
use Rattle.std.proofs.lemmas.Iterator.{YieldsList-from_map, YieldsList-from_slice}
use Rattle.std.proofs.lemmas.Iterator.Consumers.{YieldsList-at, fits_by_from_yields_list}
use Rattle.formula.specs.declared.way.Disjunct.{Disjunct}
use Rattle.formula.specs.Bounds.{held}
use Rattle.written.proofs.Costs.{mentioned_sum}
use Rattle.written.proofs.cost.connector_count.Goals as goal

pub sum-requires-clause-fits : goal.sum-requires-clause-fits
sum-requires-clause-fits c =
    let ts = held c.args.disjuncts.now in
    fits_by_from_yields_list (λ (d : Disjunct). length (held d.left) + length (held d.right)) ts c.map.result _
    (YieldsList-from_map _ (λ (d : Disjunct). length (held d.left) + length (held d.right)) (YieldsList-at c.map.ensures.source (YieldsList-from_slice ts (cc))) c.map.ensures.closure (λ x r q k. search rules))
    (omega (arith, mentioned_sum ts, c.requires))

pub returns-clause-value : goal.returns-clause-value
returns-clause-value c =
    let n : c.sum.result ≡ sum_by (λ (d : Disjunct). length (held d.left) + length (held d.right)) (held c.args.disjuncts.now) = search rules in
    n ∙ mentioned_sum (held c.args.disjuncts.now)

pub returns-clause-bound : goal.returns-clause-bound
returns-clause-bound c =
    let n = returns-clause-value c in
    omega (arith, n, c.requires)
