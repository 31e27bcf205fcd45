use Rattle.std.proofs.Common.{◌≡◌, ◌+◌, length, ap, ◌∙◌, arith, rules}
use lib.ListN.{length-map}
use Rattle.std.specs.List.{sum_by}
use Rattle.std.proofs.lemmas.Iterator.{YieldsList-from_map, YieldsList-from_slice}
use Rattle.std.proofs.lemmas.Iterator.Consumers.{YieldsList-at, fits_by_from_yields_list}
use Rattle.formula.specs.Bounds.{held}
use Rattle.formula.specs.Shown.{Spelled}
use Rattle.written.specs.Store.{fresh_of}
use Rattle.written.proofs.Costs.{takes_short, takes_sum}
use Rattle.written.proofs.cost.name_cells.Goals as goal

pub sum-requires-clause-fits : goal.sum-requires-clause-fits
sum-requires-clause-fits c =
    let ns = c.args.fresh.now.items in
    let l = takes_short (fresh_of c.args.fresh.now) c.requires in
    let n = length-map ns held in
    let f = ap length c.deref.ensures.0 in
    fits_by_from_yields_list (λ (m : Spelled). 2 + length (held m)) ns c.map.result _
    (YieldsList-from_map _ (λ (m : Spelled). 2 + length (held m)) (YieldsList-at c.map.ensures.source (YieldsList-from_slice ns (cc))) c.map.ensures.closure (λ x r q k. search rules))
    (omega (arith, takes_sum 2 ns, c.deref.ensures.1))

pub returns-clause-value : goal.returns-clause-value
returns-clause-value c =
    let n : c.sum.result ≡ sum_by (λ (m : Spelled). 2 + length (held m)) c.args.fresh.now.items = search rules in
    n ∙ takes_sum 2 c.args.fresh.now.items

pub returns-clause-bound : goal.returns-clause-bound
returns-clause-bound c =
    let ns = c.args.fresh.now.items in
    let v = returns-clause-value c in
    let n = length-map ns held in
    let f = ap length c.deref.ensures.0 in
    omega (arith, takes_short (fresh_of c.args.fresh.now) c.requires, c.deref.ensures.1)
