use Rattle.std.proofs.Common.{rules, tests, ◌∙◌}
use Rattle.std.proofs.lemmas.Iterator.{YieldsList-from_slice}
use Rattle.std.proofs.lemmas.Iterator.Consumers.{YieldsList-at, count_from_yields_List}
use Rattle.std.proofs.lemmas.Iterator.Search.{YieldsList-from_take_while}
use Rattle.std.proofs.lemmas.List.Folds.{length-prefix_len}
use Rattle.formula.specs.Cuts.{capital}
use Rattle.written.proofs.Letters.{prefix_coded}
use Rattle.written.proofs.matching.capital_count.Goals as goal

pub returns-clause-value : goal.returns-clause-value
returns-clause-value g c =
    let code = g.L.Letter.code in
    let xs = c.args.name.now in
    count_from_yields_List c.take_while.result _ c.count.ensures.ran
    (YieldsList-from_take_while _ (λ x. capital (code x)) (YieldsList-at c.take_while.ensures.source (YieldsList-from_slice xs (cc))) c.take_while.ensures.closure c.take_while.ensures.done (λ x b q k. search (rules, tests)))
    ∙ length-prefix_len (λ x. capital (code x)) xs
    ∙ prefix_coded code capital xs
