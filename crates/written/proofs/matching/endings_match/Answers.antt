use Rattle.std.proofs.Common.{rules, tests, ◌∙◌}
use Rattle.std.proofs.lemmas.Iterator.{YieldsList-from_slice, YieldsList-from_zip}
use Rattle.std.proofs.lemmas.Iterator.Consumers.{YieldsList-at}
use Rattle.std.proofs.lemmas.Iterator.Search.{all_from_yields_List}
use Rattle.written.specs.Matching.{agree}
use Rattle.written.proofs.Letters.{endings_zipped}
use Rattle.written.proofs.matching.endings_match.Goals as goal

pub returns : goal.returns
returns g c =
    let code = g.L.Letter.code in
    let xs = c.args.a.now in
    let ys = c.args.b.now in
    all_from_yields_List (λ p. agree (code p.0) (code p.1)) c.all.new.self _ _ c.all.ensures.ran
    (YieldsList-from_zip (YieldsList-at c.zip.ensures.first (YieldsList-from_slice xs c.iter.ensures.rest)) (YieldsList-from_slice ys c.zip.ensures.second.0)) (λ x b q k. search (rules, tests))
    ∙ endings_zipped code xs ys
