use Rattle.std.proofs.Common.{Bool, rules, tests, sym, ap, ◌∙◌}
use Rattle.std.proofs.lemmas.Iterator.{YieldsList-from_slice}
use Rattle.std.proofs.lemmas.Iterator.Adapters.{serves_from_places}
use Rattle.linkage.specs.Linkages.{matched}
use Rattle.linkage.specs.Lists.{every}
use Rattle.linkage.proofs.Joins.{Wire}
use Rattle.filing.specs.Given.{linkage, sentence}
use Rattle.filing.proofs.Chains.{all_links, at_in}
use Rattle.filing.proofs.Filed.{filing_links}
use Rattle.filing.proofs.linked.Filing.all_match.Goals as goal

pub all-requires-clause-callable : goal.all-requires-clause-callable
all-requires-clause-callable g c =
    let ls = c.args.self.now.links.now in
    serves_from_places (YieldsList-from_slice ls c.iter.ensures.rest) (λ x q k. search (rules, tests)) (λ x k h e _ _ _ _ _ _. at_in ls k x.now h e)

pub returns : goal.returns
returns g c =
    let m = g.D.Dictionary.meaning in
    let f = c.args.self.now in
    let p : Wire → Bool = matched (sentence m f.choices) (linkage m f) in
    all_links p f.links.now c.iter.result c.iter.ensures.rest _ c.all.result c.all.ensures.ran (λ x b q k. search (rules, tests))
    ∙ sym (ap (every p) (filing_links m f))
