use Rattle.std.proofs.Common.{not, rules, tests}
use Rattle.linkage.specs.Linkages.{crosses}
use Rattle.linkage.specs.Links.{ends}
use Rattle.filing.proofs.Chains.{all_links}
use Rattle.filing.proofs.apart.crosses_none.Goals as goal

pub returns : goal.returns
returns c =
    all_links (λ e. not (crosses (ends c.args.link.now) e)) c.args.links.now c.iter.result c.iter.ensures.rest _ c.all.result c.all.ensures.ran
    (λ x b q k. search (rules, tests))
