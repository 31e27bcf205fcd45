use Rattle.std.proofs.Common.{not, rules, tests}
use Rattle.linkage.specs.Linkages.{crosses}
use Rattle.linkage.specs.Lists.{every}
use Rattle.filing.specs.Filings.{pairs}
use Rattle.filing.proofs.Chains.{all_links}
use Rattle.filing.proofs.apart.none_cross.Goals as goal

pub returns : goal.returns
returns c =
    all_links (λ e. every (λ f. not (crosses e f)) (pairs c.args.links.now)) c.args.links.now c.iter.result c.iter.ensures.rest _ c.all.result c.all.ensures.ran
    (λ x b q k. search (rules, tests))
