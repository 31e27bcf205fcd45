use Rattle.std.proofs.Common.{rules, tests}
use Rattle.filing.specs.Filings.{rises}
use Rattle.filing.proofs.Chains.{all_links}
use Rattle.filing.proofs.apart.all_rise.Goals as goal

pub returns : goal.returns
returns c =
    all_links (rises c.args.words) c.args.links.now c.iter.result c.iter.ensures.rest _ c.all.result c.all.ensures.ran
    (λ x b q k. search (rules, tests))
