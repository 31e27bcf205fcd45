use Rattle.std.proofs.Common.{get_or, rules, tests, sym, ap, ◌∙◌, ap₂}
use Rattle.lexicon.specs.declared.side.Side.TheVariants.{Left, Right}
use Rattle.linkage.specs.Links.{ends}
use Rattle.filing.specs.Given.{sentence}
use Rattle.filing.proofs.Chains.{count_links}
use Rattle.filing.proofs.Counted.{nearer_from, nearer_to}
use Rattle.filing.proofs.Filed.{asked_on, filing_matched}
use Rattle.filing.proofs.linked.Filing.is_match.Goals as goal

pub returns : goal.returns
returns g c =
    let m = g.D.Dictionary.meaning in
    let f = c.args.self.now in
    let ls = f.links.now in
    let e = ends c.args.link.now in
    let rights = count_links (nearer_from e.0 e.1) ls c.iter.result c.iter.ensures.rest c.filter.result c.filter.ensures.source c.filter.ensures.closure
    c.count-nearer.result c.count-nearer.ensures.ran (λ x b q k. search (rules, tests)) in
    let lefts = count_links (nearer_to e.0 e.1) ls c.iter-2.result c.iter-2.ensures.rest c.filter-2.result c.filter-2.ensures.source c.filter-2.ensures.closure
    c.count-nearer-2.result c.count-nearer-2.ensures.ran (λ x b q k. search (rules, tests)) in
    c.matches.ensures
    ∙ ap₂ (sentence m f.choices).matches (c.connector-right.ensures ∙ ap (λ k. get_or (asked_on (sentence m f.choices) f.choices.bytes.now e.0 Right) k 0) rights)
    (c.connector-left.ensures ∙ ap (λ k. get_or (asked_on (sentence m f.choices) f.choices.bytes.now e.1 Left) k 0) lefts)
    ∙ sym (filing_matched m f e c.requires)
