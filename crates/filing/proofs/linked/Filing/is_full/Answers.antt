use Rattle.std.proofs.Common.{◌≡◌, true, false, ◌&&◌, eqb, length, rules, tests, sym, ap, ◌∙◌, ap₂}
use Rattle.std.proofs.lemmas.Bool.{eq-eqb, ne_eqb}
use Rattle.lexicon.specs.declared.side.Side.TheVariants.{Left, Right}
use Rattle.filing.specs.Filings.{pairs}
use Rattle.filing.specs.Given.{sentence}
use Rattle.filing.proofs.Chains.{count_links}
use Rattle.filing.proofs.Counted.{count_of, from, to}
use Rattle.filing.proofs.Filed.{asked_on, filing_full}
use Rattle.filing.proofs.linked.Filing.is_full.Goals as goal

pub returns-then-rights-list_len : goal.returns-then-rights-list_len
returns-then-rights-list_len g c =
    let m = g.D.Dictionary.meaning in
    let f = c.args.self.now in
    let ls = f.links.now in
    let i = c.args.at in
    let rights = count_links (from i) ls c.iter.result c.iter.ensures.rest c.filter.result c.filter.ensures.source c.filter.ensures.closure
    c.count-rights.result c.count-rights.ensures.ran (λ x b q k. search (rules, tests)) in
    let lefts = count_links (to i) ls c.iter-2.result c.iter-2.ensures.rest c.filter-2.result c.filter-2.ensures.source c.filter-2.ensures.closure
    c.count-lefts.result c.count-lefts.ensures.ran (λ x b q k. search (rules, tests)) in
    let same : eqb (count_of (from i) (pairs ls)) (length (asked_on (sentence m f.choices) f.choices.bytes.now i Right)) ≡ true =
    eq-eqb _ _ (sym rights ∙ c.if-rights-list_len.true ∙ c.list_len.ensures) in
    ap₂ eqb lefts c.list_len-then-rights-list_len.ensures
    ∙ sym (ap (λ b. b && eqb (count_of (to i) (pairs ls)) (length (asked_on (sentence m f.choices) f.choices.bytes.now i Left))) same)
    ∙ sym (filing_full m f i c.requires)

pub returns-else-rights-list_len : goal.returns-else-rights-list_len
returns-else-rights-list_len g c =
    let m = g.D.Dictionary.meaning in
    let f = c.args.self.now in
    let ls = f.links.now in
    let i = c.args.at in
    let rights = count_links (from i) ls c.iter.result c.iter.ensures.rest c.filter.result c.filter.ensures.source c.filter.ensures.closure
    c.count-rights.result c.count-rights.ensures.ran (λ x b q k. search (rules, tests)) in
    let apart : eqb c.count-rights.result c.list_len.result ≡ false = ne_eqb _ _ c.if-rights-list_len.false in
    let other : eqb (count_of (from i) (pairs ls)) (length (asked_on (sentence m f.choices) f.choices.bytes.now i Right)) ≡ false = sym (ap₂ eqb rights c.list_len.ensures) ∙ apart in
    apart
    ∙ sym (ap (λ b. b && eqb (count_of (to i) (pairs ls)) (length (asked_on (sentence m f.choices) f.choices.bytes.now i Left))) other)
    ∙ sym (filing_full m f i c.requires)
