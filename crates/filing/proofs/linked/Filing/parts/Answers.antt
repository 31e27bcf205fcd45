use Rattle.std.proofs.Common.{◌∙◌, length, take, get_or, sym, ap, subst, arith}
use Rattle.std.proofs.lemmas.List.{get_or_default}
use Rattle.linkage.specs.Links.{ends}
use Rattle.linkage.specs.Parts.{heads}
use Rattle.linkage.specs.Sentences.{size}
use Rattle.linkage.specs.declared.link.Link.{Link}
use Rattle.filing.specs.Filings.{pairs}
use Rattle.filing.specs.Given.{sentence}
use Rattle.filing.specs.Joinings.{Holds}
use Rattle.filing.proofs.Chains.{at_in, pairs_all, pairs_more}
use Rattle.filing.proofs.Filed.{filing_bound, filing_parts}
use Rattle.filing.proofs.linked.Filing.parts.Goals as goal

none : Link
none = record { left = 0; right = 0 }

pub join-requires : goal.join-requires
unfolding none
join-requires g c =
    let ls = c.args.self.now.links.now in
    let i = c.loop-link.link-index in
    let l = get_or ls i none in
    let b = filing_bound g.D.Dictionary.meaning c.args.self.now (ends l) (at_in ls i l c.loop-link-test.true (get_or_default ls i none l c.loop-link-test.true)) in
    let n = c.loop-link.invariant.0 in
    record { left = omega arith; right = omega arith }

pub loop-link-preserved : goal.loop-link-preserved
unfolding none
loop-link-preserved g c =
    let ls = c.args.self.now.links.now in
    let i = c.loop-link.link-index in (
      c.join.ensures.count ∙ c.loop-link.invariant.0,
      subst (λ es. Holds es c.join.new.self) (sym (pairs_more ls i none c.loop-link-test.true))
          (c.join.ensures.holds (pairs (take i ls)) c.loop-link.invariant.1),
    )

pub returns : goal.returns
returns g c =
    let m = g.D.Dictionary.meaning in
    let f = c.args.self.now in
    let ls = f.links.now in
    let i = c.loop-link.link-index in
    c.loop-link.invariant.1.parts
    ∙ ap (λ n. length (heads (pairs (take i ls)) n)) c.loop-link.invariant.0
    ∙ ap (λ es. length (heads es (size (sentence m f.choices)))) (pairs_all ls i c.loop-link-test.false)
    ∙ sym (filing_parts m f)
