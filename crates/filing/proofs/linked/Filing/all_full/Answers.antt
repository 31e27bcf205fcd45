use Rattle.std.proofs.Common.{ℕ, Bool, rules, tests, refl, ap, ◌∙◌}
use Rattle.linkage.specs.Linkages.{full_at}
use Rattle.linkage.specs.Lists.{every, range}
use Rattle.filing.specs.Given.{linkage, sentence}
use Rattle.filing.proofs.Chains.{all_below}
use Rattle.filing.proofs.linked.Filing.all_full.Goals as goal

pub returns : goal.returns
returns g c =
    let f = c.args.self.now in
    let p : ℕ → Bool = full_at (sentence g.D.Dictionary.meaning f.choices) (linkage g.D.Dictionary.meaning f) in
    all_below p c.words.result _ _ refl c.all.result c.all.ensures.ran (λ x b q k. search (rules, tests))
    ∙ ap (λ n. every p (range 0 n)) c.words.ensures.words
