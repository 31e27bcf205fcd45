use Rattle.std.proofs.Common.{ℕ, Bool, rules, tests, refl, ap, ◌∙◌}
use Rattle.linkage.specs.Lists.{every, range}
use Rattle.filing.specs.Filings.{there}
use Rattle.filing.specs.Given.{choice, position}
use Rattle.filing.proofs.Chains.{all_below}
use Rattle.filing.proofs.choice.Choices.all_there.Goals as goal

pub returns : goal.returns
returns g c =
    let f = c.args.self.now in
    let p : ℕ → Bool = λ i. there (position g.D.Dictionary.meaning f i) (choice f i) in
    all_below p c.words.result _ _ refl c.all.result c.all.ensures.ran (λ x b q k. search (rules, tests))
    ∙ ap (λ n. every p (range 0 n)) c.words.ensures.words
