use Rattle.std.proofs.Common.{eqb, take, rules, tests, ◌∙◌}
use lib.Pointwise.{pointwise}
use Rattle.std.proofs.lemmas.Iterator.{YieldsList-from_take}
use Rattle.std.proofs.lemmas.Iterator.Consumers.{YieldsList-at}
use Rattle.std.proofs.lemmas.Iterator.Search.{any_from_yields_List}
use Rattle.written.specs.Lines.{pieces}
use Rattle.written.proofs.Splits.{yields_pieces}
use Rattle.written.proofs.Twice.{bytes_among}
use Rattle.written.proofs.line.stands_before.Goals as goal

pub returns : goal.returns
returns c =
    let e = c.split.ensures in
    let w = c.args.word.now in
    let ps = pieces 32 c.args.words.now in
    any_from_yields_List (λ v. pointwise eqb v w) _ _ _ c.any.ensures.ran
    (YieldsList-from_take c.args.count (YieldsList-at c.take.ensures.source (yields_pieces _ 32 c.args.words.now e.rest e.done e.closure (λ x b q k. search (rules, tests)))) c.take.ensures.count)
    (λ x b q k. search (rules, tests))
    ∙ bytes_among w (take c.args.count ps)
