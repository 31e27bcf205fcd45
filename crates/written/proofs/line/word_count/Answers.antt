use Rattle.std.proofs.Common.{rules, tests}
use Rattle.std.proofs.lemmas.Iterator.Consumers.{count_from_yields_List}
use Rattle.written.proofs.Splits.{yields_pieces}
use Rattle.written.proofs.line.word_count.Goals as goal

pub returns : goal.returns
returns c =
    let e = c.split.ensures in
    count_from_yields_List c.split.result _ c.count.ensures.ran (yields_pieces _ 32 c.args.words.now e.rest e.done e.closure (λ x b q k. search (rules, tests)))
