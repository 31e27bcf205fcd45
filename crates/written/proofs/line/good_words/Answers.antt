use Rattle.std.proofs.Common.{rules, tests, ◌∙◌, sym}
use Rattle.std.proofs.lemmas.Iterator.Search.{all_from_yields_List}
use Rattle.written.specs.Lines.{good_word, pieces}
use Rattle.written.proofs.Splits.{every_all, yields_pieces}
use Rattle.written.proofs.line.good_words.Goals as goal

pub returns : goal.returns
returns c =
    let e = c.split.ensures in
    all_from_yields_List good_word _ _ _ c.all.ensures.ran (yields_pieces _ 32 c.args.words.now e.rest e.done e.closure (λ x b q k. search (rules, tests))) (λ x b q k. search (rules, tests))
    ∙ sym (every_all good_word (pieces 32 c.args.words.now))
