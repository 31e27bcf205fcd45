use Rattle.std.proofs.Common.{rules, tests, ◌∙◌, sym}
use Rattle.std.proofs.lemmas.Iterator.Consumers.{YieldsList-at, YieldsList-from_enumerate}
use Rattle.std.proofs.lemmas.Iterator.Search.{any_from_yields_List}
use Rattle.written.specs.Lines.{pieces}
use Rattle.written.proofs.Splits.{yields_pieces}
use Rattle.written.proofs.Twice.{before, twice}
use Rattle.written.proofs.line.repeats.Goals as goal

pub returns : goal.returns
returns c =
    let e = c.split.ensures in
    let ws = pieces 32 c.args.words.now in
    any_from_yields_List (before ws) _ _ _ c.any.ensures.ran
    (YieldsList-from_enumerate (YieldsList-at c.enumerate.ensures.source (yields_pieces _ 32 c.args.words.now e.rest e.done e.closure (λ x b q k. search (rules, tests)))) c.enumerate.ensures.count)
    (λ x b q k. search (rules, tests))
    ∙ sym (twice ws)
