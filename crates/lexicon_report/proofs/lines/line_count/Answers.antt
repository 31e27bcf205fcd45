use Rattle.std.proofs.Common.{length, sym, ap, ◌∙◌, rules, tests}
use Rattle.std.proofs.lemmas.Bool.{eqb-true}
use Rattle.std.proofs.lemmas.Iterator.Consumers.{count_from_yields_List}
use Rattle.written.proofs.Splits.{yields_pieces}
use Rattle.lexicon_report.proofs.Told.{no_line}
use Rattle.lexicon_report.proofs.lines.line_count.Goals as goal

pub returns-then-is_empty : goal.returns-then-is_empty
returns-then-is_empty c = sym (no_line c.args.text.now (eqb-true (length c.args.text.now) 0 (sym c.if-is_empty.ensures)))

pub returns : goal.returns
returns c =
    let e = c.split.ensures in
    count_from_yields_List c.split.result _ c.count.ensures.ran (yields_pieces _ 10 c.unended.result.now e.rest e.done e.closure (λ x b q k. search (rules, tests)))
    ∙ ap length (c.unended.ensures.cut (search rules))
