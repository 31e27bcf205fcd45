use Rattle.std.proofs.Common.{refl, ap, ◌∙◌, rules, tests}
use Rattle.std.proofs.lemmas.Iterator.Consumers.{nth_from_yields_List}
use Rattle.written.proofs.Splits.{yields_pieces}
use Rattle.lexicon_report.proofs.Told.{line_told}
use Rattle.lexicon_report.proofs.lines.line_at.Goals as goal

pub returns : goal.returns
returns c =
    let e = c.split.ensures in
    let u = c.unended.result.now in
    ap (λ z. z.now) c.unwrap_or.ensures
    ∙ line_told c.args.text.now u c.args.number c.nth.result _ refl
    (nth_from_yields_List c.nth.result _ c.args.number c.nth.ensures.ran (yields_pieces _ 10 u e.rest e.done e.closure (λ x b q k. search (rules, tests))))
    c.unended.ensures.cut c.unended.ensures.empty
