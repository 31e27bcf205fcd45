use Rattle.rows.specs.Tables.{ledger_of}
use Rattle.filing.specs.Filings.{pairs}
use Rattle.filing.proofs.Judged.{right}
use Rattle.filing.proofs.check.check.Goals as goal

pub returns-clause-right : goal.returns-clause-right
returns-clause-right g c =
    right (g.D.Dictionary.meaning c.args.dictionary.now) (g.D.Dictionary.few_disjuncts c.args.dictionary.now) (ledger_of c.args.rows.now)
    c.args.choices.now (pairs c.args.links.now)
