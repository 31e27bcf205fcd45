use Rattle.std.proofs.Common.{set, ap, ◌∙◌}
use Rattle.std.proofs.lemmas.Result.{err_from_is_err_and}
use Rattle.std.proofs.lemmas.Option.{slice_get_within}
use Rattle.linkage.specs.declared.call.Call.TheVariants.{Change}
use Rattle.rows.proofs.Calls.{accepted, is_missing, is_there, not_changed, refused, word_there}
use Rattle.rows.specs.Tables.{ledger_of}
use Rattle.rows.proofs.Rows.change.Goals as goal

pub returns-in_err-old-clause-edit : goal.returns-in_err-old-clause-edit
returns-in_err-old-clause-edit c =
    let r = c.args.self.now in
    let p = c.args.position in
    let w = c.args.word in
    let past = is_missing r.entries.items p _ c.in_err-old.ensures in
    let e = err_from_is_err_and c.from_residual.result c.from_residual.ensures.1 in
    rw e.1 (λ lex. refused lex r (Change p w) (not_changed r lex p w past.0))

pub put-requires : goal.put-requires
put-requires c =
    let r = c.args.self.now in
    slice_get_within r.entries.items c.args.position c.in_ok-old.old (is_there r.entries.items c.args.position c.in_ok-old.old c.in_ok-old.ensures)

pub returns-clause-answer : goal.returns-clause-answer
returns-clause-answer c =
    let r = c.args.self.now in
    word_there r c.args.position c.in_ok-old.old (is_there r.entries.items c.args.position c.in_ok-old.old c.in_ok-old.ensures)

pub returns-clause-edit : goal.returns-clause-edit
returns-clause-edit c =
    let r = c.args.self.now in
    let w = c.args.word in
    λ lex. accepted lex r (Change c.args.position w) (c.put.ensures.ledger ∙ ap (set (ledger_of r) c.args.position) c.fresh.ensures) c.put.ensures.marks
