use Rattle.std.proofs.Common.{◌∙◌}
use Rattle.std.proofs.lemmas.Result.{err_from_is_err_and}
use Rattle.std.proofs.lemmas.Option.{slice_get_within}
use Rattle.linkage.specs.declared.call.Call.TheVariants.{Allow}
use Rattle.rows.specs.Sets.{members}
use Rattle.rows.proofs.Calls.{accepted, allows, is_known, not_allowed, refused}
use Rattle.rows.proofs.Rows.allow.Goals as goal

pub returns-in_err-entry-clause-edit : goal.returns-in_err-entry-clause-edit
returns-in_err-entry-clause-edit g c =
    let lex = g.D.Dictionary.meaning c.args.dictionary.now in
    let r = c.args.self.now in
    let p = c.args.position in
    let d = c.args.disjunct in
    let lacks = c.in_err-entry.ensures in
    let e = err_from_is_err_and c.from_residual.result c.from_residual.ensures.1 in
    rw e.1 (refused lex r (Allow p d) (not_allowed r lex p d lacks.0))

pub put-requires : goal.put-requires
put-requires g c = slice_get_within c.args.self.now.entries.items c.args.position c.in_ok-entry.entry c.in_ok-entry.ensures.0

pub returns-clause-answer : goal.returns-clause-answer
returns-clause-answer g c =
    let lex = g.D.Dictionary.meaning c.args.dictionary.now in
    let (here, k) = c.in_ok-entry.ensures in
    is_known c.args.self.now c.args.position c.in_ok-entry.entry here lex c.args.disjunct k (λ b. b) c.from.result _ c.from.ensures c.remove-was_there.ensures.was_there

pub returns-clause-edit : goal.returns-clause-edit
returns-clause-edit g c =
    let lex = g.D.Dictionary.meaning c.args.dictionary.now in
    let r = c.args.self.now in
    let (here, k) = c.in_ok-entry.ensures in
    accepted lex r (Allow c.args.position c.args.disjunct) (c.put.ensures.ledger ∙ allows r c.args.position c.in_ok-entry.entry here lex c.args.disjunct k (members c.remove-was_there.new.self) c.remove-was_there.ensures.members) c.put.ensures.marks
