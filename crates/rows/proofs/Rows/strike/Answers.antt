use Rattle.std.proofs.Common.{not, ◌∙◌}
use Rattle.std.proofs.lemmas.Result.{err_from_is_err_and}
use Rattle.std.proofs.lemmas.Option.{slice_get_within}
use Rattle.linkage.specs.declared.call.Call.TheVariants.{Strike}
use Rattle.rows.specs.Sets.{members}
use Rattle.rows.proofs.Calls.{accepted, is_known, not_struck, refused, strikes}
use Rattle.rows.proofs.Rows.strike.Goals as goal

pub returns-in_err-entry-clause-edit : goal.returns-in_err-entry-clause-edit
returns-in_err-entry-clause-edit g c =
    let lex = g.D.Dictionary.meaning c.args.dictionary.now in
    let r = c.args.self.now in
    let p = c.args.position in
    let d = c.args.disjunct in
    let lacks = c.in_err-entry.ensures in
    let e = err_from_is_err_and c.from_residual.result c.from_residual.ensures.1 in
    rw e.1 (refused lex r (Strike p d) (not_struck r lex p d lacks.0))

pub put-requires : goal.put-requires
put-requires g c = slice_get_within c.args.self.now.entries.items c.args.position c.in_ok-entry.entry c.in_ok-entry.ensures.0

pub returns-clause-answer : goal.returns-clause-answer
returns-clause-answer g c =
    let lex = g.D.Dictionary.meaning c.args.dictionary.now in
    let (here, k) = c.in_ok-entry.ensures in
    is_known c.args.self.now c.args.position c.in_ok-entry.entry here lex c.args.disjunct k not c.from.result _ c.from.ensures c.insert-is_new.ensures.is_new

pub returns-clause-edit : goal.returns-clause-edit
returns-clause-edit g c =
    let lex = g.D.Dictionary.meaning c.args.dictionary.now in
    let r = c.args.self.now in
    let (here, k) = c.in_ok-entry.ensures in
    accepted lex r (Strike c.args.position c.args.disjunct) (c.put.ensures.ledger ∙ strikes r c.args.position c.in_ok-entry.entry here lex c.args.disjunct k (members c.insert-is_new.new.self) c.insert-is_new.ensures.members) c.put.ensures.marks
