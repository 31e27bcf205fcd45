use Rattle.std.proofs.Common.{Ok, ◌||◌, ap, ◌∙◌}
use Rattle.rows.specs.Sets.{members}
use Rattle.rows.proofs.Calls.{is_there, stands}
use Rattle.rows.proofs.Rows.standing.Goals as goal

pub returns : goal.returns
returns g c =
    let r = c.args.self.now in
    let p = c.args.position in
    let e = c.in_ok-entry.entry in
    ap Ok c.count_outside.ensures
    ∙ stands r p e (is_there r.entries.items p e c.in_ok-entry.ensures) (g.D.Dictionary.meaning c.args.dictionary.now)
    (members c.union-out.result) c.disjuncts.result (c.union-out.ensures ∙ ap (λ m k. members e.struck k || m k) c.marked_at.ensures) c.disjuncts.ensures
