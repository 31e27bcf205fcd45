use Rattle.std.proofs.Common.{length, map, set, ap, ◌∙◌}
use Rattle.std.proofs.lemmas.List.{length-set, map-set}
use Rattle.arrayvec.proofs.ArrayVecLemmas.{items-with_items}
use Rattle.rows.specs.Tables.{row}
use Rattle.rows.proofs.Rows.put.Goals as goal

pub returns-clause-ledger : goal.returns-clause-ledger
returns-clause-ledger c =
    let r = c.args.self.now in
    let p = c.args.position in
    let e = c.args.entry in
    let es = c.deref_mut.result.now in
    c.clear_marks.ensures.ledger
    ∙ ap (map row) (items-with_items r.entries (set es p e) (length-set es p e ∙ ap length c.deref_mut.ensures.value))
    ∙ map-set row es p e ∙ ap (λ xs. set (map row xs) p (row e)) c.deref_mut.ensures.value
