use Rattle.std.proofs.Common.{take, sym, ap, ◌∙◌}
use Rattle.written.specs.Store.{name_at}
use Rattle.written.proofs.Told.{no_name, the_name}
use Rattle.written.proofs.closed.Written.name.Goals as goal

pub returns-then-is_name : goal.returns-then-is_name
returns-then-is_name c =
    let w = c.args.self.now in
    c.letters.ensures
    ∙ ap (λ F. name_at F c.from-at.result) c.front.ensures.value
    ∙ the_name (take w.used w.table.now) c.args.number c.from-at.result c.from-at.ensures (sym c.if-is_name.ensures)

pub returns-else-is_name : goal.returns-else-is_name
returns-else-is_name c =
    let w = c.args.self.now in
    no_name (take w.used w.table.now) c.args.number c.from-at.result c.from-at.ensures (sym c.if-is_name.ensures)
