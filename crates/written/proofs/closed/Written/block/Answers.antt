use Rattle.std.proofs.Common.{◌≡◌, ◌+◌, ◌*◌, ◌≤◌, length, get_or, sym, ap, ◌∙◌, subst}
use Rattle.written.specs.Pages.{row_at}
use Rattle.written.proofs.Asked.{block_inside}
use Rattle.written.proofs.closed.Written.block.Goals as goal

pub returns-clause-inside : goal.returns-clause-inside
returns-clause-inside c =
    let w = c.args.self.now in
    let T = w.table.now in
    let e : c.from.result ≡ (row_at T c.args.word).block = c.from.ensures ∙ ap (λ p. get_or T (p + 2) 0) c.row.ensures.value in
    subst (λ b. b + 4 + 3 * get_or T b 0 ≤ length T) (sym e) (block_inside T w.used w.words w.roomy w.whole c.args.word c.requires)
