use Rattle.linkage.proofs.Whole.{table_total, whole_total}
use Rattle.linkage.proofs.laws.inside_is_total.Goals as goal

pub returns : goal.returns
returns g c =
    let t = g.T.Tally.semiring in
    let laws = g.met.T.Tally.laws in
    λ s h. (whole_total s h t laws, table_total t laws s h)
