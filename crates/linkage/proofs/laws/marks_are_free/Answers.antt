use Rattle.linkage.proofs.Marks.{marks_free}
use Rattle.linkage.proofs.laws.marks_are_free.Goals as goal

pub returns : goal.returns
returns g c = λ s m spares. marks_free s m g.T.Tally.semiring g.met.T.Tally.laws spares
