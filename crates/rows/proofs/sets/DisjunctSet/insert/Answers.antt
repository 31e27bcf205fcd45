use Rattle.rows.proofs.Members.{inserted}
use Rattle.rows.proofs.sets.DisjunctSet.insert.Goals as goal

pub returns-clause-members : goal.returns-clause-members
returns-clause-members c = inserted c.args.self.now.bits c.args.disjunct c.requires
