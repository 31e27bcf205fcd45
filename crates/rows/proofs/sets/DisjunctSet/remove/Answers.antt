use Rattle.std.proofs.Common.{arith}
use Rattle.rows.proofs.Members.{removed}
use Rattle.rows.proofs.sets.DisjunctSet.remove.Goals as goal

pub returns-clause-members : goal.returns-clause-members
returns-clause-members c = removed c.args.self.now.bits c.args.disjunct c.requires (omega arith)
