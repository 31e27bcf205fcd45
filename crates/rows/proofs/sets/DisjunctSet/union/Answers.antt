use Rattle.rows.proofs.Members.{united}
use Rattle.rows.proofs.sets.DisjunctSet.union.Goals as goal

pub returns : goal.returns
returns c = united c.args.self.bits c.args.other.bits
