use Rattle.std.proofs.Common.{sym, ◌∙◌, arith}
use Rattle.std.proofs.lemmas.Bool.{le-ltb}
use Rattle.rows.proofs.Members.{contained, none_past}
use Rattle.rows.proofs.sets.DisjunctSet.contains.Goals as goal

pub returns-then-disjunct-lt-BITS : goal.returns-then-disjunct-lt-BITS
returns-then-disjunct-lt-BITS c = contained c.args.self.bits c.args.disjunct

pub returns-else-disjunct-lt-BITS : goal.returns-else-disjunct-lt-BITS
returns-else-disjunct-lt-BITS c =
    le-ltb c.args.disjunct 64 c.if-disjunct-lt-BITS.false ∙ sym (none_past c.args.self.bits c.args.disjunct (omega arith) c.if-disjunct-lt-BITS.false)
