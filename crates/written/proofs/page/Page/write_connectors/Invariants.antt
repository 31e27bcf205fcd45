use Rattle.std.proofs.Common.{map, take, drop}
use Rattle.formula.specs.Shown.{disjunct_of}
use Rattle.written.specs.Store.{connectors, numbered}
use Rattle.written.proofs.Added.{Adding}
use Rattle.written.proofs.page.Page.write_connectors.Given as goal

abbrev pub invariant-loop-one : goal.invariant-loop-one
invariant-loop-one l =
    Adding l.initial.self l.self
    (connectors (numbered (take l.block l.initial.self.table.now) (drop l.one-index (map disjunct_of l.disjuncts))))
    (connectors (numbered (take l.block l.initial.self.table.now) (map disjunct_of l.disjuncts)))
