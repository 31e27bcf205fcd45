use Rattle.std.proofs.Common.{◌≡◌, ◌+◌, [], map, length, drop}
use Rattle.formula.specs.Shown.{disjunct_of}
use Rattle.written.specs.Model.{mentioned}
use Rattle.written.specs.Store.{heads, numbered}
use Rattle.written.proofs.Added.{Adding}
use Rattle.written.proofs.page.Page.write_heads.Given as goal

abbrev pub invariant-loop-one : goal.invariant-loop-one
invariant-loop-one l =
    Adding l.initial.self l.self (heads l.at (numbered [] (drop l.one-index (map disjunct_of l.disjuncts))))
    (heads l.from (numbered [] (map disjunct_of l.disjuncts)))
    × (l.at + length (mentioned (drop l.one-index (map disjunct_of l.disjuncts))) ≡ l.from + length (mentioned (map disjunct_of l.disjuncts)))
