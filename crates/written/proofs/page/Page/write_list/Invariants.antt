use Rattle.std.proofs.Common.{map, take, drop}
use Rattle.formula.specs.Shown.{spellings}
use Rattle.written.specs.Model.{number_of}
use Rattle.written.specs.Store.{names_from}
use Rattle.written.proofs.Added.{Adding}
use Rattle.written.proofs.page.Page.write_list.Given as goal

abbrev pub invariant-loop-name : goal.invariant-loop-name
invariant-loop-name l =
    Adding l.initial.self l.self (map (number_of (names_from 0 (take l.block l.initial.self.table.now))) (drop l.name-index (spellings l.names)))
    (map (number_of (names_from 0 (take l.block l.initial.self.table.now))) (spellings l.names))
