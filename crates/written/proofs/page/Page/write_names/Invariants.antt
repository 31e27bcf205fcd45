use Rattle.std.proofs.Common.{drop}
use Rattle.formula.specs.Shown.{spellings}
use Rattle.written.specs.Store.{all_name_cells}
use Rattle.written.proofs.Added.{Adding}
use Rattle.written.proofs.page.Page.write_names.Given as goal

abbrev pub invariant-loop-name : goal.invariant-loop-name
invariant-loop-name l = Adding l.initial.self l.self (all_name_cells (drop l.name-index (spellings l.fresh))) (all_name_cells (spellings l.fresh))
