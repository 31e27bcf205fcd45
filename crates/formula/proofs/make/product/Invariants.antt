use Rattle.std.proofs.Common.{◌≡◌, ◌*◌, length, map, take}
use Rattle.formula.specs.Bounds.{held}
use Rattle.formula.specs.Shown.{shown, table}
use Rattle.formula.proofs.Tables.{crossed}
use Rattle.formula.proofs.make.product.Given as goal

abbrev pub invariant-loop-way : goal.invariant-loop-way
invariant-loop-way l =
    (length (held l.all) ≡ l.way-index * length (held l.b))
    × (table l.all ≡ crossed (map shown (take l.way-index (held l.a))) (table l.b))
