use Rattle.std.proofs.Common.{◌≡◌, ◌≤◌, List, map, length, drop}
use Rattle.formula.specs.Bounds.{held}
use Rattle.formula.specs.Shown.{Shows, clip, disjuncts_of, shown}
use Rattle.formula.specs.Ways.{Way, fitted}
use Rattle.formula.proofs.Kept.{kept_of}
use Rattle.formula.proofs.keep.disjuncts.Given as goal

abbrev pub invariant-loop-way : goal.invariant-loop-way
invariant-loop-way l =
    (length l.way-items ≤ 64) × (length (held l.out) ≤ l.way-index)
    × ((ds : List Way) → Shows l.fn.ways ds →
    (es : List Way) × (map shown (drop l.way-index l.way-items) ≡ map clip es) × (fitted ds ≡ kept_of (disjuncts_of l.out) es))
