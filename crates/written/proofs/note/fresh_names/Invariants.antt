use Rattle.std.proofs.Common.{◌≡◌, ◌*◌, ◌≤◌, [], ◌++◌, length, map, take}
use Rattle.formula.specs.Bounds.{held}
use Rattle.formula.specs.Shown.{disjunct_of}
use Rattle.written.specs.Model.{fresh, mentioned}
use Rattle.written.specs.Store.{fresh_of, known}
use Rattle.written.proofs.note.fresh_names.Given as goal

abbrev pub invariant-loop-one : goal.invariant-loop-one
invariant-loop-one l =
    (length l.fresh.items ≤ 16 * l.one-index)
    × (fresh_of l.fresh ≡ [] ++ fresh (known l.front ++ []) (mentioned (map disjunct_of (take l.one-index (held l.disjuncts)))))
