use Rattle.std.proofs.Common.{◌≡◌, ◌++◌, take}
use Rattle.formula.specs.Bounds.{held}
use Rattle.formula.proofs.bounded.Bounded.append.Given as goal

abbrev pub invariant-loop-item : goal.invariant-loop-item
invariant-loop-item g l = held l.self ≡ held l.initial.self ++ take l.item-index l.items
