use Rattle.std.proofs.Common.{◌≡◌, ◌+◌, ◌++◌, map, length, take}
use Rattle.formula.specs.Bounds.{held}
use Rattle.formula.specs.Shown.{clip_glue, shown, table}
use Rattle.formula.proofs.make.spread.Given as goal

abbrev pub invariant-loop-other : goal.invariant-loop-other
invariant-loop-other l =
    (length (held l.listing) ≡ length (held l.initial.listing) + l.other-index)
    × (table l.listing ≡ table l.initial.listing ++ map (λ o. clip_glue (shown l.way) (shown o)) (take l.other-index (held l.others)))
