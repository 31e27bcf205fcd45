use Rattle.std.proofs.Common.{◌≡◌, ◌++◌, map, take, drop, cond, eqb}
use Rattle.filing.proofs.joins.relabel.Given as goal

abbrev pub invariant-loop-label : goal.invariant-loop-label
invariant-loop-label l =
    l.labels ≡ map (λ k. cond (eqb k l.old) l.new k) (take l.label-index l.initial.labels) ++ drop l.label-index l.initial.labels
