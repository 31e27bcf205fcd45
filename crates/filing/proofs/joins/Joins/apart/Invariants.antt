use Rattle.std.proofs.Common.{◌≡◌, ℕ, ◌<◌, length, get_or}
use Rattle.filing.proofs.joins.Joins.apart.Given as goal

abbrev pub invariant-loop-label : goal.invariant-loop-label
invariant-loop-label l = (length l.labels.items ≡ l.label) × ((u : ℕ) → u < l.label → get_or l.labels.items u 0 ≡ u)
