use Rattle.std.proofs.Common.{◌≡◌, ◌+◌, ◌*◌, ◌<◌, length}
use Rattle.formula.specs.Cuts.{cut_rest}
use Rattle.formula.specs.Formulas.{Formula}
use Rattle.formula.specs.Progress.{StandsFor}
use Rattle.formula.specs.Reading.{Open, open_depth, read, wants, has, nothing}
use Rattle.formula.proofs.read.+readers.Given as goal

-- Each reader hands on to another at the same place only in this order, and else at a later place.
abbrev pub decreases-inside_at : goal.decreases-inside_at
decreases-inside_at l = 3 * length l.rest.bytes.now + 2

abbrev pub decreases-formula_at : goal.decreases-formula_at
decreases-formula_at l = 3 * length l.rest.bytes.now + 1

abbrev pub decreases-item_at : goal.decreases-item_at
decreases-item_at l = 3 * length l.rest.bytes.now

abbrev pub decreases-more_of : goal.decreases-more_of
decreases-more_of l = 3 * length l.rest.bytes.now

abbrev pub invariant-formula_at-loop-next : goal.invariant-formula_at-loop-next
invariant-formula_at-loop-next l =
    (length l.row.rest.bytes.now < length l.rest.bytes.now)
    × ((f : Formula) × StandsFor l.row f
    × ((o : Open) → open_depth o ≡ l.depth.count →
    read (wants nothing o) (cut_rest l.rest) ≡ read (has f o) (cut_rest l.row.rest)))

abbrev pub decreases-formula_at-loop-next : goal.decreases-formula_at-loop-next
decreases-formula_at-loop-next l = length l.row.rest.bytes.now
