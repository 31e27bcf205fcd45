use Rattle.std.proofs.Common.{sym, ◌∙◌}
use Rattle.std.proofs.lemmas.Map.Lookups.{exact_unsigned}
use Rattle.tally.specs.Figures.{tied}
use Rattle.tally.proofs.fewest_ways.FewestWaysTally.either.Goals as goal

pub returns-in-Equal : goal.returns-in-Equal
returns-in-Equal c =
    let same = exact_unsigned _ _ (sym c.in-Equal.ensures) in
    c.of.ensures ∙ rw c.saturating_add.ensures (tied _ _ _ _ c.in-Some-Some.is-0 c.in-Some-Some.is-1 same)
