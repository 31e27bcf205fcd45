use Rattle.std.proofs.Common.{ℕ, ◌+◌, ◌*◌, ◌≤◌, arith}
use Rattle.tally.specs.Numbers.{stop, most}
use Rattle.tally.specs.Figures.{size_stopped, count_stopped, some_times}
use Rattle.tally.proofs.fewest_ways.FewestWaysTally.both.Goals as goal

pub returns-in-Some-Some : goal.returns-in-Some-Some
returns-in-Some-Some c =
    let a = c.in-Some-Some.a in let b = c.in-Some-Some.b in
    let n : ℕ = a.number + b.number in let k : ℕ = a.count * b.count in
    let h : 1 ≤ k = some_times a.count b.count a.some b.some in
    cc (size_stopped n (stop most k) (omega arith), count_stopped n k h)
