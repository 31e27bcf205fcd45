-- What the bytes of a formula mean: the disjuncts that are kept, or the first fault.
use Rattle.std.specs.Prelude.{ℕ, List, Result}
use Rattle.refusal.specs.declared.fault.LineFault.{LineFault}
use Rattle.refusal.specs.Faults.{carried, of_line, then}
use Rattle.formula.specs.Reading.{reading}
use Rattle.formula.specs.Ways.{Way, ways, fitted}

-- A fault of the tokens comes first and has their place; that there are too many ways or too long lists has none.
abbrev pub meaning : List ℕ → Result (List Way) LineFault
meaning bytes = then (reading bytes) (λ f. carried of_line (fitted (ways f)))
