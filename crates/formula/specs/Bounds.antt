-- What is held by a value that has room for at most so many items.
use Rattle.std.specs.Prelude.{ℕ, List, take}
use Rattle.formula.specs.declared.bounded.Bounded.{Bounded}

abbrev pub held : {T : Type 0} {N : ℕ} → Bounded T N → List T
held b = take b.len b.cells
