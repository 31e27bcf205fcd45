-- What is in a set of disjuncts.
use Rattle.std.specs.Prelude.{◌≡◌, ℕ, ◌/◌, ◌%◌, ◌^◌, Bool, true, false, ◌==◌, refl}
use Rattle.rows.specs.declared.sets.DisjunctSet.{DisjunctSet}

-- A disjunct is in the set where the bit of value 2 ^ disjunct is 1.
unfoldable pub members : DisjunctSet → (disjunct : ℕ) → Bool
members s d = s.bits / 2 ^ d % 2 == 1

-- 5 is the set of the disjuncts 0 and 2.
example_members :
    let s : DisjunctSet = record { bits = 5 } in
    (members s 0 ≡ true) × (members s 1 ≡ false) × (members s 2 ≡ true)
unfolding members
example_members = (refl, refl, refl)
