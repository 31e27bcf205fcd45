-- Which refusals are of a mark of a formula, and where that mark ends.
use Rattle.std.specs.Prelude.{ℕ, ◌+◌, Bool, cond, not, ◌&&◌, List, length, drop, ◌==◌, nat_le, nat_lt, slice_index}
use Rattle.refusal.specs.declared.Refusal.{Refusal}
use Rattle.refusal.specs.Refusals.{number_of}
use Rattle.std.specs.List.{prefix_len}
use Rattle.formula.specs.Cuts.{capital}

-- Those with the numbers 12 to 15.
abbrev pub of_a_mark : Refusal → Bool
of_a_mark r = nat_le 12 (number_of r) && nat_le (number_of r) 15

-- A connector begins with a capital and is shown up to the next space; `or` is two bytes, and any other mark is one.
abbrev pub mark_end : List ℕ → ℕ → ℕ
mark_end formula p =
    p + cond (capital (slice_index formula p)) (prefix_len (λ b. not (b == 32)) (drop p formula))
    (cond (slice_index formula p == 111 && nat_lt (p + 1) (length formula)) 2 1)
