-- What a tally is: a commutative semiring, with two values more that weigh a linkage.
use Rattle.std.specs.Prelude.{◌≡◌, Bool, true, false}

-- `either` joins what linkages give that exclude each other, `both` what the parts of one linkage give. `nothing` is no
-- linkage, `single` one that costs nothing; a null link weighs `gap`, and a bare word `bare`.
pub record Semiring (V : Type 0) : Type 0 where
  pub nothing : V
  pub single : V
  pub gap : V
  pub bare : V
  pub either : V → V → V
  pub both : V → V → V

-- The laws, which leave `gap` and `bare` free.
pub record Laws {V : Type 0} (t : Semiring V) : Type 0 where
  pub either_comm : (x y : V) → t.either x y ≡ t.either y x
  pub either_assoc : (x y z : V) → t.either (t.either x y) z ≡ t.either x (t.either y z)
  pub either_nothing : (x : V) → t.either x t.nothing ≡ x
  pub both_comm : (x y : V) → t.both x y ≡ t.both y x
  pub both_assoc : (x y z : V) → t.both (t.both x y) z ≡ t.both x (t.both y z)
  pub both_single : (x : V) → t.both x t.single ≡ x
  pub both_nothing : (x : V) → t.both x t.nothing ≡ t.nothing
  pub both_either : (x y z : V) → t.both x (t.either y z) ≡ t.either (t.both x y) (t.both x z)

-- An answer that says yes exactly where something holds.
abbrev pub Tells : Bool → Type 0 → Type 0
Tells true P = P
Tells false P = P → ⊥
