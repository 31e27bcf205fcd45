-- Legal: whether there is a legal linkage, yes or no.
use Rattle.std.specs.Prelude.{◌≡◌, Bool, true, false, cond, refl}
use Rattle.tally.specs.Semiring.{Semiring}
use Rattle.tally.specs.declared.legal.Legal.{Legal}
use Rattle.tally.specs.declared.legal.Legal.TheVariants.{No, Yes}

abbrev pub or : Legal → Legal → Legal
or No y = y
or Yes y = Yes

abbrev pub and : Legal → Legal → Legal
and No y = No
and Yes y = y

-- A null link or a bare word makes a linkage illegal.
abbrev pub legal_tally : Semiring Legal
legal_tally = record { nothing = No; single = Yes; gap = No; bare = No; either = or; both = and }

-- A value from an answer, and the answer of a value.
abbrev pub legal : Bool → Legal
legal b = cond b Yes No

abbrev pub is_yes : Legal → Bool
is_yes No = false
is_yes Yes = true

-- One of two is enough, but not one of two parts.
example_legal : (or No Yes ≡ Yes) × (and Yes No ≡ No) × (is_yes (legal true) ≡ true)
example_legal = (refl, refl, refl)
