-- Fewest by one number for each value, its size: nothing has the limit. A value is known by it (`same_fewest`), and either and both are the
-- minimum and the sum of sizes (`size_smaller`, `size_sum`). Assumes nothing.
use Rattle.std.specs.Prelude.{◌≡◌, ℕ, ◌+◌, ◌≤◌, min, cond, Some, None, Option, nat_le, nat_lt, refl}
use Rattle.std.proofs.Common.{ap, ◌∙◌, arith}
use Rattle.std.proofs.lemmas.Bool.Decides.{nat_tests}
use Rattle.tally.specs.Numbers.{stop, limit}
use Rattle.tally.specs.Fewest.{fewest, number, smaller, sum}
use Rattle.tally.specs.declared.fewest.NullLinks.{NullLinks}
use Rattle.tally.specs.declared.fewest.Fewest.{Fewest}
use Rattle.tally.specs.Same.{same_links, at_cond}

abbrev pub size : Option NullLinks → ℕ
size None = limit
size (Some a) = a.number

pub size_small : (x : Option NullLinks) → size x ≤ limit
size_small None = omega arith
size_small (Some a) = let h = a.small in omega arith

pub size_fewest : (n : ℕ) → size (fewest n).links ≡ stop limit n
size_fewest n = at_cond (λ (x : Fewest). size x.links) (nat_lt n limit) _ _ ∙ grind (arith, nat_tests)

pub same_fewest : (x y : Fewest) → size x.links ≡ size y.links → x ≡ y
same_fewest x y e j = record { links = same_held x.links y.links e j }
  where
    same_held : (x y : Option NullLinks) → size x ≡ size y → x ≡ y
    same_held None None e = refl
    same_held None (Some b) e = absurd (let h = b.small in omega arith)
    same_held (Some a) None e = absurd (let h = a.small in omega arith)
    same_held (Some a) (Some b) e = ap Some (same_links a b e)

-- A number that is below the limit is itself.
pub number_made : (a : NullLinks) → number a ≡ fewest a.number
number_made a = same_fewest _ _ (let h = a.small in omega (arith, size_fewest a.number))

-- The sum may stop at the limit, which is nothing.
pub stopped : (n : ℕ) → fewest (stop limit n) ≡ fewest n
stopped n = same_fewest _ _ (omega (arith, size_fewest n, size_fewest (stop limit n)))

pub size_smaller : (x y : Option NullLinks) → size (smaller x y).links ≡ min (size x) (size y)
size_smaller None y = omega (arith, size_small y)
size_smaller (Some a) None = let h = a.small in omega arith
size_smaller (Some a) (Some b) = let h = a.small in omega (arith, size_fewest (min a.number b.number))

pub size_sum : (x y : Option NullLinks) → size (sum x y).links ≡ stop limit (size x + size y)
size_sum None y = omega arith
size_sum (Some a) None = omega arith
size_sum (Some a) (Some b) = size_fewest (a.number + b.number)

-- The smaller of two values is one of them.
pub chooses :
    (x y : Fewest) (a b : NullLinks) → x.links ≡ Some a → y.links ≡ Some b →
    smaller x.links y.links ≡ cond (nat_le a.number b.number) x y
chooses x y a b e f =
    let m = ap size e in let n = ap size f in
    same_fewest _ _ (simp (size_smaller, at_cond (λ (z : Fewest). size z.links)) (grind (arith, nat_tests)))
