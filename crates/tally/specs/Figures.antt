-- Fewest-ways by two numbers for each value, its size and its count: nothing has the limit and 0. A value is known by them (`same_figures`),
-- and four lemmas give the numbers of either and both, `size_fewer` to `count_together`. Assumes nothing.
use Rattle.std.specs.Prelude.{◌≡◌, ℕ, ◌+◌, ◌*◌, ◌≤◌, min, cond, ◌&&◌, ◌==◌, Some, None, Option, nat_eq, nat_lt, refl}
use Rattle.std.proofs.Common.{sym, ap, ◌∙◌, mul-le-mul, arith}
use Rattle.std.proofs.lemmas.Bool.Decides.{nat_tests}
use Rattle.tally.specs.Numbers.{stop, most, limit}
use Rattle.tally.specs.FewestWays.{fewest_ways, found, fewer, together}
use Rattle.tally.specs.declared.fewest_ways.Least.{Least}
use Rattle.tally.specs.declared.fewest_ways.FewestWays.{FewestWays}
use Rattle.tally.specs.Same.{same_least, at_cond}

abbrev pub size : Option Least → ℕ
size None = limit
size (Some a) = a.number

abbrev pub count : Option Least → ℕ
count None = 0
count (Some a) = a.count

-- The count of the smaller number, or of both.
abbrev pub keep : ℕ → ℕ → ℕ → ℕ → ℕ
keep a c b d = cond (nat_lt a b) c (cond (nat_lt b a) d (stop most (c + d)))

-- The count of a sum.
abbrev pub meet : ℕ → ℕ → ℕ → ℕ
meet n c d = cond (nat_lt n limit) (stop most (c * d)) 0

pub same_figures : (x y : FewestWays) → size x.least ≡ size y.least → count x.least ≡ count y.least → x ≡ y
same_figures x y e f j = record { least = same_held x.least y.least e f j }
  where
    same_held : (x y : Option Least) → size x ≡ size y → count x ≡ count y → x ≡ y
    same_held None None e f = refl
    same_held None (Some b) e f = absurd (let h = b.small in omega arith)
    same_held (Some a) None e f = absurd (let h = a.small in omega arith)
    same_held (Some a) (Some b) e f = ap Some (same_least a b e f)

-- What the two numbers are bound to.
pub record Bound (n c : ℕ) : Type 0 where
  pub small : n ≤ limit
  pub fits : c ≤ most
  pub paired : nat_eq n limit ≡ (c == 0)

pub bound : (x : Option Least) → Bound (size x) (count x)
bound None = record { small = omega arith; fits = omega arith; paired = refl }
bound (Some a) = record {
  small = let h = a.small in omega arith;
  fits = let h = a.fits in omega arith;
  paired = let h = a.small in let k = a.some in grind (arith, nat_tests);
}

size_made : (n c : ℕ) → 1 ≤ c → size (fewest_ways n c).least ≡ stop limit n
size_made n c h = at_cond (λ (x : FewestWays). size x.least) (nat_lt n limit && nat_lt 0 c) _ _ ∙ grind (arith, nat_tests)

count_made : (n c : ℕ) → 1 ≤ c → count (fewest_ways n c).least ≡ cond (nat_lt n limit) (stop most c) 0
count_made n c h = at_cond (λ (x : FewestWays). count x.least) (nat_lt n limit && nat_lt 0 c) _ _ ∙ grind (arith, nat_tests)

pub found_made : (a : Least) → found a ≡ fewest_ways a.number a.count
found_made a =
    let h = a.small in let k = a.fits in
    same_figures _ _ (omega (arith, size_made a.number a.count a.some))
    (let e = count_made a.number a.count a.some in grind (arith, nat_tests))

pub count_stopped : (n c : ℕ) → 1 ≤ c → fewest_ways n (stop most c) ≡ fewest_ways n c
count_stopped n c h =
    same_figures _ _ (size_made n _ (omega arith) ∙ sym (size_made n c h))
    (count_made n _ (omega arith) ∙ (let e : stop most (stop most c) ≡ stop most c = omega arith in rw e) ∙ sym (count_made n c h))

pub size_stopped : (n c : ℕ) → 1 ≤ c → fewest_ways (stop limit n) c ≡ fewest_ways n c
size_stopped n c h =
    same_figures _ _ (omega (arith, size_made (stop limit n) c h, size_made n c h))
    (let e = count_made (stop limit n) c h in let f = count_made n c h in grind (arith, nat_tests))

-- A product is 0 only where a factor is.
pub some_times : (c d : ℕ) → 1 ≤ c → 1 ≤ d → 1 ≤ c * d
some_times c d h k = mul-le-mul {n₁ = 1} {m₁ = 1} {n₂ = c} {m₂ = d} h k

pub size_fewer : (x y : Option Least) → size (fewer x y).least ≡ min (size x) (size y)
size_fewer None y = let b = (bound y).small in omega arith
size_fewer (Some a) None = let h = a.small in omega arith
size_fewer (Some a) (Some b) =
    let e = size_made a.number (a.count + b.count) (let h = a.some in omega arith) in
    simp (at_cond (λ (x : FewestWays). size x.least)) (grind (arith, nat_tests))

pub count_fewer : (x y : Option Least) → count (fewer x y).least ≡ keep (size x) (count x) (size y) (count y)
count_fewer None y = let b = bound y in grind (arith, nat_tests)
count_fewer (Some a) None = let h = a.small in grind (arith, nat_tests)
count_fewer (Some a) (Some b) =
    let h = a.small in let e = count_made a.number (a.count + b.count) (let h = a.some in omega arith) in
    simp (at_cond (λ (x : FewestWays). count x.least)) (grind (arith, nat_tests))

pub size_together : (x y : Option Least) → size (together x y).least ≡ stop limit (size x + size y)
size_together None y = omega arith
size_together (Some a) None = omega arith
size_together (Some a) (Some b) = size_made _ _ (some_times a.count b.count a.some b.some)

pub count_together :
    (x y : Option Least) → count (together x y).least ≡ meet (size x + size y) (count x) (count y)
count_together None y = grind (arith, nat_tests)
count_together (Some a) None = grind (arith, nat_tests)
count_together (Some a) (Some b) = count_made _ _ (some_times a.count b.count a.some b.some)

-- Of equal numbers the counts are added.
pub tied :
    (x y : Option Least) (a b : Least) → x ≡ Some a → y ≡ Some b → a.number ≡ b.number →
    fewest_ways a.number (stop most (a.count + b.count)) ≡ fewer x y
tied x y a b e f same =
    let k = a.some in
    let l = ap size e in let m = ap size f in let n = ap count e in let o = ap count f in
    same_figures _ _ (simp size_fewer (grind (arith, nat_tests))) (simp count_fewer (grind (arith, nat_tests)))
