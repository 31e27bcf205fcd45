-- Values that carry bounds are equal where what they hold is. Assumes nothing.
use Rattle.std.specs.Prelude.{◌≡◌, ◌-◌, ◌^◌, ◌<◌, ◌≤◌, Bool, true, false, cond, refl}
use mathlib.Core.HLevel.{is_prop→PathP}
use Rattle.std.proofs.Math.Bridge.{le_prop}
use Rattle.tally.specs.declared.ways.Ways.{Ways}
use Rattle.tally.specs.declared.fewest.NullLinks.{NullLinks}
use Rattle.tally.specs.declared.fewest_ways.Least.{Least}

pub same_ways : (x y : Ways) → x.count ≡ y.count → x ≡ y
same_ways x y e j = record {
  count = e j;
  fits = is_prop→PathP (λ k. e k < 2 ^ 64) (λ k. le_prop) x.fits y.fits j;
}

pub same_links : (x y : NullLinks) → x.number ≡ y.number → x ≡ y
same_links x y e j = record {
  number = e j;
  small = is_prop→PathP (λ k. e k < 2 ^ 32 - 1) (λ k. le_prop) x.small y.small j;
}

pub same_least : (x y : Least) → x.number ≡ y.number → x.count ≡ y.count → x ≡ y
same_least x y e f j = record {
  number = e j;
  count = f j;
  small = is_prop→PathP (λ k. e k < 2 ^ 32 - 1) (λ k. le_prop) x.small y.small j;
  some = is_prop→PathP (λ k. 1 ≤ f k) (λ k. le_prop) x.some y.some j;
  fits = is_prop→PathP (λ k. f k < 2 ^ 64) (λ k. le_prop) x.fits y.fits j;
}

-- What is read of a choice is a choice of what is read.
pub at_cond : {X Y : Type 0} (f : X → Y) (b : Bool) (x y : X) → f (cond b x y) ≡ cond b (f x) (f y)
at_cond f true x y = refl
at_cond f false x y = refl
