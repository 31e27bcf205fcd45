-- The list of positions is what a chain of iterators over numbers gives.
use Rattle.std.proofs.Common.{◌≡◌, ℕ, zero, suc, ◌∷◌, ap, ◌∙◌, add-one, refl, sym}
use Rattle.std.specs.List.{range_with_len}
use Rattle.linkage.specs.Lists.{range}

pub range_same : (a n : ℕ) → range a n ≡ range_with_len a n
range_same a zero = refl
range_same a (suc n) = ap (λ ks. a ∷ ks) (range_same (suc a) n ∙ ap (λ b. range_with_len b n) (sym (add-one a)))
