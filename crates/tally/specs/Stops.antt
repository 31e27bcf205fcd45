-- Products that stop at a limit: in which order they are taken, and over sums that stop. Assumes nothing.
use Rattle.std.specs.Prelude.{◌≡◌, ℕ, zero, suc, ◌+◌, ◌*◌}
use Rattle.std.proofs.Common.{sym, ap, ◌∙◌, ⊎_elim, mul_comm, mul_assoc, mul-add, zero-mul, suc-mul, arith}
use Rattle.std.proofs.lemmas.Bool.{cases_lt}
use Rattle.tally.specs.Numbers.{stop}

module _ (top : ℕ) where
  -- a factor may stop before the product does
  stop_right : (a b : ℕ) → stop top (a * stop top b) ≡ stop top (a * b)
  stop_right zero b = rw (zero-mul (stop top b), zero-mul b)
  stop_right (suc a) b =
      rw (suc-mul a (stop top b), suc-mul a b)
      (⊎_elim (λ h. let e : stop top b ≡ b = omega arith in rw e) (λ h. omega arith) (cases_lt b top))

  stop_left : (a b : ℕ) → stop top (stop top a * b) ≡ stop top (a * b)
  stop_left a b = ap (stop top) (mul_comm (stop top a) b) ∙ stop_right b a ∙ ap (stop top) (mul_comm b a)

  pub mul_around : (a b c : ℕ) → stop top (stop top (a * b) * c) ≡ stop top (a * stop top (b * c))
  mul_around a b c = stop_left (a * b) c ∙ ap (stop top) (mul_assoc a b c) ∙ sym (stop_right a (b * c))

  pub mul_over : (a b c : ℕ) → stop top (a * stop top (b + c)) ≡ stop top (stop top (a * b) + stop top (a * c))
  mul_over a b c =
      let e : stop top (a * b + a * c) ≡ stop top (stop top (a * b) + stop top (a * c)) = omega arith in
      stop_right a (b + c) ∙ ap (stop top) (mul-add a b c) ∙ e
