-- What is in the sets that operations on bits make: what is in either of two sets or in both, one disjunct more, and one fewer.
use Rattle.std.proofs.Common.{◌≡◌, ◌≢◌, ℕ, zero, suc, ◌-◌, ◌*◌, ◌/◌, ◌%◌, ◌^◌, ◌<◌, ◌≤◌, false, not, ◌&&◌, ◌||◌, eqb, min, max, ◌⊎◌, inl, inr, sym, refl, ap, ◌∙◌, arith}
use mir.Syntax.{w64}
use lib.Bits.{bit_and, bit_or}
use Rattle.std.specs.Int.{bit_at}
use Rattle.std.proofs.lemmas.Bool.{and_right, cases_eq, cases_lt, eq-eqb, ne_eqb}
use Rattle.std.proofs.lemmas.Nat.Bits.{bit_at-lt, bit_at-zero, bit_at_above, bit_at_and, bit_at_clear_other, bit_at_clear_same, bit_at_or, bit_at_set_other, bit_at_set_same, shr_and_one}
use Rattle.rows.specs.Sets.{members}
use Rattle.rows.specs.declared.sets.DisjunctSet.{DisjunctSet}

abbrev pub of_bits : ℕ → DisjunctSet
of_bits n = record { bits = n }

pub empty : members (of_bits 0) ≡ (λ k. false)
unfolding members
empty j k = ap (λ x. eqb x 1) (bit_at-zero k) j

pub contained : (n d : ℕ) → eqb (bit_and (n / 2 ^ d) 1) 1 ≡ members (of_bits n) d
unfolding members
contained n d = ap (λ x. eqb x 1) (shr_and_one n d)

-- A set of 64 bits has no member past them.
pub none_past : (n k : ℕ) → n < 2 ^ 64 → 64 ≤ k → members (of_bits n) k ≡ false
unfolding members
none_past n k h l = ap (λ x. eqb x 1) (bit_at_above n 64 k h l)

larger : (a b : ℕ) → a < 2 → b < 2 → eqb (max a b) 1 ≡ (eqb a 1 || eqb b 1)
larger zero zero h l = refl
larger zero (suc zero) h l = refl
larger (suc zero) zero h l = refl
larger (suc zero) (suc zero) h l = refl
larger a (suc (suc b)) h l = absurd (omega arith)
larger (suc (suc a)) b h l = absurd (omega arith)

pub united : (m n : ℕ) → members (of_bits (bit_or m n)) ≡ (λ k. members (of_bits m) k || members (of_bits n) k)
unfolding members
united m n j k = (ap (λ x. eqb x 1) (bit_at_or m n k) ∙ larger (bit_at m k) (bit_at n k) (bit_at-lt m k) (bit_at-lt n k)) j

module _ (n d : ℕ) (h : d < 64) where
  pub inserted : members (of_bits (bit_or n (1 * 2 ^ d % 2 ^ 64))) ≡ (λ k. eqb k d || members (of_bits n) k)
  unfolding members
  inserted j k = at (cases_eq k d) j
    where
      more : ℕ
      more = bit_or n (1 * 2 ^ d % 2 ^ 64)

      at : (k ≡ d) ⊎ (k ≢ d) → members (of_bits more) k ≡ (eqb k d || members (of_bits n) k)
      at (inl e) = rw (e, eq-eqb d d refl) (ap (λ x. eqb x 1) (bit_at_set_same w64 n d h))
      at (inr e) = rw (ne_eqb k d e) (ap (λ x. eqb x 1) (bit_at_set_other w64 n d h k e))

  pub removed : n < 2 ^ 64 → members (of_bits (bit_and n (2 ^ 64 - 1 - 1 * 2 ^ d % 2 ^ 64))) ≡ (λ k. not (eqb k d) && members (of_bits n) k)
  unfolding members
  removed l j k = at (cases_eq k d) (cases_lt k 64) j
    where
      mask : ℕ
      mask = 2 ^ 64 - 1 - 1 * 2 ^ d % 2 ^ 64

      at : (k ≡ d) ⊎ (k ≢ d) → (k < 64) ⊎ (64 ≤ k) → members (of_bits (bit_and n mask)) k ≡ (not (eqb k d) && members (of_bits n) k)
      at (inl e) f = rw (e, eq-eqb d d refl) (ap (λ x. eqb x 1) (bit_at_clear_same w64 n d h))
      at (inr e) (inl b) = rw (ne_eqb k d e) (ap (λ x. eqb x 1) (bit_at_clear_other w64 n d h k b e))
      at (inr e) (inr b) =
          let z : bit_at n k ≡ 0 = bit_at_above n 64 k l b in
          ap (λ x. eqb x 1) (bit_at_and n mask k ∙ ap (λ x. min x (bit_at mask k)) z ∙ least (bit_at mask k))
          ∙ sym (and_right (not (eqb k d)) (members (of_bits n) k) (ap (λ x. eqb x 1) z))
        where
          least : (b : ℕ) → min 0 b ≡ 0
          least b = omega arith
