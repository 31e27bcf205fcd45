-- Sums over lists, in any tally that keeps the laws.
use Rattle.std.proofs.Common.{◌≡◌, ℕ, zero, suc, ◌+◌, ◌⊎◌, List, [], ◌∷◌, ◌++◌, map, sym, refl, ap, ◌∙◌, subst, ap₂, inl, inr, suc-add, zero-add}
use Rattle.tally.specs.Semiring.{Semiring, Laws}
use Rattle.linkage.specs.Lists.{◌∈◌, here, there, Distinct, concatMap}
use Rattle.linkage.specs.Sums.{power, sum}
use Rattle.linkage.proofs.Members.{in_around, in_cases, in_left, in_none, in_right, in_split}

module _ {V : Type 0} (t : Semiring V) (laws : Laws t) where
  pub nothing_either : (a : V) → t.either t.nothing a ≡ a
  nothing_either a = laws.either_comm t.nothing a ∙ laws.either_nothing a

  pub single_both : (a : V) → t.both t.single a ≡ a
  single_both a = laws.both_comm t.single a ∙ laws.both_single a

  pub both_swap : (a b c d : V) → t.both (t.both a b) (t.both c d) ≡ t.both (t.both a c) (t.both b d)
  both_swap a b c d =
      laws.both_assoc a b (t.both c d)
      ∙ ap (t.both a) (sym (laws.both_assoc b c d) ∙ ap (λ z. t.both z d) (laws.both_comm b c) ∙ laws.both_assoc c b d)
      ∙ sym (laws.both_assoc a c (t.both b d))

  pub power_+ : (v : V) (m n : ℕ) → power t v (m + n) ≡ t.both (power t v m) (power t v n)
  power_+ v zero n = ap (power t v) (zero-add n) ∙ sym (single_both (power t v n))
  power_+ v (suc m) n =
      ap (power t v) (suc-add m n) ∙ ap (t.both v) (power_+ v m n) ∙ sym (laws.both_assoc v (power t v m) (power t v n))

  pub sum_cong : {A : Type 0} {f g : A → V} (xs : List A) → ((x : A) → x ∈ xs → f x ≡ g x) → sum t f xs ≡ sum t g xs
  sum_cong [] h = refl
  sum_cong (x ∷ xs) h = ap₂ t.either (h x (here refl)) (sum_cong xs (λ y m. h y (there m)))

  pub sum_++ : {A : Type 0} (f : A → V) (xs ys : List A) → sum t f (xs ++ ys) ≡ t.either (sum t f xs) (sum t f ys)
  sum_++ f [] ys = sym (nothing_either (sum t f ys))
  sum_++ f (x ∷ xs) ys = ap (t.either (f x)) (sum_++ f xs ys) ∙ sym (laws.either_assoc (f x) (sum t f xs) (sum t f ys))

  pub sum_map : {A B : Type 0} (f : B → V) (g : A → B) (xs : List A) → sum t f (map g xs) ≡ sum t (λ x. f (g x)) xs
  sum_map f g [] = refl
  sum_map f g (x ∷ xs) = ap (t.either (f (g x))) (sum_map f g xs)

  pub sum_concatMap : {A B : Type 0} (f : B → V) (g : A → List B) (xs : List A) → sum t f (concatMap g xs) ≡ sum t (λ x. sum t f (g x)) xs
  sum_concatMap f g [] = refl
  sum_concatMap f g (x ∷ xs) = sum_++ f (g x) (concatMap g xs) ∙ ap (t.either (sum t f (g x))) (sum_concatMap f g xs)

  pub both_sum : {A : Type 0} (a : V) (f : A → V) (xs : List A) → t.both a (sum t f xs) ≡ sum t (λ x. t.both a (f x)) xs
  both_sum a f [] = laws.both_nothing a
  both_sum a f (x ∷ xs) = laws.both_either a (f x) (sum t f xs) ∙ ap (t.either (t.both a (f x))) (both_sum a f xs)

  -- A product of sums is the sum of the products.
  pub sum_product : {A B : Type 0} (f : A → V) (g : B → V) (xs : List A) (ys : List B)
      → t.both (sum t f xs) (sum t g ys) ≡ sum t (λ x. sum t (λ y. t.both (f x) (g y)) ys) xs
  sum_product f g xs ys =
      laws.both_comm (sum t f xs) (sum t g ys)
      ∙ both_sum (sum t g ys) f xs
      ∙ sum_cong xs (λ x m. laws.both_comm (sum t g ys) (f x) ∙ both_sum (f x) g ys)

  -- One addend brought to the front.
  sum_around : {A : Type 0} (f : A → V) (us : List A) (a : A) (vs : List A) → sum t f (us ++ (a ∷ vs)) ≡ t.either (f a) (sum t f (us ++ vs))
  sum_around f [] a vs = refl
  sum_around f (u ∷ us) a vs =
      let rest = sum t f (us ++ vs) in
      ap (t.either (f u)) (sum_around f us a vs)
      ∙ sym (laws.either_assoc (f u) (f a) rest)
      ∙ ap (λ w. t.either w rest) (laws.either_comm (f u) (f a))
      ∙ laws.either_assoc (f a) (f u) rest

  -- Two lists with the same members, none twice, have the same sum.
  pub sum_same : {A : Type 0} (f : A → V) (xs ys : List A) → Distinct xs → Distinct ys
      → ((a : A) → a ∈ xs → a ∈ ys) → ((a : A) → a ∈ ys → a ∈ xs) → sum t f xs ≡ sum t f ys
  sum_same f [] [] n m p q = refl
  sum_same f [] (y ∷ ys) n m p q = absurd (in_none (q y (here refl)))
  sum_same {A} f (x ∷ xs) ys n m p q =
      let place = in_around (p x (here refl)) in
      let us = place.0 in
      let vs = place.1 in
      let distinct = subst Distinct place.2 m in
      ap (t.either (f x)) (sum_same f xs (us ++ vs) n.1 (distinct_without us vs distinct)
      (λ a h. without us vs a (λ e. n.0 (subst (λ y. y ∈ xs) e h)) (subst (λ l. a ∈ l) place.2 (p a (there h))))
      (λ a h. behind a (λ e. not_without us vs distinct (subst (λ y. y ∈ (us ++ vs)) e h))
      (q a (subst (λ l. a ∈ l) (sym place.2) (with_x us vs a h)))))
      ∙ sym (ap (sum t f) place.2 ∙ sum_around f us x vs)
    where
      without : (us vs : List A) (a : A) → (a ≡ x → ⊥) → a ∈ (us ++ (x ∷ vs)) → a ∈ (us ++ vs)
      without us vs a d h =
          elim (in_split us h) [ inl k ↦ in_left vs k | inr k ↦ in_right us (elim (in_cases k) [ inl e ↦ absurd (d e) | inr u ↦ u ]) ]

      with_x : (us vs : List A) (a : A) → a ∈ (us ++ vs) → a ∈ (us ++ (x ∷ vs))
      with_x us vs a h = elim (in_split us h) [ inl k ↦ in_left (x ∷ vs) k | inr k ↦ in_right us (there k) ]

      distinct_without : (us vs : List A) → Distinct (us ++ (x ∷ vs)) → Distinct (us ++ vs)
      distinct_without [] vs n = n.1
      distinct_without (u ∷ us) vs n = (λ h. n.0 (with_x us vs u h), distinct_without us vs n.1)

      not_without : (us vs : List A) → Distinct (us ++ (x ∷ vs)) → x ∈ (us ++ vs) → ⊥
      not_without [] vs n h = n.0 h
      not_without (u ∷ us) vs n h = go (in_cases h) (not_without us vs n.1)
        where
          go : (x ≡ u) ⊎ (x ∈ (us ++ vs)) → (x ∈ (us ++ vs) → ⊥) → ⊥
          go (inl e) k = n.0 (in_right us (here (sym e)))
          go (inr h) k = k h

      behind : (a : A) → (a ≡ x → ⊥) → a ∈ (x ∷ xs) → a ∈ xs
      behind a d h = elim (in_cases h) [ inl e ↦ absurd (d e) | inr k ↦ k ]
