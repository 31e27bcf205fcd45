-- The lists of positions, and the last element of a list.
use Rattle.std.proofs.Common.{◌≡◌, ℕ, zero, suc, ◌+◌, ◌-◌, ◌<◌, ◌≤◌, ◌⊎◌, List, [], ◌∷◌, ◌++◌, sym, refl, ap, ◌∙◌, ap₂, inl, inr, add-zero, add-suc, suc-add, zero-add, arith}
use mathlib.Core.Option.{Option, none, some}
use Rattle.std.proofs.lemmas.Bool.{cases_eq}
use Rattle.linkage.specs.Lists.{◌∈◌, here, there, Distinct, back, between, falling, onto, range}
use Rattle.linkage.proofs.Members.{in_none, in_cases}

pub in_range : (a n x : ℕ) → a ≤ x → x < a + n → x ∈ range a n
in_range a zero x h k = absurd (omega arith)
in_range a (suc n) x h k = go (cases_eq x a) (λ d. in_range (suc a) n x (omega arith) (omega arith))
  where
    go : (x ≡ a) ⊎ (x ≡ a → ⊥) → ((x ≡ a → ⊥) → x ∈ range (suc a) n) → x ∈ (a ∷ range (suc a) n)
    go (inl e) f = here e
    go (inr d) f = there (f d)

pub of_range : (a n x : ℕ) → x ∈ range a n → (a ≤ x) × (x < a + n)
of_range a zero x m = absurd (in_none m)
of_range a (suc n) x m = go (in_cases m) (of_range (suc a) n x)
  where
    go : (x ≡ a) ⊎ (x ∈ range (suc a) n) → (x ∈ range (suc a) n → (suc a ≤ x) × (x < suc a + n)) → (a ≤ x) × (x < a + suc n)
    go (inl e) k = omega arith
    go (inr h) k = let r = k h in omega arith

pub distinct_range : (a n : ℕ) → Distinct (range a n)
distinct_range a zero = tt
distinct_range a (suc n) = (λ m. let h = of_range (suc a) n a m in omega arith, distinct_range (suc a) n)

pub range_++ : (a m n : ℕ) → range a (m + n) ≡ range a m ++ range (a + m) n
range_++ a zero n = ap₂ range (sym (add-zero a)) (zero-add n)
range_++ a (suc m) n =
    ap (range a) (suc-add m n)
    ∙ ap (λ l. a ∷ l) (range_++ (suc a) m n ∙ ap (λ k. range (suc a) m ++ range k n) (suc-add a m ∙ sym (add-suc a m)))

pub in_between : (L R x : ℕ) → L < x → x < R → x ∈ between L R
in_between L R x h k = in_range (suc L) (R - suc L) x (omega arith) (omega arith)

pub of_between : (L R x : ℕ) → x ∈ between L R → (L < x) × (x < R)
of_between L R x m = let h = of_range (suc L) (R - suc L) x m in omega arith

pub distinct_between : (L R : ℕ) → Distinct (between L R)
distinct_between L R = distinct_range (suc L) (R - suc L)

pub between_split : (L W R : ℕ) → L < W → W < R → between L R ≡ between L W ++ (W ∷ between W R)
between_split L W R h k =
    let e : R - suc L ≡ (W - suc L) + suc (R - suc W) = omega arith in
    let q : suc L + (W - suc L) ≡ W = omega arith in
    ap (range (suc L)) e ∙ range_++ (suc L) (W - suc L) (suc (R - suc W)) ∙ ap (λ k. between L W ++ range k (suc (R - suc W))) q

pub in_falling : (n x : ℕ) → x < n → x ∈ falling n
in_falling zero x h = absurd (omega arith)
in_falling (suc n) x h = go (cases_eq x n) (λ d. in_falling n x (omega arith))
  where
    go : (x ≡ n) ⊎ (x ≡ n → ⊥) → ((x ≡ n → ⊥) → x ∈ falling n) → x ∈ (n ∷ falling n)
    go (inl e) f = here e
    go (inr d) f = there (f d)

pub of_falling : (n x : ℕ) → x ∈ falling n → x < n
of_falling zero x m = absurd (in_none m)
of_falling (suc n) x m = go (in_cases m) (of_falling n x)
  where
    go : (x ≡ n) ⊎ (x ∈ falling n) → (x ∈ falling n → x < n) → x < suc n
    go (inl e) k = omega arith
    go (inr h) k = let r = k h in omega arith

pub distinct_falling : (n : ℕ) → Distinct (falling n)
distinct_falling zero = tt
distinct_falling (suc n) = (λ m. let h = of_falling n n m in omega arith, distinct_falling n)

-- The last element.
pub back_snoc : {A : Type 0} (xs : List A) (x : A) → back (xs ++ (x ∷ [])) ≡ some (xs, x)
back_snoc [] x = refl
back_snoc (y ∷ xs) x = ap (onto y) (back_snoc xs x)

pub snoc_cases : {A : Type 0} (xs : List A) → (xs ≡ []) ⊎ ((ys : List A) × (y : A) × (xs ≡ ys ++ (y ∷ [])))
snoc_cases [] = inl refl
snoc_cases {A} (x ∷ xs) = inr (go (snoc_cases xs))
  where
    go : (xs ≡ []) ⊎ ((ys : List A) × (y : A) × (xs ≡ ys ++ (y ∷ []))) → (ys : List A) × (y : A) × (x ∷ xs ≡ ys ++ (y ∷ []))
    go (inl e) = ([], x, ap (λ l. x ∷ l) e)
    go (inr h) = (x ∷ h.0, h.1, ap (λ l. x ∷ l) h.2)

pub back_none : {A : Type 0} (xs : List A) → back xs ≡ none → xs ≡ []
back_none {A} xs e = go (snoc_cases xs)
  where
    go : (xs ≡ []) ⊎ ((ys : List A) × (y : A) × (xs ≡ ys ++ (y ∷ []))) → xs ≡ []
    go (inl q) = q
    go (inr h) =
        let bad : ◌≡◌ {A = Option (List A × A)} (some (h.0, h.1)) none = sym (back_snoc h.0 h.1) ∙ sym (ap back h.2) ∙ e in cc

pub back_some : {A : Type 0} (xs ys : List A) (y : A) → back xs ≡ some (ys, y) → xs ≡ ys ++ (y ∷ [])
back_some {A} xs ys y e = go (snoc_cases xs)
  where
    go : (xs ≡ []) ⊎ ((us : List A) × (u : A) × (xs ≡ us ++ (u ∷ []))) → xs ≡ ys ++ (y ∷ [])
    go (inl q) = let bad : ◌≡◌ {A = Option (List A × A)} none (some (ys, y)) = sym (ap back q) ∙ e in cc
    go (inr h) =
        let q : some (h.0, h.1) ≡ some (ys, y) = sym (back_snoc h.0 h.1) ∙ sym (ap back h.2) ∙ e in
        let k : (h.0, h.1) ≡ (ys, y) = cc in
        h.2 ∙ ap (λ (z : List A × A). z.0 ++ (z.1 ∷ [])) k
