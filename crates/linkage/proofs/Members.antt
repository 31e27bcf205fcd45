-- Membership: what stands in a list that is joined, mapped, gathered or filtered, when nothing stands twice there, and what
-- tests over a list say.
use Rattle.std.proofs.Common.{◌≡◌, ℕ, suc, ◌<◌, Bool, true, false, cond, not, eqb, ◌⊎◌, List, [], ◌∷◌, ◌++◌, map, length, sym, refl, ap, ◌∙◌, subst, ap₂, inl, inr, arith}
use Rattle.std.proofs.lemmas.Bool.{and_from, and_parts, both_ways, cases_Bool, cond_both, cond-true, eq-eqb, eqb-false, eqb-true, false_from_ne_true, false≢true, not_from_false, not-true, or_cases, or_left, or_right}
pub use Rattle.std.proofs.lemmas.List.Elements.{filter-append as filter_++}
use Rattle.linkage.specs.Lists.{◌∈◌, here, there, Distinct, concatMap, every, filter, has, some_of}

pub in_none : {A : Type 0} {a : A} → a ∈ [] → ⊥
in_none = elim [ ]

pub in_cases : {A : Type 0} {a x : A} {xs : List A} → a ∈ (x ∷ xs) → (a ≡ x) ⊎ (a ∈ xs)
in_cases (here e) = inl e
in_cases (there m) = inr m

pub in_left : {A : Type 0} {a : A} {xs : List A} (ys : List A) → a ∈ xs → a ∈ (xs ++ ys)
in_left ys (here e) = here e
in_left ys (there m) = there (in_left ys m)

pub in_right : {A : Type 0} {a : A} (xs : List A) {ys : List A} → a ∈ ys → a ∈ (xs ++ ys)
in_right [] m = m
in_right (x ∷ xs) m = there (in_right xs m)

pub in_split : {A : Type 0} {a : A} (xs : List A) {ys : List A} → a ∈ (xs ++ ys) → (a ∈ xs) ⊎ (a ∈ ys)
in_split [] m = inr m
in_split {a} (x ∷ xs) {ys} m = go (in_cases m) (λ h. in_split xs h)
  where
    go : (a ≡ x) ⊎ (a ∈ (xs ++ ys)) → (a ∈ (xs ++ ys) → (a ∈ xs) ⊎ (a ∈ ys)) → (a ∈ (x ∷ xs)) ⊎ (a ∈ ys)
    go (inl e) k = inl (here e)
    go (inr h) k = elim (k h) [ inl u ↦ inl (there u) | inr u ↦ inr u ]

-- What holds of a head and of each of a tail, of each of two lists, and of the one element.
pub in_cons : {A : Type 0} {a d : A} {xs : List A} → a ∈ (d ∷ xs) → (P : A → Type 0) → P d → ((x : A) → x ∈ xs → P x) → P a
in_cons (here q) P p h = subst P (sym q) p
in_cons {a} (there m) P p h = h a m

pub in_both : {A : Type 0} {a : A} (xs : List A) {ys : List A} → a ∈ (xs ++ ys) → (P : A → Type 0)
    → ((x : A) → x ∈ xs → P x) → ((y : A) → y ∈ ys → P y) → P a
in_both {a} xs m P p h = elim (in_split xs m) [ inl k ↦ p a k | inr k ↦ h a k ]

pub in_one : {A : Type 0} {a d : A} → a ∈ (d ∷ []) → (P : A → Type 0) → P d → P a
in_one m P p = in_cons m P p (λ x k. absurd (in_none k))

pub in_map : {A B : Type 0} (f : A → B) {a : A} {xs : List A} → a ∈ xs → f a ∈ map f xs
in_map f (here e) = here (ap f e)
in_map f (there m) = there (in_map f m)

pub of_map : {A B : Type 0} (f : A → B) {b : B} (xs : List A) → b ∈ map f xs → (a : A) × (a ∈ xs) × (b ≡ f a)
of_map f [] m = absurd (in_none m)
of_map {A} {B} f {b} (x ∷ xs) m = go (in_cases m) (λ h. of_map f xs h)
  where
    go : (b ≡ f x) ⊎ (b ∈ map f xs) → (b ∈ map f xs → (a : A) × (a ∈ xs) × (b ≡ f a)) → (a : A) × (a ∈ (x ∷ xs)) × (b ≡ f a)
    go (inl e) k = (x, here refl, e)
    go (inr h) k = let r = k h in (r.0, there r.1, r.2)

pub in_concatMap : {A B : Type 0} (f : A → List B) {a : A} {b : B} {xs : List A} → a ∈ xs → b ∈ f a → b ∈ concatMap f xs
in_concatMap f {b} (here {xs = xs} e) h = in_left (concatMap f xs) (subst (λ y. b ∈ f y) e h)
in_concatMap f (there {x = x} m) h = in_right (f x) (in_concatMap f m h)

pub of_concatMap : {A B : Type 0} (f : A → List B) {b : B} (xs : List A) → b ∈ concatMap f xs → (a : A) × (a ∈ xs) × (b ∈ f a)
of_concatMap f [] m = absurd (in_none m)
of_concatMap {A} {B} f {b} (x ∷ xs) m = go (in_split (f x) m) (λ h. of_concatMap f xs h)
  where
    go : (b ∈ f x) ⊎ (b ∈ concatMap f xs) → (b ∈ concatMap f xs → (a : A) × (a ∈ xs) × (b ∈ f a)) → (a : A) × (a ∈ (x ∷ xs)) × (b ∈ f a)
    go (inl h) k = (x, here refl, h)
    go (inr h) k = let r = k h in (r.0, there r.1, r.2)

-- An element's place in a list.
pub in_around : {A : Type 0} {a : A} {xs : List A} → a ∈ xs → (us : List A) × (vs : List A) × (xs ≡ us ++ (a ∷ vs))
in_around (here {xs = xs} e) = ([], xs, ap (λ y. y ∷ xs) (sym e))
in_around (there {x = x} m) = let h = in_around m in (x ∷ h.0, h.1, ap (λ ys. x ∷ ys) h.2)

-- What a filter keeps.
pub in_filter : {A : Type 0} (p : A → Bool) {x : A} {xs : List A} → x ∈ xs → p x ≡ true → x ∈ filter p xs
in_filter p {x} (here {x = y} {xs = xs} e) h =
    subst (λ l. x ∈ l) (sym (cond-true (p y) (y ∷ filter p xs) (filter p xs) (sym (ap p e) ∙ h))) (here e)
in_filter p {x} (there {x = y} {xs = xs} m) h =
    let k = in_filter p m h in cond_both (p y) (y ∷ filter p xs) (filter p xs) (λ l. x ∈ l) (λ _. there k) (λ _. k)

pub of_filter : {A : Type 0} (p : A → Bool) (x : A) (xs : List A) → x ∈ filter p xs → (x ∈ xs) × (p x ≡ true)
of_filter p x [] m = absurd (in_none m)
of_filter {A} p x (y ∷ xs) m =
    let k = of_filter p x xs in
    cond_both (p y) (y ∷ filter p xs) (filter p xs) (λ l. x ∈ l → (x ∈ (y ∷ xs)) × (p x ≡ true))
    (λ e m. elim (in_cases m) [ inl q ↦ (here q, ap p q ∙ e) | inr h ↦ (there (k h).0, (k h).1) ])
    (λ _ m. (there (k m).0, (k m).1)) m

pub filter_cong : {A : Type 0} (p q : A → Bool) (xs : List A) → ((x : A) → x ∈ xs → p x ≡ q x) → filter p xs ≡ filter q xs
filter_cong p q [] h = refl
filter_cong p q (x ∷ xs) h = ap₂ (λ b ys. cond b (x ∷ ys) ys) (h x (here refl)) (filter_cong p q xs (λ y m. h y (there m)))

-- Lists in which nothing stands twice.
pub distinct_++ : {A : Type 0} (xs ys : List A) → Distinct xs → Distinct ys → ((a : A) → a ∈ xs → a ∈ ys → ⊥) → Distinct (xs ++ ys)
distinct_++ [] ys n m d = m
distinct_++ {A} (x ∷ xs) ys n m d =
    (λ h. elim (in_split xs h) [ inl k ↦ n.0 k | inr k ↦ d x (here refl) k ], distinct_++ xs ys n.1 m (λ a h k. d a (there h) k))

pub distinct_map : {A B : Type 0} (f : A → B) (xs : List A) → ((a b : A) → a ∈ xs → b ∈ xs → f a ≡ f b → a ≡ b) → Distinct xs → Distinct (map f xs)
distinct_map f [] one n = tt
distinct_map f (x ∷ xs) one n = (
  λ m. let h = of_map f xs m in n.0 (subst (λ y. y ∈ xs) (sym (one x h.0 (here refl) (there h.1) h.2)) h.1),
  distinct_map f xs (λ a b p q. one a b (there p) (there q)) n.1,
)

-- Where no two parts have a member in common.
pub distinct_concatMap : {A B : Type 0} (f : A → List B) (xs : List A)
    → ((a c : A) (b : B) → a ∈ xs → c ∈ xs → b ∈ f a → b ∈ f c → a ≡ c) → Distinct xs → ((a : A) → a ∈ xs → Distinct (f a)) → Distinct (concatMap f xs)
distinct_concatMap f [] k n m = tt
distinct_concatMap f (x ∷ xs) k n m =
    distinct_++ (f x) (concatMap f xs) (m x (here refl))
    (distinct_concatMap f xs (λ a c b p q. k a c b (there p) (there q)) n.1 (λ a p. m a (there p)))
    (λ b p q. let h = of_concatMap f xs q in n.0 (subst (λ y. y ∈ xs) (sym (k x h.0 b (here refl) (there h.1) p h.2)) h.1))

pub distinct_filter : {A : Type 0} (p : A → Bool) (xs : List A) → Distinct xs → Distinct (filter p xs)
distinct_filter p [] n = tt
distinct_filter p (x ∷ xs) n =
    let k = distinct_filter p xs n.1 in
    cond_both (p x) (x ∷ filter p xs) (filter p xs) Distinct (λ _. (λ m. n.0 (of_filter p x xs m).0, k)) (λ _. k)

-- Tests of each element, and of some element.
pub every_in : {A : Type 0} (p : A → Bool) {x : A} {xs : List A} → every p xs ≡ true → x ∈ xs → p x ≡ true
every_in p e (here {x = y} {xs = ys} q) = ap p q ∙ (and_parts (p y) (every p ys) e).0
every_in p e (there {x = y} {xs = ys} m) = every_in p (and_parts (p y) (every p ys) e).1 m

pub every_of : {A : Type 0} (p : A → Bool) (xs : List A) → ((x : A) → x ∈ xs → p x ≡ true) → every p xs ≡ true
every_of p [] h = refl
every_of p (x ∷ xs) h = and_from (p x) (every p xs) (h x (here refl)) (every_of p xs (λ y m. h y (there m)))

pub some_in : {A : Type 0} (p : A → Bool) {x : A} {xs : List A} → x ∈ xs → p x ≡ true → some_of p xs ≡ true
some_in p (here {x = y} {xs = ys} q) h = or_left (p y) (some_of p ys) (sym (ap p q) ∙ h)
some_in p (there {x = y} {xs = ys} m) h = or_right (p y) (some_of p ys) (some_in p m h)

pub of_some : {A : Type 0} (p : A → Bool) (xs : List A) → some_of p xs ≡ true → (x : A) × (x ∈ xs) × (p x ≡ true)
of_some p [] e = absurd (false≢true e)
of_some {A} p (y ∷ ys) e = go (or_cases (p y) (some_of p ys) e) (of_some p ys)
  where
    go : (p y ≡ true) ⊎ (some_of p ys ≡ true) → (some_of p ys ≡ true → (x : A) × (x ∈ ys) × (p x ≡ true)) → (x : A) × (x ∈ (y ∷ ys)) × (p x ≡ true)
    go (inl h) k = (y, here refl, h)
    go (inr h) k = let r = k h in (r.0, there r.1, r.2)

pub has_in : (j : ℕ) (xs : List ℕ) → has j xs ≡ true → j ∈ xs
has_in j xs e = let r = of_some (eqb j) xs e in subst (λ k. k ∈ xs) (sym (eqb-true j r.0 r.2)) r.1

pub in_has : {j : ℕ} {xs : List ℕ} → j ∈ xs → has j xs ≡ true
in_has {j} m = some_in (eqb j) m (eq-eqb j j refl)

pub has_not : (j : ℕ) (xs : List ℕ) → (j ∈ xs → ⊥) → has j xs ≡ false
has_not j xs d = false_from_ne_true (has j xs) (λ e. d (has_in j xs e))

-- A test that fails where something holds.
pub not_of : (b : Bool) → not b ≡ true → b ≡ true → ⊥
not_of b p q = both_ways b (not-true b p) q

pub not_in : (b : Bool) → (b ≡ true → ⊥) → not b ≡ true
not_in b h = not_from_false b (false_from_ne_true b h)

-- Two tests that say yes together.
pub same_test : (a b : Bool) → (a ≡ true → b ≡ true) → (b ≡ true → a ≡ true) → a ≡ b
same_test true b f g = sym (f refl)
same_test false true f g = g refl
same_test false false f g = refl

-- Whether two numbers are equal, with the test that tells it.
pub eqb_cases : (m n : ℕ) → ((m ≡ n) × (eqb m n ≡ true)) ⊎ ((m ≡ n → ⊥) × (eqb m n ≡ false))
eqb_cases m n = elim (cases_Bool (eqb m n)) [ inl e ↦ inl (eqb-true m n e, e) | inr e ↦ inr (eqb-false m n e, e) ]

pub cons_of : {A : Type 0} (xs : List A) → (length xs ≡ 0 → ⊥) → (y : A) × (ys : List A) × (xs ≡ y ∷ ys)
cons_of [] d = absurd (d refl)
cons_of (x ∷ xs) d = (x, xs, refl)

-- A filter leaves a list as it was, or makes it shorter.
pub filter_shrinks : {A : Type 0} (p : A → Bool) (xs : List A) → (filter p xs ≡ xs) ⊎ (length (filter p xs) < length xs)
filter_shrinks p [] = inl refl
filter_shrinks p (x ∷ xs) =
    let k = filter_shrinks p xs in
    cond_both (p x) (x ∷ filter p xs) (filter p xs) (λ l. (l ≡ x ∷ xs) ⊎ (length l < suc (length xs)))
    (λ _. elim k [ inl e ↦ inl (ap (λ l. x ∷ l) e) | inr h ↦ inr (omega arith) ])
    (λ _. inr (elim k [ inl e ↦ omega (arith, ap length e) | inr h ↦ omega arith ]))

pub some_more : {A : Type 0} (p : A → Bool) (xs ys : List A) → ((x : A) → x ∈ xs → x ∈ ys)
    → some_of p xs ≡ true → some_of p ys ≡ true
some_more p xs ys h e = let k = of_some p xs e in some_in p (h k.0 k.1) k.2

pub long_since : {A : Type 0} {x : A} {xs : List A} → x ∈ xs → 0 < length xs
long_since (here e) = omega arith
long_since (there m) = omega arith
