-- What is said of lists: what stands in them, that nothing stands twice, and the lists of positions.
use Rattle.std.specs.Prelude.{◌≡◌, ℕ, zero, suc, ◌-◌, Bool, true, false, cond, List, [], ◌∷◌, ◌++◌, map, ◌==◌, nat_eq, refl}
use Rattle.std.proofs.Math.Option.{Option, none, some}
-- The library's words, by the names that the definitions of linkages use.
pub use Rattle.std.specs.List.{filter, flat_map as concatMap, list_all as every, list_any as some_of}

infixl 25 ◌∈◌
pub data ◌∈◌ {A : Type 0} (a : A) : List A → Type 0 where
  here : {x : A} {xs : List A} → a ≡ x → a ∈ (x ∷ xs)
  there : {x : A} {xs : List A} → a ∈ xs → a ∈ (x ∷ xs)

-- Nothing stands twice.
abbrev pub Distinct : {A : Type 0} → List A → Type 0
Distinct [] = Unit {0}
Distinct (x ∷ xs) = (x ∈ xs → ⊥) × Distinct xs

abbrev pub empty : {A : Type 0} → List A → Bool
empty [] = true
empty (x ∷ xs) = false

abbrev pub has : ℕ → List ℕ → Bool
has j xs = some_of (nat_eq j) xs

-- How many stand before the first j.
abbrev pub place_of : ℕ → List ℕ → ℕ
place_of j [] = 0
place_of j (x ∷ xs) = cond (j == x) 0 (suc (place_of j xs))

-- a, a + 1, .. : n numbers.
abbrev pub range : (a n : ℕ) → List ℕ
range a zero = []
range a (suc n) = a ∷ range (suc a) n

-- The numbers below n, the largest first.
abbrev pub falling : ℕ → List ℕ
falling zero = []
falling (suc n) = n ∷ falling n

-- The numbers between L and R, both left out.
abbrev pub between : (L R : ℕ) → List ℕ
between L R = range (suc L) (R - suc L)

-- Every list that leaves out some of the elements, or none.
abbrev pub sublists : {A : Type 0} → List A → List (List A)
sublists [] = [] ∷ []
sublists (x ∷ xs) = map (λ ys. x ∷ ys) (sublists xs) ++ sublists xs

-- What stands before the last element, and the last element.
abbrev pub onto : {A : Type 0} → A → Option (List A × A) → Option (List A × A)
onto x none = some ([], x)
onto x (some (ys, y)) = some (x ∷ ys, y)

abbrev pub back : {A : Type 0} → List A → Option (List A × A)
back [] = none
back (x ∷ xs) = onto x (back xs)

example_back : back {A = ℕ} (7 ∷ 8 ∷ 9 ∷ []) ≡ some (7 ∷ 8 ∷ [], 9)
example_back = refl

example_place_of : (place_of 8 (7 ∷ 8 ∷ 9 ∷ []) ≡ 1) × (between 3 6 ≡ 4 ∷ 5 ∷ []) × (falling 3 ≡ 2 ∷ 1 ∷ 0 ∷ [])
example_place_of = (refl, refl, refl)
