-- Which names of connectors match.
use Rattle.std.specs.Prelude.{◌≡◌, ℕ, ◌≤◌, Bool, true, false, ◌&&◌, ◌||◌, ◌⊎◌, List, [], ◌∷◌, take, drop, ◌==◌, slice_index_or}
use Rattle.std.specs.List.{prefix_len}
use Rattle.formula.specs.Cuts.{capital}
use Rattle.formula.specs.Tokens.{Name}

-- Whether two rows of bytes are the same.
unfoldable pub same : List ℕ → List ℕ → Bool
same [] [] = true
same [] (y ∷ ys) = false
same (x ∷ xs) [] = false
same (x ∷ xs) (y ∷ ys) = x == y && same xs ys

-- A name is its capitals and its ending.
abbrev pub capitals : Name → List ℕ
capitals n = take (prefix_len capital n) n

abbrev pub ending : Name → List ℕ
ending n = drop (prefix_len capital n) n

-- Two letters agree when they are the same or one of them is `*`.
abbrev pub agree : ℕ → ℕ → Bool
agree x y = x == y || (x == 42 || y == 42)

-- Both endings are continued with `*`, which agrees with every letter.
unfoldable pub endings_match : List ℕ → List ℕ → Bool
endings_match [] ys = true
endings_match (x ∷ xs) [] = true
endings_match (x ∷ xs) (y ∷ ys) = agree x y && endings_match xs ys

-- Names match when their capitals are equal and their endings agree place by place.
abbrev pub names_match : Name → Name → Bool
names_match a b = same (capitals a) (capitals b) && endings_match (ending a) (ending b)

-- The same in the subject's words: the capitals are equal, and from there on, with both names continued by stars, the
-- letters at each place are equal or one of them is a star.
abbrev pub Agree : ℕ → ℕ → Type 0
Agree x y = (x ≡ y) ⊎ ((x ≡ 42) ⊎ (y ≡ 42))

abbrev pub Matching : Name → Name → Type 0
Matching a b = (capitals a ≡ capitals b) × ((i : ℕ) → prefix_len capital a ≤ i → Agree (slice_index_or a i 42) (slice_index_or b i 42))
