-- Partial linkages: what they are, the test for them, and the list of all that a sentence has.
use Rattle.std.specs.Prelude.{◌≡◌, ℕ, zero, suc, ◌<◌, Bool, true, false, not, ◌&&◌, List, [], ◌∷◌, ◌++◌, map, length, ◌==◌, nat_lt, slice_index, slice_index_or, refl}
use Rattle.linkage.specs.Lists.{◌∈◌, concatMap, every, falling, filter, has, place_of, range, sublists}
use Rattle.linkage.specs.Sentences.{Choice, Sentence, bare, choices, lefts, rights, size, takes}

-- What is settled at a position: its choice, and the later positions that it links to, rising.
pub record Place : Type 0 where
  pub choice : Choice
  pub after : List ℕ

-- A place for each position. Since rows rise, two linkages are equal exactly when their choices and their links are.
abbrev pub Linkage : Type 0
Linkage = List Place

abbrev pub unlinked : Place
unlinked = record { choice = bare; after = [] }

abbrev pub choice_at : Linkage → ℕ → Choice
choice_at x i = (slice_index_or x i unlinked).choice

-- The positions that i links to on its right, the nearest first.
abbrev pub after : Linkage → ℕ → List ℕ
after x i = (slice_index_or x i unlinked).after

-- The positions that j links to on its left, the nearest first.
abbrev pub before : Linkage → ℕ → List ℕ
before x j = filter (λ i. has j (after x i)) (falling (length x))

-- The connectors that a position asks for on each side, the nearest first.
abbrev pub right_list : Sentence → Linkage → ℕ → List ℕ
right_list s x i = rights s i (choice_at x i)

abbrev pub left_list : Sentence → Linkage → ℕ → List ℕ
left_list s x j = lefts s j (choice_at x j)

-- For a link from i to j: the connector of i, by the place of j among those that i links to, and that of j likewise.
abbrev pub right_end : Sentence → Linkage → (i j : ℕ) → ℕ
right_end s x i j = slice_index (right_list s x i) (place_of j (after x i))

abbrev pub left_end : Sentence → Linkage → (i j : ℕ) → ℕ
left_end s x i j = slice_index (left_list s x j) (place_of i (before x j))

-- Each number is larger than the one before, the first than p, and all are below n.
abbrev pub Rising : (p n : ℕ) → List ℕ → Type 0
Rising p n [] = Unit {0}
Rising p n (j ∷ js) = (p < j) × (j < n) × Rising j n js

-- The three rules. Links do not cross; a word has as many links to each side as it asks for there; the connectors of a
-- link match.
pub record Rules (s : Sentence) (x : Linkage) : Type 0 where
  pub uncrossed : (i j k m : ℕ) → j ∈ after x i → m ∈ after x k → i < k → k < j → j < m → ⊥
  pub full_right : (i : ℕ) → i < size s → length (after x i) ≡ length (right_list s x i)
  pub full_left : (j : ℕ) → j < size s → length (before x j) ≡ length (left_list s x j)
  pub matching : (i j : ℕ) → j ∈ after x i → s.matches (right_end s x i j) (left_end s x i j) ≡ true

-- A partial linkage of a sentence.
pub record Partial (s : Sentence) (x : Linkage) : Type 0 where
  pub places : length x ≡ size s
  pub chosen : (i : ℕ) → i < size s → choice_at x i ∈ choices s i
  pub rising : (i : ℕ) → i < size s → Rising i (size s) (after x i)
  pub rules : Rules s x

-- The links of places of which the first is at position i: by rising left, then right position.
abbrev pub links_from : ℕ → Linkage → List (ℕ × ℕ)
links_from i [] = []
links_from i (p ∷ ps) = map (λ j. (i, j)) p.after ++ links_from (suc i) ps

abbrev pub links : Linkage → List (ℕ × ℕ)
links x = links_from 0 x

-- The three rules as tests.
abbrev pub crosses : (e f : ℕ × ℕ) → Bool
crosses e f = nat_lt e.0 f.0 && (nat_lt f.0 e.1 && nat_lt e.1 f.1)

abbrev pub uncrossed : Linkage → Bool
uncrossed x = every (λ e. every (λ f. not (crosses e f)) (links x)) (links x)

abbrev pub full_at : Sentence → Linkage → ℕ → Bool
full_at s x i = length (after x i) == length (right_list s x i) && length (before x i) == length (left_list s x i)

abbrev pub full : Sentence → Linkage → Bool
full s x = every (full_at s x) (range 0 (size s))

abbrev pub matched : Sentence → Linkage → ℕ × ℕ → Bool
matched s x e = s.matches (right_end s x e.0 e.1) (left_end s x e.0 e.1)

abbrev pub matching : Sentence → Linkage → Bool
matching s x = every (matched s x) (links x)

abbrev pub keeps_rules : Sentence → Linkage → Bool
keeps_rules s x = uncrossed x && (full s x && matching s x)

-- All ways to choose, and to link to later positions, at n positions from i on.
abbrev pub candidates : Sentence → (i n : ℕ) → List Linkage
candidates s i zero = [] ∷ []
candidates s i (suc n) =
    concatMap (λ c. concatMap (λ row. map (λ ps. record { choice = c; after = row } ∷ ps) (candidates s (suc i) n))
    (sublists (range (suc i) n))) (choices s i)

-- Every partial linkage of a sentence, each once.
abbrev pub linkages : Sentence → List Linkage
linkages s = filter (keeps_rules s) (candidates s 0 (size s))

-- Three words that are linked each with each.
abbrev example : Linkage
example =
    record { choice = takes 0; after = 1 ∷ 2 ∷ [] }
    ∷ record { choice = takes 0; after = 2 ∷ [] }
    ∷ record { choice = takes 0; after = [] } ∷ []

example_links : (links example ≡ (0, 1) ∷ (0, 2) ∷ (1, 2) ∷ []) × (before example 2 ≡ 1 ∷ 0 ∷ []) × (uncrossed example ≡ true)
example_links = (refl, refl, refl)

-- Links that share an end do not cross.
example_crosses : (crosses (0, 2) (1, 3) ≡ true) × (crosses (0, 2) (2, 3) ≡ false) × (crosses (0, 3) (1, 3) ≡ false)
example_crosses = (refl, refl, refl)

-- Two words that can be linked: they are, or both are bare.
abbrev pub example_pair : Sentence
example_pair = record {
  matches = λ a b. a == b;
  positions =
      record { disjuncts = record { left = []; right = 7 ∷ [] } ∷ []; struck = λ k. false }
      ∷ record { disjuncts = record { left = 7 ∷ []; right = [] } ∷ []; struck = λ k. false } ∷ [];
}

example_linkages :
    linkages example_pair
    ≡ (unlinked ∷ unlinked ∷ []) ∷ (record { choice = takes 0; after = 1 ∷ [] } ∷ record { choice = takes 0; after = [] } ∷ []) ∷ []
example_linkages = refl
