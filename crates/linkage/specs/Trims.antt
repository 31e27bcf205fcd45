-- Trimming: the largest set of disjuncts of which each connector is matched by a connector of a member.
use Rattle.std.specs.Prelude.{◌≡◌, ℕ, zero, suc, ◌-◌, Bool, true, false, ◌&&◌, ◌||◌, List, [], ◌∷◌, map, length, ◌==◌, nat_lt, refl}
use Rattle.linkage.specs.Lists.{◌∈◌, concatMap, every, filter, range, some_of}
use Rattle.linkage.specs.Sentences.{Position, Sentence, asked, position, size, takes, unstruck}

-- A disjunct at a position.
pub record Used : Type 0 where
  pub at : ℕ
  pub number : ℕ

abbrev pub used : (at number : ℕ) → Used
used i k = record { at = i; number = k }

abbrev pub left_of : Sentence → Used → List ℕ
left_of s u = (asked (position s u.at) (takes u.number)).left

abbrev pub right_of : Sentence → Used → List ℕ
right_of s u = (asked (position s u.at) (takes u.number)).right

-- All unstruck disjuncts.
abbrev pub all_used : Sentence → List Used
all_used s = concatMap (λ i. map (used i) (unstruck (position s i))) (range 0 (size s))

-- A right connector of a position is matched by a left connector of a member at a later one, and a left one likewise.
abbrev pub met_right : Sentence → List Used → (i c : ℕ) → Bool
met_right s us i c = some_of (λ v. nat_lt i v.at && some_of (λ d. s.matches c d) (left_of s v)) us

abbrev pub met_left : Sentence → List Used → (i c : ℕ) → Bool
met_left s us i c = some_of (λ v. nat_lt v.at i && some_of (λ d. s.matches d c) (right_of s v)) us

abbrev pub met : Sentence → List Used → Used → Bool
met s us u = every (met_right s us u.at) (right_of s u) && every (met_left s us u.at) (left_of s u)

-- A closed set: unstruck disjuncts, of which each connector is met within the set.
pub record Closed (s : Sentence) (us : List Used) : Type 0 where
  pub unstruck : (u : Used) → u ∈ us → u ∈ all_used s
  pub each_met : (u : Used) → u ∈ us → met s us u ≡ true

-- What is met is kept, again and again; each round but the last leaves something out, so there are enough of them.
abbrev pub rounds : Sentence → ℕ → List Used → List Used
rounds s zero us = us
rounds s (suc n) us = rounds s n (filter (met s us) us)

abbrev pub kept : Sentence → List Used
kept s = rounds s (length (all_used s)) (all_used s)

-- How many disjuncts trim marks where none is marked.
abbrev pub trimmed : Sentence → ℕ
trimmed s = length (all_used s) - length (kept s)

-- A sentence in which the marked disjuncts are struck too: `marks i k` tells whether the disjunct k at the position i is marked.
abbrev pub marked : Position → (marks : ℕ → Bool) → Position
marked p m = record { disjuncts = p.disjuncts; struck = λ k. p.struck k || m k }

abbrev pub all_marked : List Position → (marks : ℕ → ℕ → Bool) → List Position
all_marked [] m = []
all_marked (p ∷ ps) m = marked p (m 0) ∷ all_marked ps (λ i. m (suc i))

abbrev pub with_marks : Sentence → (marks : ℕ → ℕ → Bool) → Sentence
with_marks s m = record { matches = s.matches; positions = all_marked s.positions m }

-- Marks that spare what is kept: no kept disjunct is marked.
abbrev pub Spares : Sentence → (marks : ℕ → ℕ → Bool) → Type 0
Spares s m = (i k : ℕ) → m i k ≡ true → used i k ∈ kept s → ⊥

-- Three words, of which the first has two disjuncts. The disjunct of the second word is left out in the first round, since
-- nothing on its right matches its 2; and the first word's disjunct that only it would meet is left out in the second round.
abbrev example : Sentence
example = record {
  matches = λ a b. a == b;
  positions =
      record { disjuncts = record { left = []; right = 1 ∷ [] } ∷ record { left = []; right = 3 ∷ [] } ∷ []; struck = λ k. false }
      ∷ record { disjuncts = record { left = 1 ∷ []; right = 2 ∷ [] } ∷ []; struck = λ k. false }
      ∷ record { disjuncts = record { left = 3 ∷ []; right = [] } ∷ []; struck = λ k. false } ∷ [];
}

example_round : rounds example 1 (all_used example) ≡ used 0 0 ∷ used 0 1 ∷ used 2 0 ∷ []
example_round = refl

example_kept : (kept example ≡ used 0 1 ∷ used 2 0 ∷ []) × (trimmed example ≡ 2)
example_kept = (refl, refl)
