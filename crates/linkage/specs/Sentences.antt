-- A sentence as its linkages see it: at each position the disjuncts of what stands there, and which of them are struck.
use Rattle.std.specs.Prelude.{◌≡◌, ℕ, Bool, false, not, List, [], ◌∷◌, map, length, ◌==◌, slice_index_or, refl}
use Rattle.lexicon.specs.Lexicon.{Disjunct, free}
use Rattle.linkage.specs.Lists.{filter, range}

-- A set of disjuncts is told by the numbers that are in it.
pub record Position : Type 0 where
  pub disjuncts : List (Disjunct ℕ)
  pub struck : ℕ → Bool

pub record Sentence : Type 0 where
  pub matches : (right left : ℕ) → Bool
  pub positions : List Position

abbrev pub size : Sentence → ℕ
size s = length s.positions

-- Past the end there is nothing to take.
abbrev pub nowhere : Position
nowhere = record { disjuncts = []; struck = λ k. false }

abbrev pub position : Sentence → ℕ → Position
position s i = slice_index_or s.positions i nowhere

-- A word is bare, or takes the disjunct that has a number.
pub data Choice : Type 0 where
  bare : Choice
  takes : ℕ → Choice

-- The numbers of the disjuncts that are not struck.
abbrev pub unstruck : Position → List ℕ
unstruck p = filter (λ k. not (p.struck k)) (range 0 (length p.disjuncts))

-- The options of a position: to be bare, or to take a disjunct that is not struck.
abbrev pub choices : Sentence → ℕ → List Choice
choices s i = bare ∷ map takes (unstruck (position s i))

-- What a position asks for by its choice. A bare word asks for nothing; a disjunct may do so too, and is another choice.
abbrev pub asked : Position → Choice → Disjunct ℕ
asked p bare = free
asked p (takes k) = slice_index_or p.disjuncts k free

abbrev pub lefts : Sentence → ℕ → Choice → List ℕ
lefts s i c = (asked (position s i) c).left

abbrev pub rights : Sentence → ℕ → Choice → List ℕ
rights s i c = (asked (position s i) c).right

-- Three disjuncts, of which the second is struck.
abbrev example : Position
example = record { disjuncts = free ∷ free ∷ record { left = 7 ∷ []; right = [] } ∷ []; struck = λ k. (k == 1) }

example_options : (unstruck example ≡ 0 ∷ 2 ∷ []) × ((asked example (takes 2)).left ≡ 7 ∷ []) × ((asked example bare).left ≡ [])
example_options = (refl, refl, refl)
