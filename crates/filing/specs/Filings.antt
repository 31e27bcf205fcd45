-- How a filing is judged: choices and links that somebody gives for the words of a sentence.
use Rattle.std.specs.Prelude.{◌≡◌, ℕ, ◌<◌, Bool, true, false, cond, not, ◌&&◌, ◌↔◌, List, [], ◌∷◌, ◌++◌, map, length, Some, None, Ok, Err, Option, Result, ◌==◌, nat_eq, nat_lt, slice_index_or, refl}
use Rattle.refusal.specs.declared.Refusal.{Refusal}
use Rattle.refusal.specs.declared.Refusal.TheVariants.{NoWords, ChoiceCount, NoChoice, StruckChoice, LinkEnds, LinkOrder, Crossing, LinkCount, NoMatch}
use Rattle.linkage.specs.Lists.{every, filter, range}
use Rattle.linkage.specs.Linkages.{Linkage, Partial, Place, full, links, matching, uncrossed}
use Rattle.linkage.specs.Links.{earlier, ends}
use Rattle.linkage.specs.declared.link.Link.{Link}
use Rattle.linkage.specs.Parts.{parts}
use Rattle.linkage.specs.Sentences.{Choice, Position, Sentence, bare, position, size, takes}

-- A choice is filed as a byte: the number of a disjunct, or 255 for bare.
abbrev pub choice_of : ℕ → Choice
choice_of b = cond (b == 255) bare (takes b)

abbrev pub byte_of : Choice → ℕ
byte_of bare = 255
byte_of (takes k) = k

-- The number of the disjunct that is taken, if one is.
abbrev pub number_of : Choice → Option ℕ
number_of bare = None
number_of (takes k) = Some k

-- What is chosen at a position; nothing is, past the end.
abbrev pub chosen : List ℕ → ℕ → Choice
chosen cs i = choice_of (slice_index_or cs i 255)

-- The disjunct that is taken is there, and it is not struck.
abbrev pub there : Position → Choice → Bool
there p bare = true
there p (takes k) = nat_lt k (length p.disjuncts)

abbrev pub allowed : Position → Choice → Bool
allowed p bare = true
allowed p (takes k) = not (p.struck k)

-- The links of a filing, as pairs.
abbrev pub pairs : List Link → List (ℕ × ℕ)
pairs ls = map ends ls

-- The left end comes before the right one, and both are positions.
abbrev pub rises : (n : ℕ) → (ℕ × ℕ) → Bool
rises n e = nat_lt e.0 e.1 && nat_lt e.1 n

-- Each link comes before all that follow.
abbrev pub ordered : List (ℕ × ℕ) → Bool
ordered [] = true
ordered (e ∷ es) = every (earlier e) es && ordered es

-- The linkage that is filed: at each position its choice, and the right ends of the links from there.
abbrev pub row_of : List (ℕ × ℕ) → ℕ → List ℕ
row_of es i = map (λ (e : ℕ × ℕ). e.1) (filter (λ (e : ℕ × ℕ). nat_eq e.0 i) es)

abbrev pub filed : (n : ℕ) → List ℕ → List (ℕ × ℕ) → Linkage
filed n cs es = map (λ i. record { choice = chosen cs i; after = row_of es i }) (range 0 n)

-- The tests in the order of their numbers, each over the whole filing: of the choices alone, of the links alone, and of the linkage.
abbrev pub choice_tests : Sentence → List ℕ → List (Bool × Refusal)
choice_tests s cs =
    (nat_lt 0 (size s), NoWords)
    ∷ ((length cs == size s), ChoiceCount)
    ∷ (every (λ i. there (position s i) (chosen cs i)) (range 0 (size s)), NoChoice)
    ∷ (every (λ i. allowed (position s i) (chosen cs i)) (range 0 (size s)), StruckChoice)
    ∷ []

abbrev pub link_tests : (n : ℕ) → List (ℕ × ℕ) → List (Bool × Refusal)
link_tests n es = (every (rises n) es, LinkEnds) ∷ (ordered es, LinkOrder) ∷ []

abbrev pub rule_tests : Sentence → Linkage → List (Bool × Refusal)
rule_tests s x = (uncrossed x, Crossing) ∷ (full s x, LinkCount) ∷ (matching s x, NoMatch) ∷ []

abbrev pub tests : Sentence → List ℕ → List (ℕ × ℕ) → List (Bool × Refusal)
tests s cs es = choice_tests s cs ++ (link_tests (size s) es ++ rule_tests s (filed (size s) cs es))

-- The refusal of the first test that fails.
abbrev pub judged : {A : Type 0} → List (Bool × Refusal) → A → Result A Refusal
judged [] a = Ok a
judged (t ∷ ts) a = cond t.0 (judged ts a) (Err t.1)

-- Whether each test passes, or that refusal.
abbrev pub tested : List (Bool × Refusal) → Result (Unit {0}) Refusal
tested ts = judged ts tt

-- The answer to a filing: its number of parts, or its first refusal.
abbrev pub checked : Sentence → List ℕ → List (ℕ × ℕ) → Result ℕ Refusal
checked s cs es = judged (tests s cs es) (parts (filed (size s) cs es))

-- A filing is a partial linkage where its choices and its links are those of the linkage.
pub record Files (s : Sentence) (cs : List ℕ) (es : List (ℕ × ℕ)) (x : Linkage) : Type 0 where
  pub partial : Partial s x
  pub choices : map (λ (p : Place). byte_of p.choice) x ≡ cs
  pub links_are : links x ≡ es

-- A filing is accepted with a number of parts exactly where it is a partial linkage that has so many.
abbrev pub JudgedRight : Sentence → List ℕ → List (ℕ × ℕ) → Type 0
JudgedRight s cs es =
    0 < size s → (p : ℕ) → (checked s cs es ≡ Ok p) ↔ ((x : Linkage) × Files s cs es x × (parts x ≡ p))

-- Links by rising left, then right end; and no link twice.
example_ordered :
    (ordered ((0, 1) ∷ (0, 2) ∷ (1, 2) ∷ []) ≡ true) × (ordered ((0, 2) ∷ (0, 1) ∷ []) ≡ false) × (ordered ((0, 1) ∷ (0, 1) ∷ []) ≡ false)
example_ordered = (refl, refl, refl)

example_row : row_of ((0, 1) ∷ (0, 2) ∷ (1, 2) ∷ []) 0 ≡ 1 ∷ 2 ∷ []
example_row = refl
