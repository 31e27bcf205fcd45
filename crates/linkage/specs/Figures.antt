-- Sentences with known figures, over a small dictionary: Ways, the fewest null links with their count, and what trim marks.
use Rattle.std.specs.Prelude.{◌≡◌, ℕ, List, [], ◌∷◌, map, length, nat_eq, slice_index_or}
use Rattle.tally.specs.FewestWays.{fewest_ways, fewest_ways_tally}
use Rattle.tally.specs.Ways.{ways, ways_tally}
use Rattle.lexicon.specs.Lexicon.{Disjunct, Lexicon}
use Rattle.linkage.specs.Ledgers.{Ledger, ledger, sentence, step}
use Rattle.linkage.specs.declared.call.Call.TheVariants.{Add, Strike}
use Rattle.linkage.specs.Sentences.{Sentence}
use Rattle.linkage.specs.Sums.{total}
use Rattle.linkage.specs.Trims.{trimmed}

-- The connectors by their names; a name matches itself alone.
abbrev A : ℕ
A = 0

abbrev D : ℕ
D = 1

abbrev O : ℕ
O = 2

abbrev S : ℕ
S = 3

abbrev X : ℕ
X = 4

abbrev asks : (left right : List ℕ) → Disjunct ℕ
asks l r = record { left = l; right = r }

-- `{A-} & D- & (O- or S+)`
abbrev noun : List (Disjunct ℕ)
noun = asks (A ∷ D ∷ O ∷ []) [] ∷ asks (A ∷ D ∷ []) (S ∷ []) ∷ asks (D ∷ O ∷ []) [] ∷ asks (D ∷ []) (S ∷ []) ∷ []

-- The words by their numbers, and what each may ask for.
abbrev one : ℕ
one = 0

abbrev red : ℕ
red = 1

abbrev pen : ℕ
pen = 2

abbrev lamp : ℕ
lamp = 3

abbrev fell : ℕ
fell = 4

abbrev hit : ℕ
hit = 5

abbrev well : ℕ
well = 6

abbrev p : ℕ
p = 7

abbrev q : ℕ
q = 8

abbrev entries : List (List (Disjunct ℕ))
entries =
    (asks [] (D ∷ []) ∷ [])
    ∷ (asks [] (A ∷ []) ∷ [])
    ∷ noun
    ∷ noun
    ∷ (asks (S ∷ []) [] ∷ [])
    ∷ (asks (S ∷ []) (O ∷ []) ∷ [])
    ∷ (asks [] [] ∷ [])
    ∷ (asks [] (X ∷ X ∷ []) ∷ [])
    ∷ (asks (X ∷ X ∷ []) [] ∷ [])
    ∷ []

abbrev pub known : Lexicon
known = record { words = length entries; disjuncts = λ w. slice_index_or entries w []; matches = nat_eq }

-- What some words make of a new folio that are added one by one.
abbrev said : List ℕ → Ledger
said ws = ledger known (map Add ws)

abbrev pub one_pen_fell : Sentence
one_pen_fell = sentence known (said (one ∷ pen ∷ fell ∷ []))

-- The same with the disjunct 3 of `pen` struck.
abbrev pub pen_struck : Sentence
pen_struck = sentence known (step known (said (one ∷ pen ∷ fell ∷ [])) (Strike 1 3))

abbrev pub one_red_pen_hit_one_lamp : Sentence
one_red_pen_hit_one_lamp = sentence known (said (one ∷ red ∷ pen ∷ hit ∷ one ∷ lamp ∷ []))

abbrev pub one_one_pen_fell : Sentence
one_one_pen_fell = sentence known (said (one ∷ one ∷ pen ∷ fell ∷ []))

abbrev pub pen_fell : Sentence
pen_fell = sentence known (said (pen ∷ fell ∷ []))

abbrev pub just_fell : Sentence
just_fell = sentence known (said (fell ∷ []))

abbrev pub just_well : Sentence
just_well = sentence known (said (well ∷ []))

abbrev pub p_q : Sentence
p_q = sentence known (said (p ∷ q ∷ []))

-- The sums over all partial linkages, in Ways and in Fewest-ways.
abbrev pub Figures : Sentence → (legal null count : ℕ) → Type 0
Figures s l n c = (total ways_tally s ≡ ways l) × (total fewest_ways_tally s ≡ fewest_ways n c)

abbrev pub KnownFigures : Type 0
KnownFigures =
    Figures one_pen_fell 1 0 1
    × Figures pen_struck 0 2 1
    × Figures one_red_pen_hit_one_lamp 1 0 1
    × Figures one_one_pen_fell 0 1 2
    × Figures pen_fell 0 1 1
    × Figures just_fell 0 0 1
    × Figures just_well 1 0 2
    × Figures p_q 0 1 1
    × (trimmed one_pen_fell ≡ 3)
    × (trimmed pen_fell ≡ 5)
