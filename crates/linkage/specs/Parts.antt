-- The parts of a linkage: the groups of words that links hold together.
use Rattle.std.specs.Prelude.{◌≡◌, ℕ, ◌-◌, ◌<◌, Bool, true, false, cond, not, ◌&&◌, List, [], ◌∷◌, length, ◌==◌, refl}
use Rattle.linkage.specs.Lists.{◌∈◌, Distinct, every, filter, range}
use Rattle.linkage.specs.Linkages.{Linkage, Place, links}
use Rattle.linkage.specs.Sentences.{Choice, bare, takes}

-- Held together by links: the least equivalence that holds between linked positions.
pub data Joined (es : List (ℕ × ℕ)) : ℕ → ℕ → Type 0 where
  link : {u v : ℕ} → (u, v) ∈ es → Joined es u v
  alone : {u : ℕ} → Joined es u u
  turned : {u v : ℕ} → Joined es v u → Joined es u v
  chained : {u v w : ℕ} → Joined es u v → Joined es v w → Joined es u w

-- One position of each part of n positions.
pub record Heads (es : List (ℕ × ℕ)) (n : ℕ) (hs : List ℕ) : Type 0 where
  pub distinct : Distinct hs
  pub within : (h : ℕ) → h ∈ hs → h < n
  pub some_head : (u : ℕ) → u < n → (h : ℕ) × (h ∈ hs) × Joined es h u
  pub one_head : (h k : ℕ) → h ∈ hs → k ∈ hs → Joined es h k → h ≡ k

-- A name for the part of a position, by merging two parts at each link.
abbrev pub label : List (ℕ × ℕ) → ℕ → ℕ
label [] i = i
label (e ∷ es) i = cond (label es i == label es e.1) (label es e.0) (label es i)

-- No position from p on and before u is in the part of u.
abbrev pub leads : List (ℕ × ℕ) → (p u : ℕ) → Bool
leads es p u = every (λ v. not (label es v == label es u)) (range p (u - p))

-- The first positions of the parts.
abbrev pub heads : List (ℕ × ℕ) → ℕ → List ℕ
heads es n = filter (leads es 0) (range 0 n)

abbrev pub parts : Linkage → ℕ
parts x = length (heads (links x) (length x))

abbrev pub null_links : Linkage → ℕ
null_links x = parts x - 1

abbrev pub is_bare : Choice → Bool
is_bare bare = true
is_bare (takes k) = false

abbrev pub bare_words : Linkage → ℕ
bare_words x = length (filter (λ (p : Place). is_bare p.choice) x)

-- One part and no bare word.
abbrev pub legal : Linkage → Bool
legal x = null_links x == 0 && bare_words x == 0

-- Five positions with links from 0 to 2 and from 2 to 4: the parts are 0 2 4, 1, and 3.
example_heads : heads ((0, 2) ∷ (2, 4) ∷ []) 5 ≡ 0 ∷ 1 ∷ 3 ∷ []
example_heads = refl
