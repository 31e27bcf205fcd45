-- What is shown of these definitions. Each statement is the contract of a function of `laws`.
use Rattle.std.specs.Prelude.{◌≡◌, ℕ, ◌-◌, ◌*◌, ◌<◌, ◌≤◌, Bool, ◌↔◌, List, length}
use Rattle.tally.specs.Semiring.{Semiring}
use Rattle.linkage.specs.Inside.{Solves, Table, top, whole}
use Rattle.linkage.specs.Lists.{◌∈◌, Distinct}
use Rattle.linkage.specs.Linkages.{Linkage, Partial, choice_at, linkages, links}
use Rattle.linkage.specs.Parts.{Heads, Joined, heads, label}
use Rattle.linkage.specs.Sentences.{Sentence, size, takes}
use Rattle.linkage.specs.Sums.{total}
use Rattle.linkage.specs.Trims.{Closed, Spares, Used, kept, used, with_marks}

-- `linkages` has exactly the partial linkages, each once.
abbrev pub EachListedOnce : Type 0
EachListedOnce = (s : Sentence) → ((x : Linkage) → (x ∈ linkages s) ↔ Partial s x) × Distinct (linkages s)

-- Labels tell which positions links hold together, and `heads` has one position of each part.
abbrev pub PartsAreClasses : Type 0
PartsAreClasses =
    (es : List (ℕ × ℕ)) (n : ℕ) → ((u v : ℕ) → (label es u ≡ label es v) ↔ Joined es u v) × Heads es n (heads es n)

-- The inside recursion gives the sum over all partial linkages, and so does every table that meets the region equations.
abbrev pub InsideIsTotal : {V : Type 0} → Semiring V → Type 0
InsideIsTotal {V} t =
    (s : Sentence) → 0 < size s → (whole t s ≡ total t s) × ((v : Table V) → Solves t s v → top t s v ≡ total t s)

-- What trim keeps is closed, holds every closed set, and holds each disjunct that a partial linkage takes.
abbrev pub KeptIsLargest : Type 0
KeptIsLargest =
    (s : Sentence) → Closed s (kept s) × ((us : List Used) → Closed s us → (u : Used) → u ∈ us → u ∈ kept s)
    × ((x : Linkage) → Partial s x → (i k : ℕ) → i < size s → choice_at x i ≡ takes k → used i k ∈ kept s)

-- Marks on disjuncts that trim does not keep leave the sum as it is.
abbrev pub MarksAreFree : {V : Type 0} → Semiring V → Type 0
MarksAreFree t = (s : Sentence) (marks : ℕ → ℕ → Bool) → Spares s marks → total t (with_marks s marks) ≡ total t s

-- A partial linkage of n positions has at most 2 n - 3 links, and none where n is 1.
abbrev pub FewLinks : Type 0
FewLinks = (s : Sentence) → 0 < size s → (x : Linkage) → Partial s x → length (links x) ≤ 2 * size s - 3
