-- What a draft holds, and the dictionary that it becomes: words with their disjuncts, and the names of connectors with
-- their numbers.
use Rattle.std.specs.Prelude.{ℕ, suc, ◌<◌, ◌≤◌, Bool, false, cond, ◌||◌, List, [], ◌∷◌, ◌++◌, map, length, Some, None, Option, ◌==◌, slice_index, slice_index_or}
use Rattle.lexicon.specs.Lexicon.{Disjunct, Lexicon, free, side_of}
use Rattle.lexicon.specs.declared.side.Side.{Side}
use Rattle.formula.specs.Tokens.{Name}
use Rattle.written.specs.Matching.{same, names_match}

-- A word with the ways of using it.
pub record Entry : Type 0 where
  pub word : List ℕ
  pub disjuncts : List (Disjunct Name)

-- A name has one number wherever it stands.
pub record Named : Type 0 where
  pub name : Name
  pub number : ℕ

-- Words and names in the order in which they came.
pub record Model : Type 0 where
  pub entries : List Entry
  pub names : List Named

-- Disjuncts as an accepted formula gives them: few, with short lists of short names.
pub record Fitting (ds : List (Disjunct Name)) : Type 0 where
  pub few : length ds ≤ 64
  pub lists : (k : ℕ) (s : Side) → length (side_of (slice_index_or ds k free) s) ≤ 8
  pub names : (k i : ℕ) (s : Side) → length (slice_index_or (side_of (slice_index_or ds k free) s) i []) ≤ 8
  pub bytes : (k i : ℕ) (s : Side) (j : ℕ) → slice_index (slice_index_or (side_of (slice_index_or ds k free) s) i []) j < 256

unfoldable pub among : Name → List Name → Bool
among n [] = false
among n (m ∷ ms) = same n m || among n ms

-- The names that a word's disjuncts mention, in the order in which they are met.
unfoldable pub mentioned : List (Disjunct Name) → List Name
mentioned [] = []
mentioned (d ∷ ds) = d.left ++ (d.right ++ mentioned ds)

-- Of some names those that were not known, each once, in the order in which they are met.
unfoldable pub fresh : (known mentions : List Name) → List Name
fresh known [] = []
fresh known (n ∷ ns) = cond (among n known) (fresh known ns) (n ∷ fresh (known ++ (n ∷ [])) ns)

-- The number of a name, or 0 where it is not among them.
unfoldable pub number_of : List Named → Name → ℕ
number_of [] n = 0
number_of (m ∷ ms) n = cond (same m.name n) m.number (number_of ms n)

-- The number of a name that is among them.
unfoldable pub lookup : List Named → Name → Option ℕ
lookup [] n = None
lookup (m ∷ ms) n = cond (same m.name n) (Some m.number) (lookup ms n)

unfoldable pub name_of : List Named → ℕ → Option Name
name_of [] k = None
name_of (m ∷ ms) k = cond (m.number == k) (Some m.name) (name_of ms k)

abbrev pub both_match : Option Name → Option Name → Bool
both_match None b = false
both_match (Some a) None = false
both_match (Some a) (Some b) = names_match a b

abbrev pub renamed : {A B : Type 0} → (A → B) → Disjunct A → Disjunct B
renamed f d = record { left = map f d.left; right = map f d.right }

abbrev pub no_entry : Entry
no_entry = record { word = []; disjuncts = [] }

-- The dictionary of a model.
abbrev pub lexicon : Model → Lexicon
lexicon m = record {
  words = length m.entries;
  disjuncts = λ w. map (renamed (number_of m.names)) (slice_index_or m.entries w no_entry).disjuncts;
  matches = λ r l. both_match (name_of m.names r) (name_of m.names l);
}

-- The number of the first of some entries, counted from k, that has a word; 65,535 where none has it.
unfoldable pub find_from : ℕ → List Entry → List ℕ → ℕ
find_from k [] w = 65535
find_from k (e ∷ es) w = cond (same e.word w) k (find_from (suc k) es w)

abbrev pub find : Model → List ℕ → ℕ
find m w = find_from 0 m.entries w
