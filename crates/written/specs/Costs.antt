-- How many cells of the table a line takes.
use Rattle.std.specs.Prelude.{ℕ, ◌+◌, ◌*◌, List, [], ◌∷◌, length}
use Rattle.lexicon.specs.Lexicon.{Disjunct}
use Rattle.formula.specs.Tokens.{Name}
use Rattle.written.specs.Model.{mentioned}

-- Each of some words or names takes some cells, and one for each of its bytes.
unfoldable pub each_takes : ℕ → List (List ℕ) → ℕ
each_takes n [] = 0
each_takes n (w ∷ ws) = n + length w + each_takes n ws

-- A line takes 4 cells, each word 4, each disjunct 3, each name that was not met before 2, and one more is taken by each
-- byte of these words and names and by each connector of these disjuncts.
abbrev pub line_cost : (words : List (List ℕ)) → List (Disjunct Name) → (new : List Name) → ℕ
line_cost words ds new = 4 + each_takes 4 words + 3 * length ds + length (mentioned ds) + each_takes 2 new
