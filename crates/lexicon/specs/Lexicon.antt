-- What a dictionary means: its words, the disjuncts of each, and which connectors match.
use Rattle.std.specs.Prelude.{ℕ, Bool, List, [], slice_index_or}
use Rattle.lexicon.specs.declared.side.Side.{Side}
use Rattle.lexicon.specs.declared.side.Side.TheVariants.{Left, Right}

-- One way of using a word: the connectors that it asks for on each side, the nearest first.
pub record Disjunct (Connector : Type 0) : Type 0 where
  pub left : List Connector
  pub right : List Connector

abbrev pub side_of : {C : Type 0} → Disjunct C → Side → List C
side_of d Left = d.left
side_of d Right = d.right

-- The disjunct that asks for nothing.
abbrev pub free : {C : Type 0} → Disjunct C
free = record { left = []; right = [] }

-- The words are the numbers below `words`; a right connector `matches` a left one.
pub record Lexicon : Type 0 where
  pub words : ℕ
  pub disjuncts : ℕ → List (Disjunct ℕ)
  pub matches : (right left : ℕ) → Bool

-- A list of connectors, by word, disjunct and side; past an end it is empty.
abbrev pub list_of : Lexicon → (word disjunct : ℕ) → Side → List ℕ
list_of lex w d s = side_of (slice_index_or (lex.disjuncts w) d free) s
