-- Formulas as trees, and the row of tokens that each tree is written as.
--
-- An item is a connector, an empty pair of round brackets, or a formula in brackets or braces.
-- A formula is one item, or two or more items all joined by `&`, or all joined by `or`.
use Rattle.std.specs.Prelude.{ℕ, ◌+◌, max, List, [], ◌∷◌, ◌++◌}
use Rattle.lexicon.specs.declared.side.Side.{Side}
use Rattle.formula.specs.declared.token.Join.{Join}
use Rattle.formula.specs.declared.token.Bracket.{Bracket}
use Rattle.formula.specs.declared.token.Bracket.TheVariants.{Round}
use Rattle.formula.specs.Tokens.{Name, Word, mark, open_with, close_with, connector}

mutual
  pub data Formula : Type 0 where
    one : Item → Formula
    row : Join → Items → Item → Formula

  pub data Item : Type 0 where
    named : Side → Name → Item
    empty : Item
    within : Bracket → Formula → Item

  -- The items of a row before its last.
  pub data Items : Type 0 where
    first : Item → Items
    then : Items → Item → Items

-- The items of a formula, as those before the last of a longer one.
abbrev pub items_in : Formula → Items
items_in (one i) = first i
items_in (row j is i) = then is i

-- A formula with one item more, joined by a mark.
abbrev pub longer : Formula → Join → Item → Formula
longer f j i = row j (items_in f) i

unfoldable mutual
  pub tokens : Formula → List Word
  tokens (one i) = item_tokens i
  tokens (row j is i) = row_tokens j is ++ (mark j ∷ item_tokens i)

  pub item_tokens : Item → List Word
  item_tokens (named s n) = connector s n ∷ []
  item_tokens empty = open_with Round ∷ close_with Round ∷ []
  item_tokens (within b f) = open_with b ∷ (tokens f ++ (close_with b ∷ []))

  pub row_tokens : Join → Items → List Word
  row_tokens j (first i) = item_tokens i
  row_tokens j (then is i) = row_tokens j is ++ (mark j ∷ item_tokens i)

unfoldable mutual
  -- How deep brackets and braces nest; an empty pair counts as one.
  pub depth : Formula → ℕ
  depth (one i) = item_depth i
  depth (row j is i) = max (row_depth is) (item_depth i)

  pub item_depth : Item → ℕ
  item_depth (named s n) = 0
  item_depth empty = 1
  item_depth (within b f) = 1 + depth f

  pub row_depth : Items → ℕ
  row_depth (first i) = item_depth i
  row_depth (then is i) = max (row_depth is) (item_depth i)
