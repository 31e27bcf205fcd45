-- The tokens of a formula and how each is spelled.
use Rattle.std.specs.Prelude.{ℕ, List, [], ◌∷◌, ◌++◌}
use Rattle.lexicon.specs.declared.side.Side.{Side}
use Rattle.lexicon.specs.declared.side.Side.TheVariants.{Left, Right}
use Rattle.formula.specs.declared.token.Join.{Join}
use Rattle.formula.specs.declared.token.Join.TheVariants.{And, Or}
use Rattle.formula.specs.declared.token.Bracket.{Bracket}
use Rattle.formula.specs.declared.token.Bracket.TheVariants.{Round, Brace}
use Rattle.formula.specs.declared.token.Token.{Token}
use Rattle.formula.specs.declared.token.Token.TheVariants as lent

abbrev pub Name : Type 0
Name = List ℕ

-- A token by what it says; the program's own token lends the name from the formula's bytes.
pub data Word : Type 0 where
  mark : Join → Word
  open_with : Bracket → Word
  close_with : Bracket → Word
  connector : Side → Name → Word

abbrev pub said : Token → Word
said (lent.Mark j) = mark j
said (lent.Open b) = open_with b
said (lent.Close b) = close_with b
said (lent.Connector name side) = connector side name.now

abbrev pub sign : Side → ℕ
sign Right = 43
sign Left = 45

abbrev pub spelled : Word → List ℕ
spelled (mark And) = 38 ∷ []
spelled (mark Or) = 111 ∷ 114 ∷ []
spelled (open_with Round) = 40 ∷ []
spelled (open_with Brace) = 123 ∷ []
spelled (close_with Round) = 41 ∷ []
spelled (close_with Brace) = 125 ∷ []
spelled (connector s n) = n ++ (sign s ∷ [])
