-- What a report counts.
use Rattle.std.specs.Prelude.{ℕ, sum_by, length}
use Rattle.std.specs.List.{range_with_len}
use Rattle.lexicon.specs.Lexicon.{Lexicon}

-- How many disjuncts the words of a dictionary have together.
abbrev pub all_disjuncts : Lexicon → ℕ
all_disjuncts lex = sum_by (λ w. length (lex.disjuncts w)) (range_with_len 0 lex.words)
