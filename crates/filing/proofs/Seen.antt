-- How the linkages of a ledger see its positions.
use Rattle.std.proofs.Common.{◌≡◌, ℕ, ◌<◌, ◌≤◌, map, length, arith}
use lib.ListN.{get_or-eq_default, length-map}
use Rattle.std.proofs.lemmas.List.{get_or-map}
use Rattle.lexicon.specs.Lexicon.{Lexicon}
use Rattle.linkage.specs.Ledgers.{Ledger, fresh, row_at, seen, sentence}
use Rattle.linkage.specs.Sentences.{nowhere, position, size}

pub size_seen : (lex : Lexicon) (g : Ledger) → size (sentence lex g) ≡ length g
size_seen lex g = length-map g (seen lex)

module _ (lex : Lexicon) (g : Ledger) (i : ℕ) where
  pub position_there : i < length g → position (sentence lex g) i ≡ seen lex (row_at g i)
  position_there h = get_or-map (seen lex) g i (fresh 0) nowhere h

  pub position_past : length g ≤ i → position (sentence lex g) i ≡ nowhere
  position_past h = get_or-eq_default (map (seen lex) g) nowhere (let n = size_seen lex g in omega arith)
