-- What a written dictionary holds and means.
use Rattle.std.specs.Prelude.{ℕ}
use Rattle.lexicon.specs.Lexicon.{Lexicon}
use Rattle.written.specs.Model.{lexicon}
use Rattle.written.specs.Pages.{store, taken}
use Rattle.written.specs.Store.{Store, model}
use Rattle.written.specs.declared.closed.Written.{Written}

abbrev pub written : Written → Store
written w = store w.table.now w.used w.words

abbrev pub written_lexicon : Written → Lexicon
written_lexicon w = lexicon (model (written w))

-- How many cells of its table a dictionary takes.
abbrev pub spent : Written → ℕ
spent w = taken w.used w.words
