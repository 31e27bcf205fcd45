-- What the entries of a folio's rows stand for: its ledger, and which disjuncts are marked.
use Rattle.std.specs.Prelude.{ℕ, Bool, false, map, slice_index_or}
use Rattle.lexicon.specs.Lexicon.{Lexicon}
use Rattle.linkage.specs.Ledgers.{Ledger, Row, sentence}
use Rattle.linkage.specs.Sentences.{Sentence}
use Rattle.rows.specs.declared.Entry.{Entry}
use Rattle.rows.specs.declared.Rows.{Rows}
use Rattle.rows.specs.declared.sets.DisjunctSet.{DisjunctSet}
use Rattle.rows.specs.Sets.{members}

abbrev pub row : Entry → Row
row e = record { word = e.word; struck = members e.struck }

abbrev pub ledger_of : Rows → Ledger
ledger_of r = map row r.entries.items

abbrev pub sentence_of : Lexicon → Rows → Sentence
sentence_of lex r = sentence lex (ledger_of r)

-- Past the end nothing is marked.
abbrev pub nothing : DisjunctSet
nothing = record { bits = 0 }

-- Whether a disjunct at a position is marked.
abbrev pub marks_of : Rows → (position disjunct : ℕ) → Bool
marks_of r p = members (slice_index_or r.marked.items p nothing)

abbrev pub no_marks : (position disjunct : ℕ) → Bool
no_marks p d = false
