-- What each call on a folio answers, by the ledger that it finds: its result, or the first of its refusals.
use Rattle.std.specs.Prelude.{ℕ, ◌-◌, Bool, cond, not, length, Ok, Err, Result, ◌==◌, nat_lt}
use Rattle.refusal.specs.declared.Refusal.{Refusal}
use Rattle.refusal.specs.declared.Refusal.TheVariants.{FolioFull, NoWords, NoPosition, NoDisjunct}
use Rattle.lexicon.specs.Lexicon.{Lexicon}
use Rattle.linkage.specs.Ledgers.{Ledger, most_words, row_at, seen}
use Rattle.linkage.specs.Sentences.{unstruck}
use Rattle.linkage.specs.Trims.{marked}

abbrev pub Answer : Type 0
Answer = Result ℕ Refusal

-- The position of the new word.
abbrev pub added : Ledger → Answer
added g = cond (nat_lt (length g) most_words) (Ok (length g)) (Err FolioFull)

-- The word that was last.
abbrev pub dropped : Ledger → Answer
dropped g = cond (length g == 0) (Err NoWords) (Ok (row_at g (length g - 1)).word)

abbrev pub if_there : Ledger → (position : ℕ) → Answer → Answer
if_there g p a = cond (nat_lt p (length g)) a (Err NoPosition)

abbrev pub word_of : Ledger → (position : ℕ) → Answer
word_of g p = if_there g p (Ok (row_at g p).word)

-- The word that stood there.
abbrev pub changed : Ledger → (position : ℕ) → Answer
changed g p = word_of g p

abbrev pub if_known : Lexicon → Ledger → (position disjunct : ℕ) → Answer → Answer
if_known lex g p d a = if_there g p (cond (nat_lt d (length (lex.disjuncts (row_at g p).word))) a (Err NoDisjunct))

abbrev pub counted : Bool → ℕ
counted b = cond b 1 0

-- How many strikes were set: 1, or 0 where it was struck already.
abbrev pub newly_struck : Lexicon → Ledger → (position disjunct : ℕ) → Answer
newly_struck lex g p d = if_known lex g p d (Ok (counted (not ((row_at g p).struck d))))

-- How many strikes were cleared: 1, or 0 where it was not struck.
abbrev pub newly_allowed : Lexicon → Ledger → (position disjunct : ℕ) → Answer
newly_allowed lex g p d = if_known lex g p d (Ok (counted ((row_at g p).struck d)))

-- How many disjuncts at a position are neither struck nor marked.
abbrev pub standing_of : Lexicon → Ledger → (marks : ℕ → ℕ → Bool) → (position : ℕ) → Answer
standing_of lex g m p = if_there g p (Ok (length (unstruck (marked (seen lex (row_at g p)) (m p)))))
