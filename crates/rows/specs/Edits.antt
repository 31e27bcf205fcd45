-- What a call that edits a folio leaves.
use Rattle.std.specs.Prelude.{◌≡◌, ℕ, ◌<◌, false, List, [], ◌∷◌, ◌++◌, length, Some, Ok, Err, Result, slice_get}
use Rattle.refusal.specs.declared.Refusal.{Refusal}
use Rattle.lexicon.specs.Lexicon.{Lexicon}
use Rattle.linkage.specs.declared.call.Call.{Call}
use Rattle.linkage.specs.Ledgers.{Ledger, found, ledger, step}
use Rattle.rows.specs.declared.Entry.{Entry}
use Rattle.rows.specs.declared.Rows.{Rows}
use Rattle.rows.specs.Answers.{Answer, if_known}
use Rattle.rows.specs.Tables.{ledger_of, marks_of, no_marks}

-- The call goes on with any history: where the ledger before is that of some calls, the ledger after is that of these and the call.
abbrev pub GoesOn : Lexicon → (before after : Ledger) → Call → Type 0
GoesOn lex g h c = (cs : List Call) → g ≡ ledger lex cs → h ≡ ledger lex (cs ++ (c ∷ []))

-- An accepted edit clears every mark, a refused one leaves all as it was.
abbrev pub Cleared : (before after : Rows) → Answer → Type 0
Cleared r s (Ok a) = marks_of s ≡ no_marks
Cleared r s (Err e) = s ≡ r

pub record Edited (lex : Lexicon) (before after : Rows) (call : Call) (answer : Answer) : Type 0 where
  pub stepped : ledger_of after ≡ step lex (ledger_of before) call
  pub history : GoesOn lex (ledger_of before) (ledger_of after) call
  pub cleared : Cleared before after answer

-- What is found where a disjunct is looked for: the entry that has it, or why the ledger does not.
abbrev pub Finds : Lexicon → Rows → (position disjunct : ℕ) → Result Entry Refusal → Type 0
Finds lex r p d (Ok e) = (slice_get r.entries.items p ≡ Some e) × (d < length (lex.disjuncts e.word))
Finds lex r p d (Err e) = (found lex (ledger_of r) p d ≡ false) × ((a : Answer) → Err e ≡ if_known lex (ledger_of r) p d a)
