-- What a draft holds, as a curator sees it, and what giving it a line or a text does.
use Rattle.std.specs.Prelude.{◌≡◌, ℕ, suc, ◌+◌, ◌<◌, cond, ◌||◌, List, [], ◌∷◌, ◌++◌, map, length, Some, None, Ok, Err, Option, Result, nat_lt, slice_index_or}
use Rattle.refusal.specs.declared.Refusal.TheVariants.{LineForm, WordTaken, TableShort}
use Rattle.refusal.specs.declared.fault.Fault.{Fault}
use Rattle.refusal.specs.Faults.{in_text, of_line, then}
use Rattle.formula.specs.Meaning.{meaning}
use Rattle.formula.specs.Tokens.{Name}
use Rattle.formula.specs.Ways.{Way}
use Rattle.written.specs.declared.draft.Draft.{Draft}
use Rattle.refusal.specs.declared.fault.LineFault.{LineFault}
use Rattle.written.specs.declared.page.Page.{Page}
use Rattle.written.specs.Costs.{line_cost}
use Rattle.written.specs.Lines.{any_known, formula_part, good_line, line_words}
use Rattle.written.specs.Model.{Entry, Named, fresh, mentioned}
use Rattle.written.specs.Pages.{limit, page_store, store, taken}
use Rattle.written.specs.Store.{Store, model, names_of}

-- Words with their disjuncts and names, each in the order in which they came, and how many cells they took.
pub record Book : Type 0 where
  pub entries : List Entry
  pub names : List Name
  pub spent : ℕ

abbrev pub empty_book : Book
empty_book = record { entries = []; names = []; spent = 0 }

-- A book with a line's words more, all with the line's disjuncts.
abbrev pub with_words : Book → List (List ℕ) → List Way → Book
with_words b words ds = record {
  entries = b.entries ++ map (λ w. record { word = w; disjuncts = ds }) words;
  names = b.names ++ fresh b.names (mentioned ds);
  spent = b.spent + line_cost words ds (fresh b.names (mentioned ds));
}

-- The words must be new, and there must be room for them: cells enough, and at most 256 words.
abbrev pub entered : (limit : ℕ) → Book → List (List ℕ) → List Way → Result Book LineFault
entered lim b words ds =
    cond (any_known (map (λ (e : Entry). e.word) b.entries) words) (Err (of_line WordTaken))
    (cond (nat_lt lim (with_words b words ds).spent || nat_lt 256 (length (with_words b words ds).entries)) (Err (of_line TableShort))
    (Ok (with_words b words ds)))

-- What a line makes of a book over a table of so many cells: first its form is judged, then its formula, then its words.
abbrev pub lined : (limit : ℕ) → Book → List ℕ → Result Book LineFault
lined lim b line =
    cond (good_line line)
    (then (meaning (formula_part line)) (λ ds. entered lim b (line_words line) ds))
    (Err (of_line LineForm))

-- What a text makes of a book, line by line from a line's number on, up to the first that is refused.
pub record Outcome : Type 0 where
  pub book : Book
  pub fault : Option Fault

abbrev pub next_line : ℕ → Book → Result Book LineFault → (Book → Outcome) → Outcome
next_line k b (Ok c) rest = rest c
next_line k b (Err e) rest = record { book = b; fault = Some (in_text k e) }

unfoldable pub texted : (limit k : ℕ) → Book → List (List ℕ) → Outcome
texted lim k b [] = record { book = b; fault = None }
texted lim k b (l ∷ ls) = next_line k b (lined lim b l) (λ c. texted lim (suc k) c ls)

-- The book of a store that took so many cells; a draft's store, its book, and the cells that it may use.
abbrev pub book_of : Store → ℕ → Book
book_of s spent = record { entries = (model s).entries; names = names_of s; spent = spent }

abbrev pub page_book : Page → Book
page_book p = book_of (page_store p) (taken p.used p.words)

abbrev pub drafted : Draft → Store
drafted d = store d.page.table.now d.page.used d.page.words

abbrev pub book : Draft → Book
book d = book_of (drafted d) (taken d.page.used d.page.words)

abbrev pub cells_of : Draft → ℕ
cells_of d = limit d.page.table.now

-- The new book where a line was accepted, and the refusal where it was not.
abbrev pub answered : Result Unit LineFault → Book → Result Book LineFault
answered (Ok x) b = Ok b
answered (Err e) b = Err e

abbrev pub unnamed : Named
unnamed = record { name = []; number = 0 }

-- Nothing of a page has changed.
abbrev pub SamePage : Page → Page → Type 0
SamePage p q = (q.table.now ≡ p.table.now) × (q.used ≡ p.used) × (q.words ≡ p.words)

-- Where a line was refused nothing has changed; where it was accepted the names that were there keep their numbers.
abbrev pub LeftBehind : Page → Page → Result Unit LineFault → Type 0
LeftBehind p q (Ok x) = (more : List Named) × ((model (page_store q)).names ≡ (model (page_store p)).names ++ more)
LeftBehind p q (Err e) = SamePage p q

-- A name has one number, and a number one name.
abbrev pub OneNumber : List Named → Type 0
OneNumber ns =
    (i j : ℕ) → i < length ns → j < length ns →
    ((slice_index_or ns i unnamed).name ≡ (slice_index_or ns j unnamed).name → i ≡ j) × ((slice_index_or ns i unnamed).number ≡ (slice_index_or ns j unnamed).number → i ≡ j)
