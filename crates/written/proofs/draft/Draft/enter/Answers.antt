use Rattle.std.proofs.Common.{◌≡◌, ℕ, ◌+◌, ◌<◌, ◌≤◌, Bool, true, false, ◌||◌, List, [], ◌++◌, length, get_or, Ok, Err, sym, refl, ap, ◌∙◌, subst, arith}
use Rattle.lexicon.specs.Lexicon.{Disjunct, free, side_of}
use Rattle.lexicon.specs.declared.side.Side.{Side}
use Rattle.formula.specs.Shown.{disjuncts_of, spellings}
use Rattle.formula.specs.Tokens.{Name}
use Rattle.written.specs.declared.draft.Draft.{Draft}
use Rattle.written.specs.declared.page.Page.{Page}
use Rattle.written.specs.Costs.{line_cost}
use Rattle.written.specs.Drafts.{Book, book, cells_of, drafted, page_book, with_words}
use Rattle.written.specs.Lines.{pieces, any_known, some_among}
use Rattle.written.specs.Model.{Fitting, Named, fresh, mentioned}
use Rattle.written.specs.Pages.{limit, page_store, taken}
use Rattle.written.specs.Store.{MARK, Store, Whole, fresh_of, known, model, names_of as store_names, with_line}
use Rattle.written.proofs.Entered.{is_taken, is_dear, is_many, is_entered, all_at, words_of}
use Rattle.written.proofs.Found.{length_entries}
use Rattle.written.proofs.Known.{fresh_all}
use Rattle.written.proofs.Lined.{length_front}
use Rattle.written.proofs.Lines.{named_from}
use Rattle.written.proofs.Names.{NamedOk}
use Rattle.written.proofs.Renamed.{all_mentioned}
use Rattle.written.proofs.Stored as stored
use Rattle.written.proofs.Splits.{pieces_some}
use Rattle.written.proofs.Words.{any_known_split, pieces_bytes}
use Rattle.written.proofs.draft.Draft.enter.Goals as goal
use Rattle.written.proofs.draft.Draft.enter.Goals.{then-knows_any-via-then-knows_any, then-knows_any-via-else-knows_any+then-repeats}

-- The words are known or repeated just if the two tests say so.
known_by : (b : Book) (ws : List (List ℕ)) (s t : Bool) → s ≡ some_among (words_of b.entries) ws → t ≡ any_known [] ws →
    any_known (words_of b.entries) ws ≡ s || t
known_by b ws s t e f = any_known_split (words_of b.entries) ws ∙ ap (λ u. u || any_known [] ws) (sym e) ∙ ap (λ u. s || u) (sym f)

or_true : (s : Bool) → s || true ≡ true
or_true true = refl
or_true false = refl

same_book : (b c : Book) → b.entries ≡ c.entries → b.names ≡ c.names → b.spent ≡ c.spent → b ≡ c
same_book b c e n s = λ i. record { entries = e i; names = n i; spent = s i }

-- What is read of a draft is what it holds.
knows : (s t : Store) → s ≡ t → (ws : List (List ℕ)) (r : Bool) → r ≡ some_among (words_of (model s).entries) ws → r ≡ some_among (words_of (model t).entries) ws
knows s t e ws r h = h ∙ ap (λ u. some_among (words_of (model u).entries) ws) e

pub returns-then-knows_any-clause-answer : goal.returns-then-knows_any-clause-answer
returns-then-knows_any-clause-answer c =
    let d = c.args.self.now in
    let b = book d in
    let ws = pieces 32 c.args.words.now in
    let s = Rattle.written.specs.Meaning.written c.read-read.result in
    let known : any_known (words_of b.entries) ws ≡ true = elim c.then-knows_any.branch [
      | then-knows_any-via-then-knows_any w ↦
          any_known_split (words_of b.entries) ws ∙ ap (λ u. u || any_known [] ws) (sym (knows s (drafted d) c.read-read.ensures.holds ws true w.if-knows_any.ensures))
      | then-knows_any-via-else-knows_any+then-repeats w ↦
          any_known_split (words_of b.entries) ws ∙ ap (λ u. some_among (words_of b.entries) ws || u) (sym w.if-repeats.ensures) ∙ or_true (some_among (words_of b.entries) ws)
    ]
    in is_taken (cells_of d) b ws (disjuncts_of c.args.disjuncts.now) known ∙ ap Err (sym c.into.ensures)

pub returns-then-word_count-read-clause-answer : goal.returns-then-word_count-read-clause-answer
returns-then-word_count-read-clause-answer c =
    let d = c.args.self.now in
    let b = book d in
    let ws = pieces 32 c.args.words.now in
    let s = Rattle.written.specs.Meaning.written c.read-read.result in
    let new = known_by b ws false false (knows s (drafted d) c.read-read.ensures.holds ws false c.if-knows_any.ensures) c.if-repeats.ensures in
    let n = length_entries d.page.table.now d.page.used d.page.words in
    is_many (cells_of d) b ws (disjuncts_of c.args.disjuncts.now) new (omega (arith, c.word_count.ensures, c.if-word_count-read.true, c.read-read.ensures.words))
    ∙ ap Err (sym c.into-then-word_count-read.ensures)

-- The names that a line brings are good.
module _ (ds : List (Disjunct Name)) (fit : Fitting ds) where
  good_names : (k i : ℕ) (s : Side) → NamedOk (get_or (side_of (get_or ds k free) s) i [])
  good_names k i s = (fit.names k i s, fit.bytes k i s)

  good_fresh : (ks : List Name) (i : ℕ) → NamedOk (get_or (fresh ks (mentioned ds)) i [])
  good_fresh ks =
      all_at NamedOk [] (omega arith, λ j. omega arith) (fresh ks (mentioned ds))
      (fresh_all NamedOk ks (mentioned ds) (all_mentioned NamedOk ds (named_from ds good_names)))

-- They are those that the draft has not.
brought : (F : List ℕ) (s t : Store) (ms new : List Name) → F ≡ s.front → s ≡ t → new ≡ fresh (known F) ms → new ≡ fresh (store_names t) ms
brought F s t ms new e f h = h ∙ ap (λ G. fresh (known G) ms) (e ∙ ap (λ (u : Store). u.front) f)

pub cost-requires-clause-short : goal.cost-requires-clause-short
cost-requires-clause-short c =
    let ds = disjuncts_of c.args.disjuncts.now in
    λ i. subst (λ (ns : List Name). length (get_or ns i []) ≤ 8) (sym c.fresh_names-fresh.ensures) (good_fresh ds c.requires.fitting (known c.front.result.now) i).0

pub returns-then-cost-room-clause-answer : goal.returns-then-cost-room-clause-answer
returns-then-cost-room-clause-answer c =
    let d = c.args.self.now in
    let b = book d in
    let ws = pieces 32 c.args.words.now in
    let ds = disjuncts_of c.args.disjuncts.now in
    let r = c.read-read.ensures in
    let s = Rattle.written.specs.Meaning.written c.read-read.result in
    let new = known_by b ws false false (knows s (drafted d) r.holds ws false c.if-knows_any.ensures) c.if-repeats.ensures in
    let ns = brought c.front.result.now s (drafted d) (mentioned ds) (fresh_of c.fresh_names-fresh.result) c.front.ensures.value r.holds c.fresh_names-fresh.ensures in
    let e : c.cost.result ≡ line_cost ws ds (fresh b.names (mentioned ds)) = c.cost.ensures ∙ ap (line_cost ws ds) ns in
    let l = ap limit r.table in
    is_dear (cells_of d) b ws ds new (omega (arith, e, c.room.ensures, c.if-cost-room.true, r.used, r.words, d.roomy))
    ∙ ap Err (sym c.into-then-cost-room.ensures)

pub write_line-requires-clause-names : goal.write_line-requires-clause-names
unfolding page_store
write_line-requires-clause-names c =
    let d = c.args.self.now in
    let ds = disjuncts_of c.args.disjuncts.now in
    let s = Rattle.written.specs.Meaning.written c.read-read.result in
    let ns = brought c.front.result.now s (drafted d) (mentioned ds) (fresh_of c.fresh_names-fresh.result) c.front.ensures.value c.read-read.ensures.holds c.fresh_names-fresh.ensures in
    ap spellings c.deref.ensures.0 ∙ ns

-- A draft whose page has a line more.
module _ (d : Draft) (q : Page) (ws : List (List ℕ)) (ds : List (Disjunct Name)) (fit : Fitting ds)
    (bytes : (w j : ℕ) → get_or (get_or ws w []) j 0 < 256) (made : page_store q ≡ with_line (page_store d.page) ws ds)
    (some : 0 < length ws) (words : q.words ≡ d.page.words + length ws) (roomy : taken q.used q.words ≤ limit q.table.now) where
  whole : Whole (page_store d.page)
  unfolding page_store
  whole = d.whole

  small : length (with_line (page_store d.page) ws ds).front < MARK
  small =
      let n = length_front q (omega arith) in
      subst (λ (m : ℕ). m < MARK) (sym n ∙ ap (λ (v : Store). length v.front) made) (omega arith)

  whole_more : Whole (page_store q)
  whole_more = subst Whole (sym made) (stored.whole_after (page_store d.page) whole ws ds fit.few fit.lists (good_names ds fit) bytes small)

  names_more : (more : List Named) × ((model (page_store q)).names ≡ (model (page_store d.page)).names ++ more)
  names_more =
      let kept = stored.names_kept (page_store d.page) whole ws ds fit.few fit.lists (good_names ds fit) bytes small in
      (kept.0, ap (λ v. (model v).names) made ∙ kept.1)

  book_more : taken q.used q.words ≡ (with_words (page_book d.page) ws ds).spent → with_words (page_book d.page) ws ds ≡ page_book q
  book_more spent =
      let entries = stored.entries_after (page_store d.page) whole ws ds fit.few fit.lists (good_names ds fit) bytes small in
      let after = stored.names_after (page_store d.page) whole ws ds fit.few fit.lists (good_names ds fit) bytes small in
      same_book (with_words (page_book d.page) ws ds) (page_book q) (sym entries ∙ ap (λ v. (model v).entries) (sym made))
      (sym after ∙ ap store_names (sym made)) (sym spent)

pub invariant_of-self : goal.invariant_of-self
unfolding page_store
invariant_of-self c =
    let d = c.args.self.now in
    let q = c.write_line.new.self in
    let ws = pieces 32 c.args.words.now in
    let ds = disjuncts_of c.args.disjuncts.now in
    let r = c.read-read.ensures in
    let l = ap limit r.table in
    let w = c.write_line.ensures in
    let f = ap (line_cost ws ds) (ap spellings c.deref.ensures.0) in
    let roomy : taken q.used q.words ≤ limit q.table.now = omega (arith, c.cost.ensures, c.room.ensures, c.if-cost-room.false, r.used, r.words, d.roomy) in
    let bytes = pieces_bytes 32 c.args.words.now (λ i. omega (arith, c.type_inv.words i)) in
    let some = pieces_some 32 c.args.words.now in
    record {
      roomy = roomy;
      few = omega (arith, w.words, c.word_count.ensures, c.if-word_count-read.false, r.words, d.few);
      whole = whole_more d q ws ds c.requires.fitting bytes w.store some w.words roomy;
    }

pub returns-clause-left : goal.returns-clause-left
returns-clause-left c =
    let d = c.args.self.now in
    let q = c.write_line.new.self in
    let ws = pieces 32 c.args.words.now in
    let ds = disjuncts_of c.args.disjuncts.now in
    let r = c.read-read.ensures in
    let l = ap limit r.table in
    let w = c.write_line.ensures in
    let f = ap (line_cost ws ds) (ap spellings c.deref.ensures.0) in
    let roomy : taken q.used q.words ≤ limit q.table.now = omega (arith, c.cost.ensures, c.room.ensures, c.if-cost-room.false, r.used, r.words, d.roomy) in
    let bytes = pieces_bytes 32 c.args.words.now (λ i. omega (arith, c.type_inv.words i)) in
    let some = pieces_some 32 c.args.words.now in
    names_more d q ws ds c.requires.fitting bytes w.store some w.words roomy

pub returns-clause-answer : goal.returns-clause-answer
unfolding page_store
returns-clause-answer c =
    let d = c.args.self.now in
    let q = c.write_line.new.self in
    let ws = pieces 32 c.args.words.now in
    let ds = disjuncts_of c.args.disjuncts.now in
    let r = c.read-read.ensures in
    let l = ap limit r.table in
    let w = c.write_line.ensures in
    let f = ap (line_cost ws ds) (ap spellings c.deref.ensures.0) in
    let roomy : taken q.used q.words ≤ limit q.table.now = omega (arith, c.cost.ensures, c.room.ensures, c.if-cost-room.false, r.used, r.words, d.roomy) in
    let bytes = pieces_bytes 32 c.args.words.now (λ i. omega (arith, c.type_inv.words i)) in
    let some = pieces_some 32 c.args.words.now in
    let b = book d in
    let s = Rattle.written.specs.Meaning.written c.read-read.result in
    let new = known_by b ws false false (knows s (drafted d) r.holds ws false c.if-knows_any.ensures) c.if-repeats.ensures in
    let ns = brought c.front.result.now s (drafted d) (mentioned ds) (fresh_of c.fresh_names-fresh.result) c.front.ensures.value r.holds c.fresh_names-fresh.ensures in
    let e : c.cost.result ≡ line_cost ws ds (fresh b.names (mentioned ds)) = c.cost.ensures ∙ ap (line_cost ws ds) ns in
    let spent : taken q.used q.words ≡ (with_words b ws ds).spent = w.taken ∙ ap (λ n. taken d.page.used d.page.words + n) (f ∙ ap (line_cost ws ds) ns) in
    let n = length_entries d.page.table.now d.page.used d.page.words in
    is_entered (cells_of d) b ws ds new (omega (arith, e, c.room.ensures, c.if-cost-room.false, r.used, r.words, d.roomy))
    (omega (arith, c.word_count.ensures, c.if-word_count-read.false, r.words, d.few))
    ∙ ap Ok (book_more d q ws ds c.requires.fitting bytes w.store some w.words roomy spent)
