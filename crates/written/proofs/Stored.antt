-- A store with a line more is whole again; it holds what it held and behind it the line's words with their disjuncts, and
-- the names that were new.
use Rattle.std.proofs.Common.{◌≡◌, ℕ, ◌^◌, ◌<◌, ◌≤◌, true, List, [], ◌++◌, map, length, get_or, sym, refl, ap, ◌∙◌, subst, ap₂, append_assoc, append-nil, arith, length-append}
use Rattle.std.specs.List.{AllByRecursion}
use Rattle.std.proofs.lemmas.List.{map-append, get_or-map}
use Rattle.std.proofs.ByRecursion.{All-append, All-weaker, All-get_or, All-from_get_or}
use Rattle.lexicon.specs.declared.side.Side.{Side}
use Rattle.lexicon.specs.Lexicon.{Disjunct, side_of, free}
use Rattle.formula.specs.Tokens.{Name}
use Rattle.written.specs.Model.{Entry, Named, renamed, number_of, among, mentioned, fresh, lexicon, no_entry}
use Rattle.written.specs.Store.{Store, MARK, name_at, names_from, block_at, entry_of, model, block_cells, word_cells, word_rows, all_name_cells, with_names, numbered, with_block, names_of, with_line, no_row, WholeName, WholeRow, Whole}
use Rattle.written.proofs.Renamed.{Asks, asks_weaker, renamed_back, map_same, all_mentioned, mentioned_all}
use Rattle.written.proofs.Fronts.{block_named, whole_row_kept, entry_kept}
use Rattle.written.proofs.Blocks.{Stands}
use Rattle.written.proofs.Known.{Distinct, fresh_distinct, fresh_among, fresh_all}
use Rattle.written.proofs.Names.{Plain, Sound, sound_append, sound_plain, sound_names, whole_sound, sound_whole, NamedOk, placed, placed_names, named, number_known, apart_distinct, distinct_apart}
use Rattle.written.proofs.Lines.{fits_from, named_from, plain_words, Small, small_plain, small_names, small_cell, names_more, names_behind, Told, told, plain_numbered, block_after, whole_block_after, words_read, words_whole}

-- The disjuncts of a word in the dictionary of a store are those of its block.
module _ (s : Store) where
  pub disjuncts_known : Whole s → (w : ℕ) → w < length s.rows →
      (lexicon (model s)).disjuncts w ≡ block_at s.front (get_or s.rows w no_row).block
  disjuncts_known whole w h =
      let F = s.front in
      let f = number_of (names_from 0 F) in
      let b = (get_or s.rows w no_row).block in
      ap (λ (e : Entry). map (renamed f) e.disjuncts) (get_or-map (entry_of F) s.rows w no_row no_entry h)
      ∙ renamed_back (name_at F) f (block_at F b)
      (asks_weaker (WholeName F) (λ p. f (name_at F p) ≡ p) (λ p n. number_known F whole.2 p n.1) (block_at F b)
      (block_named F b (whole.0 w h).1))

-- The names that a line brings, and the front with them.
abbrev new_names : Store → List (Disjunct Name) → List Name
new_names s ds = fresh (names_of s) (mentioned ds)

abbrev with_new : Store → List (Disjunct Name) → List ℕ
with_new s ds = with_names s.front (new_names s ds)

module _ (s : Store) (whole : Whole s) (words : List (List ℕ)) (ds : List (Disjunct Name)) (few : length ds ≤ 64)
    (sides : (k : ℕ) (t : Side) → length (side_of (get_or ds k free) t) ≤ 8)
    (names : (k i : ℕ) (t : Side) → NamedOk (get_or (side_of (get_or ds k free) t) i []))
    (bytes : (w j : ℕ) → get_or (get_or words w []) j 0 < 256)
    (room : length (with_line s words ds).front < MARK) where
  sound : Sound s.front
  sound = whole_sound s.front whole.1

  new_ok : AllByRecursion NamedOk (new_names s ds)
  new_ok = fresh_all NamedOk (names_of s) (mentioned ds) (all_mentioned NamedOk ds (named_from ds names))

  -- The front with the new names.
  sound_named : Sound (with_new s ds)
  sound_named =
      let ns = new_names s ds in
      sound_append s.front (all_name_cells ns) sound (sound_names ns new_ok)

  named_more : named 0 (with_new s ds) ≡ names_of s ++ fresh (names_of s) (mentioned ds)
  named_more =
      let ns = new_names s ds in
      let f = λ (m : Named). m.name in
      ap (map f) (names_more s.front ns sound new_ok)
      ∙ (map-append f (names_from 0 s.front) (placed (length s.front) ns)
      ∙ ap (◌++◌ (names_of s)) (placed_names (length s.front) ns))

  all_told : AllByRecursion (Asks (Told (with_new s ds))) ds
  all_told =
      let N = with_new s ds in
      mentioned_all (Told N) ds
      (All-weaker (λ m. among m (named 0 N) ≡ true) (Told N) (told N sound_named) (mentioned ds)
      (subst (λ ns. AllByRecursion (λ m. among m ns ≡ true) (mentioned ds)) (sym named_more) (fresh_among (names_of s) (mentioned ds))))

  -- The cells behind the names.
  plain_behind : Plain (block_cells (length (with_new s ds)) (numbered (with_new s ds) ds))
  plain_behind =
      let N = with_new s ds in
      let n = length-append (with_block N ds) (word_cells words) in
      plain_numbered N ds all_told few (fits_from ds sides) (omega arith)

  sound_blocked : Sound (with_block (with_new s ds) ds)
  sound_blocked =
      let N = with_new s ds in
      let b = block_cells (length N) (numbered N ds) in
      sound_append N b sound_named (sound_plain b plain_behind)

  names_same : names_from 0 (with_line s words ds).front ≡ names_from 0 (with_new s ds)
  names_same =
      let N = with_new s ds in
      names_behind (with_block N ds) (word_cells words) sound_blocked (plain_words words bytes)
      ∙ names_behind N (block_cells (length N) (numbered N ds)) sound_named plain_behind

  pub names_after : map (λ (m : Named). m.name) (model (with_line s words ds)).names
      ≡ names_of s ++ fresh (names_of s) (mentioned ds)
  names_after = ap (map (λ (m : Named). m.name)) names_same ∙ named_more

  pub names_kept : (more : List Named) × ((model (with_line s words ds)).names ≡ (model s).names ++ more)
  names_kept =
      let ns = new_names s ds in
      (placed (length s.front) ns, names_same ∙ names_more s.front ns sound new_ok)

  -- The front that was, and what was added.
  added : List ℕ
  added =
      let N = with_new s ds in
      all_name_cells (new_names s ds) ++ (block_cells (length N) (numbered N ds) ++ word_cells words)

  split : (with_line s words ds).front ≡ s.front ++ added
  unfolding added
  split = simp append_assoc

  stands_words : let blocked : List ℕ = with_block (with_new s ds) ds in
      Stands (blocked ++ word_cells words) (length blocked) (word_cells words)
  stands_words =
      let blocked : List ℕ = with_block (with_new s ds) ds in
      record { before = blocked; rest = []; is = ap (◌++◌ blocked) (sym (append-nil (word_cells words))); place = refl }

  old_rows : AllByRecursion (WholeRow s.front) s.rows
  old_rows = All-from_get_or (WholeRow s.front) s.rows no_row whole.0

  pub entries_after : (model (with_line s words ds)).entries
      ≡ (model s).entries ++ map (λ w. record { word = w; disjuncts = ds }) words
  entries_after =
      let N = with_new s ds in
      let front = (with_line s words ds).front in
      let at = length (with_block N ds) in
      map-append (entry_of front) s.rows (word_rows at (length N) words)
      ∙ ap₂ ◌++◌
      (map_same (entry_of front) (entry_of s.front) s.rows
      (All-weaker (WholeRow s.front) (λ r. entry_of front r ≡ entry_of s.front r)
      (λ r h. ap (λ f. entry_of f r) split ∙ entry_kept s.front added r h) s.rows old_rows))
      (words_read front (length N) ds (block_after N ds all_told (word_cells words)) words at stands_words)

  whole_rows : AllByRecursion (WholeRow (with_line s words ds).front) (with_line s words ds).rows
  whole_rows =
      let N = with_new s ds in
      let front = (with_line s words ds).front in
      let at = length (with_block N ds) in
      All-append (WholeRow front) s.rows (word_rows at (length N) words)
      (All-weaker (WholeRow s.front) (WholeRow front)
      (λ r h. subst (λ f. WholeRow f r) (sym split) (whole_row_kept s.front added r h)) s.rows old_rows)
      (words_whole front (length N) (whole_block_after N ds all_told (word_cells words) few (fits_from ds sides)) words at stands_words)

  small : Small (with_line s words ds).front
  small =
      let Fit : ℕ → Type 0 = λ x. x < 2 ^ 16 in
      let ns = new_names s ds in
      let N = with_names s.front ns in
      let b = block_cells (length N) (numbered N ds) in
      All-append Fit (N ++ b) (word_cells words)
      (All-append Fit N b
      (All-append Fit s.front (all_name_cells ns) (All-from_get_or Fit s.front 0 (λ i _. whole.3 i)) (small_names ns new_ok))
      (small_plain b plain_behind))
      (small_plain (word_cells words) (plain_words words bytes))

  pub whole_after : Whole (with_line s words ds)
  whole_after =
      let front = (with_line s words ds).front in (
        λ w h. All-get_or (WholeRow front) (with_line s words ds).rows w no_row h whole_rows,
        sound_whole front (sound_append (with_block (with_new s ds) ds) (word_cells words) sound_blocked
            (sound_plain (word_cells words) (plain_words words bytes))),
        distinct_apart 0 front
            (subst Distinct (sym names_after) (fresh_distinct (names_of s) (mentioned ds) (apart_distinct 0 s.front whole.2))),
        small_cell front small,
      )
