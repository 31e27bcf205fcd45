-- What is read from a table is what the store holds: cells within the front, words by their rows and names by their marks.
use Rattle.std.proofs.Common.{◌≡◌, ℕ, zero, suc, ◌+◌, ◌<◌, ◌≤◌, Bool, true, false, cond, ◌&&◌, ◌||◌, eqb, List, [], ◌∷◌, map, length, get_or, take, drop, Some, None, unwrap_or, is_some, sym, refl, ap, ◌∙◌, subst, ap₂, ⊎_elim, add-zero, arith}
use lib.ListN.{length-map}
use Rattle.std.specs.List.{position_from, range_with_len}
use Rattle.std.proofs.lemmas.List.{get_or-take, get_or-drop, get_or-map, drop_more, drop_all, drop-drop, take-append-drop, length-take-le}
use Rattle.std.proofs.lemmas.Bool.{cond-true, cond-false, cases_Bool, true≢false, false≢true}
use Rattle.formula.specs.Tokens.{Name}
use Rattle.written.specs.Kept.{getD_counted, length_counted}
use Rattle.written.specs.Matching.{same}
use Rattle.written.specs.Model.{Entry, Named, among, find_from, lookup, number_of, no_entry}
use Rattle.written.specs.Pages.{row_at, row_place, store}
use Rattle.written.specs.Store.{MARK, Whole, WholeRow, cell, cells, counted, entry_of, model, name_at, names_from, no_row}
use Rattle.written.proofs.Fronts.{cells_kept}
use Rattle.written.proofs.Known.{same_eq}
use Rattle.written.proofs.Words.{same_swap}

pub same_false : (a b : List ℕ) → (a ≡ b → ⊥) → same a b ≡ false
same_false a b n = ⊎_elim (λ t. absurd (n (same_eq a b t))) (λ f. f) (cases_Bool (same a b))

-- Cells within the front.
module _ (T : List ℕ) (used : ℕ) where
  pub front_cell : (i : ℕ) → i < used → cell (take used T) i ≡ cell T i
  front_cell i h = get_or-take used T i 0 h

  pub front_cells : used ≤ length T → (a n : ℕ) → a + n ≤ used → cells (take used T) a n ≡ cells T a n
  front_cells l a n h =
      let m = length-take-le used T l in
      sym (cells_kept (take used T) (drop used T) a n (omega arith)) ∙ ap (λ f. cells f a n) (take-append-drop used T)

-- The row of a word, and the word that it tells.
module _ (T : List ℕ) (used words k : ℕ) (h : k < words) where
  pub row_known : get_or (counted (row_at T) 0 words) k no_row ≡ row_at T k
  row_known = getD_counted (row_at T) 0 words k k no_row h (omega arith)

  row_in : k < length (counted (row_at T) 0 words)
  row_in = let n = length_counted (row_at T) 0 words in omega arith

  pub row_whole : Whole (store T used words) → WholeRow (take used T) (row_at T k)
  row_whole whole = subst (WholeRow (take used T)) row_known (whole.0 k row_in)

  pub word_known : used ≤ length T → Whole (store T used words) →
      (get_or (model (store T used words)).entries k no_entry).word ≡ cells T (row_at T k).word (row_at T k).length_of
  word_known l whole =
      let m = length-take-le used T l in
      let inside = (row_whole whole).0 in
      ap (λ (e : Entry). e.word)
      (get_or-map (entry_of (take used T)) (counted (row_at T) 0 words) k no_row no_entry row_in ∙ ap (entry_of (take used T)) row_known)
      ∙ front_cells T used l (row_at T k).word (row_at T k).length_of (omega arith)

  -- What the cells of a row tell, by the places that were read.
  module _ (l : used ≤ length T) (whole : Whole (store T used words)) (row at len : ℕ) (r : row ≡ row_place T k)
      (a : at ≡ cell T row) (n : len ≡ cell T (row + 1)) where
    row_read : (at ≡ (row_at T k).word) × (len ≡ (row_at T k).length_of)
    row_read = (a ∙ ap (cell T) r, n ∙ ap (λ p. cell T (p + 1)) r)

    pub word_inside : at + len ≤ length T
    word_inside =
        let m = length-take-le used T l in
        let inside = (row_whole whole).0 in
        let e = row_read in
        omega arith

    pub word_read : cells T at len ≡ (get_or (model (store T used words)).entries k no_entry).word
    word_read = let e = row_read in ap₂ (cells T) e.0 e.1 ∙ sym (word_known l whole)

pub length_entries : (T : List ℕ) (used words : ℕ) → length (model (store T used words)).entries ≡ words
length_entries T used words =
    length-map (counted (row_at T) 0 words) (entry_of (take used T)) ∙ length_counted (row_at T) 0 words

-- What a search by place gives is what a search of the list gives.
pub searched : {X : Type 0} (p : X → Bool) (test : ℕ → Bool) (d : X) (xs : List X) (k : ℕ) → ((j : ℕ) → test (k + j) ≡ p (get_or xs j d)) →
    position_from test k (range_with_len k (length xs)) ≡ position_from p k xs
searched p test d [] k h = refl
searched p test d (x ∷ xs) k h =
    ap₂ (λ t r. cond t (Some k) r) (ap test (sym (add-zero k)) ∙ h 0)
    (searched p test d xs (k + 1) (λ j. let e : k + 1 + j ≡ k + suc j = omega arith in ap test e ∙ h (suc j)))

-- The number of a word is its place, or 65,535 where it has none.
pub find_place : (es : List Entry) (w : List ℕ) (k : ℕ) → unwrap_or (position_from (λ (e : Entry). same e.word w) k es) 65535 ≡ find_from k es w
unfolding find_from
find_place [] w k = refl
find_place (e ∷ es) w k =
    let more : k + 1 ≡ suc k = omega arith in
    by_first (same e.word w) (find_place es w (k + 1) ∙ ap (λ n. find_from n es w) more)
  where
    by_first : (t : Bool) → unwrap_or (position_from (λ (x : Entry). same x.word w) (k + 1) es) 65535 ≡ find_from (suc k) es w →
        unwrap_or (cond t (Some k) (position_from (λ (x : Entry). same x.word w) (k + 1) es)) 65535 ≡ cond t k (find_from (suc k) es w)
    by_first true h = refl
    by_first false h = h

pub placed_among : (es : List Entry) (w : List ℕ) (k : ℕ) →
    is_some (position_from (λ (e : Entry). same e.word w) k es) ≡ among w (map (λ (e : Entry). e.word) es)
unfolding among
placed_among [] w k = refl
placed_among (e ∷ es) w k =
    by_first (same e.word w) (placed_among es w (k + 1)) ∙ ap (λ t. t || among w (map (λ (x : Entry). x.word) es)) (same_swap e.word w)
  where
    by_first : (t : Bool) → is_some (position_from (λ (x : Entry). same x.word w) (k + 1) es) ≡ among w (map (λ (x : Entry). x.word) es) →
        is_some (cond t (Some k) (position_from (λ (x : Entry). same x.word w) (k + 1) es)) ≡ (t || among w (map (λ (x : Entry). x.word) es))
    by_first true h = refl
    by_first false h = h

-- Looking for a word, entry by entry.
module _ (es : List Entry) (w : List ℕ) (k : ℕ) where
  next_entry : k < length es → find_from k (drop k es) w
      ≡ cond (same (get_or es k no_entry).word w) k (find_from (k + 1) (drop (k + 1) es) w)
  unfolding find_from
  next_entry h =
      let e : suc k ≡ k + 1 = omega arith in
      ap (λ l. find_from k l w) (drop_more es k no_entry h)
      ∙ ap (λ j. cond (same (get_or es k no_entry).word w) k (find_from j (drop (k + 1) es) w)) e

  pub find_skip : k < length es → same (get_or es k no_entry).word w ≡ false →
      find_from (k + 1) (drop (k + 1) es) w ≡ find_from k (drop k es) w
  find_skip h f =
      sym (next_entry h ∙ cond-false (same (get_or es k no_entry).word w) k (find_from (k + 1) (drop (k + 1) es) w) f)

  pub find_here : k < length es → same (get_or es k no_entry).word w ≡ true → find_from k (drop k es) w ≡ k
  find_here h t = next_entry h ∙ cond-true (same (get_or es k no_entry).word w) k (find_from (k + 1) (drop (k + 1) es) w) t

  pub find_none : length es ≤ k → find_from k (drop k es) w ≡ 65535
  unfolding find_from
  find_none h = ap (λ l. find_from k l w) (drop_all k es h)

-- Looking for a name, cell by cell.
module _ (F : List ℕ) (n : Name) (p : ℕ) where
  next_cell : p < length F → lookup (names_from p (drop p F)) n
      ≡ cond (eqb (cell F p) MARK && same (name_at F p) n) (Some p) (lookup (names_from (p + 1) (drop (p + 1) F)) n)
  unfolding names_from lookup
  next_cell h =
      let cs = drop (p + 1) F in
      let e : suc p ≡ p + 1 = omega arith in
      let a : get_or cs 0 0 ≡ cell F (p + 1) = get_or-drop (p + 1) F 0 0 ∙ ap (cell F) (add-zero (p + 1)) in
      let two : p + 1 + 1 ≡ p + 2 = omega arith in
      let d : drop 1 cs ≡ drop (p + 2) F = drop-drop 1 (p + 1) F ∙ ap (λ m. drop m F) two in
      let here : take (get_or cs 0 0) (drop 1 cs) ≡ name_at F p = ap₂ take a d in
      ap (λ l. lookup (names_from p l) n) (drop_more F p 0 h)
      ∙ (ap₂ (λ m q. lookup (cond (eqb (cell F p) MARK) (record { name = m; number = p } ∷ names_from q cs) (names_from q cs)) n) here e
      ∙ one (eqb (cell F p) MARK) (name_at F p) (names_from (p + 1) cs))
    where
      one : (t : Bool) (m : Name) (rest : List Named) → lookup (cond t (record { name = m; number = p } ∷ rest) rest) n
          ≡ cond (t && same m n) (Some p) (lookup rest n)
      one true m rest = refl
      one false m rest = refl

  lookup_none : length F ≤ p → lookup (names_from p (drop p F)) n ≡ None
  unfolding names_from lookup
  lookup_none h = ap (λ l. lookup (names_from p l) n) (drop_all p F h)

pub name_searched : (F : List ℕ) (n : Name) (m p : ℕ) → p + m ≡ length F →
    position_from (λ q. eqb (cell F q) MARK && same (name_at F q) n) p (range_with_len p m) ≡ lookup (names_from p (drop p F)) n
name_searched F n zero p e = sym (lookup_none F n p (omega arith))
name_searched F n (suc m) p e =
    ap (cond (eqb (cell F p) MARK && same (name_at F p) n) (Some p)) (name_searched F n m (p + 1) (omega arith)) ∙ sym (next_cell F n p (omega arith))

-- A name is found just if it is among the names, and then its number is.
pub lookup_known : (ms : List Named) (n : Name) →
    lookup ms n ≡ cond (among n (map (λ (m : Named). m.name) ms)) (Some (number_of ms n)) None
unfolding lookup among number_of
lookup_known [] n = refl
lookup_known (m ∷ ms) n = go (same m.name n) (same n m.name) (same_swap m.name n) (lookup_known ms n)
  where
    go : (t u : Bool) → t ≡ u → lookup ms n ≡ cond (among n (map (λ (x : Named). x.name) ms)) (Some (number_of ms n)) None →
        cond t (Some m.number) (lookup ms n)
        ≡ cond (u || among n (map (λ (x : Named). x.name) ms)) (Some (cond t m.number (number_of ms n))) None
    go true true e rest = refl
    go true false e rest = absurd (true≢false e)
    go false true e rest = absurd (false≢true e)
    go false false e rest = rest

pub found_known : (ms : List Named) (n : Name) → is_some (lookup ms n) ≡ among n (map (λ (m : Named). m.name) ms)
found_known ms n = ap is_some (lookup_known ms n) ∙ some_if (among n (map (λ (m : Named). m.name) ms)) (number_of ms n)
  where
    some_if : (b : Bool) (k : ℕ) → is_some {T = ℕ} (cond b (Some k) None) ≡ b
    some_if true k = refl
    some_if false k = refl
