-- The pieces of some bytes, one by one: the first piece from a place on ends at the next mark or with the bytes, and behind it are those that
-- begin past the mark (`pieces_step`); the same of the lines of a text (`lines_step`). Assumes nothing.
use Rattle.std.proofs.Common.{◌≡◌, ℕ, suc, ◌+◌, ◌-◌, ◌<◌, ◌≤◌, cond, eqb, leb, List, [], ◌∷◌, ◌++◌, length, get_or, drop, sym, refl, ap, ◌∙◌, ⊎_elim, arith, take-append-drop, drop-drop}
use Rattle.std.specs.List.{between}
use Rattle.std.proofs.lemmas.List.Edits.{get_or-between, length-between}
use Rattle.std.proofs.lemmas.List.{drop_more, drop_all}
use Rattle.std.proofs.lemmas.Slice.{between_to_end}
use Rattle.std.proofs.lemmas.Bool.{eq-eqb, ne_eqb, le-leb, lt-leb, cond-true, cond-false, cases_lt}
use Rattle.written.specs.Lines.{onto, pieces, pieces_from, lines}

-- Bytes among which no mark stands, and such bytes from one place to another.
abbrev Clear : ℕ → List ℕ → Type 0
Clear m ys = (k : ℕ) → k < length ys → get_or ys k 0 ≡ m → ⊥

abbrev pub ClearIn : ℕ → List ℕ → (a e : ℕ) → Type 0
ClearIn m xs a e = (k : ℕ) → a ≤ k → k < e → get_or xs k 0 ≡ m → ⊥

clear_between : (m : ℕ) (xs : List ℕ) (a e : ℕ) → e ≤ length xs → ClearIn m xs a e → Clear m (between a e xs)
clear_between m xs a e l h k i q =
    let n = length-between xs a e l in
    let below : a + k < e = omega arith in
    let above : a ≤ a + k = omega arith in
    h (a + k) above below (sym (get_or-between xs a e k 0 below) ∙ q)

-- What cuts bytes at each mark, whatever it makes of no bytes.
module _ (m : ℕ) (F : List ℕ → List (List ℕ))
    (step : (b : ℕ) (bs : List ℕ) → F (b ∷ bs) ≡ cond (eqb b m) ([] ∷ F bs) (onto b (F bs))) where
  no_mark : (b : ℕ) (bs : List ℕ) → (b ≡ m → ⊥) → F (b ∷ bs) ≡ onto b (F bs)
  no_mark b bs h = step b bs ∙ cond-false (eqb b m) ([] ∷ F bs) (onto b (F bs)) (ne_eqb b m h)

  cut : (ys zs : List ℕ) → Clear m ys → F (ys ++ (m ∷ zs)) ≡ ys ∷ F zs
  cut [] zs h = step m zs ∙ cond-true (eqb m m) ([] ∷ F zs) (onto m (F zs)) (eq-eqb m m refl)
  cut (y ∷ ys) zs h =
      no_mark y (ys ++ (m ∷ zs)) (h 0 (omega arith)) ∙ ap (onto y) (cut ys zs (λ k l. h (suc k) (omega arith)))

  cut_at : (xs : List ℕ) (a e : ℕ) → a ≤ e → e < length xs → ClearIn m xs a e → get_or xs e 0 ≡ m →
      F (drop a xs) ≡ between a e xs ∷ F (drop (e + 1) xs)
  cut_at xs a e h l c s =
      let p : a + (e - a) ≡ e = omega arith in
      let l' : e ≤ length xs = omega arith in
      let d : drop (e - a) (drop a xs) ≡ m ∷ drop (e + 1) xs =
      drop-drop (e - a) a xs
      ∙ (ap (λ n. drop n xs) p ∙ (drop_more xs e 0 l ∙ ap (λ (v : ℕ). v ∷ drop (e + 1) xs) s)) in
      ap F (sym (take-append-drop (e - a) (drop a xs)) ∙ ap (◌++◌ (between a e xs)) d)
      ∙ cut (between a e xs) (drop (e + 1) xs) (clear_between m xs a e l' c)

  -- Behind the last mark; no bytes, put behind one, make no piece of their own.
  module _ (none : (b : ℕ) → onto b (F []) ≡ (b ∷ []) ∷ []) where
    last : (y : ℕ) (ys : List ℕ) → Clear m (y ∷ ys) → F (y ∷ ys) ≡ (y ∷ ys) ∷ []
    last y [] h = no_mark y [] (h 0 (omega arith)) ∙ none y
    last y (z ∷ ys) h =
        no_mark y (z ∷ ys) (h 0 (omega arith)) ∙ ap (onto y) (last z ys (λ k l. h (suc k) (omega arith)))

    last_some : (ys : List ℕ) → 0 < length ys → Clear m ys → F ys ≡ ys ∷ []
    last_some [] l h = absurd (omega arith)
    last_some (y ∷ ys) l h = last y ys h

    last_at : (xs : List ℕ) (a e : ℕ) → a < length xs → e ≡ length xs → ClearIn m xs a e → F (drop a xs) ≡ between a e xs ∷ []
    last_at xs a e h q c =
        let l : e ≤ length xs = omega arith in
        let l' : length xs ≤ e = omega arith in
        let n = length-between xs a e l in
        let some : 0 < length (between a e xs) = omega arith in
        ap F (sym (between_to_end xs a e l')) ∙ last_some (between a e xs) some (clear_between m xs a e l c)

pub pieces_first : (m : ℕ) (xs : List ℕ) → pieces_from m xs 0 ≡ pieces m xs
unfolding pieces_from
pieces_first m xs = cond-true (leb 0 (length xs)) (pieces m xs) [] (le-leb 0 (length xs) (omega arith))

pub pieces_none : (m : ℕ) (xs : List ℕ) (a : ℕ) → length xs < a → pieces_from m xs a ≡ []
unfolding pieces_from
pieces_none m xs a h = cond-false (leb a (length xs)) (pieces m (drop a xs)) [] (lt-leb a (length xs) h)

within : (m : ℕ) (xs : List ℕ) (a : ℕ) → a ≤ length xs → pieces_from m xs a ≡ pieces m (drop a xs)
unfolding pieces_from
within m xs a h = cond-true (leb a (length xs)) (pieces m (drop a xs)) [] (le-leb a (length xs) h)

-- The piece from a place on ends at the next mark, or with the bytes.
module _ (m : ℕ) (xs : List ℕ) (a e : ℕ) (from : a ≤ e) (to : e ≤ length xs) (clear : ClearIn m xs a e)
    (stops : e < length xs → get_or xs e 0 ≡ m) where
  empty_last : length xs ≤ a → pieces m (drop a xs) ≡ between a e xs ∷ []
  unfolding pieces
  empty_last h =
      let none : drop a xs ≡ [] = drop_all a xs h in
      let l : length xs ≤ e = omega arith in
      ap (pieces m) none ∙ ap (λ (p : List ℕ). p ∷ []) (sym none ∙ sym (between_to_end xs a e l))

  piece_last : e ≡ length xs → pieces m (drop a xs) ≡ between a e xs ∷ []
  unfolding pieces
  piece_last q =
      ⊎_elim (λ h. last_at m (pieces m) (λ b bs. refl) (λ b. refl) xs a e h q clear) empty_last (cases_lt a (length xs))

  piece_next : e < length xs → pieces m (drop a xs) ≡ between a e xs ∷ pieces m (drop (e + 1) xs)
  unfolding pieces
  piece_next h = cut_at m (pieces m) (λ b bs. refl) xs a e from h clear (stops h)

  pub pieces_step : pieces_from m xs a ≡ between a e xs ∷ pieces_from m xs (e + 1)
  pieces_step =
      let l : a ≤ length xs = omega arith in
      within m xs a l
      ∙ ⊎_elim
      (λ h. let k : e + 1 ≤ length xs = omega arith in
      piece_next h ∙ ap (λ ps. between a e xs ∷ ps) (sym (within m xs (e + 1) k)))
      (λ h. let k : length xs < e + 1 = omega arith in
      let q : e ≡ length xs = omega arith in
      piece_last q ∙ ap (λ ps. between a e xs ∷ ps) (sym (pieces_none m xs (e + 1) k)))
      (cases_lt e (length xs))

-- The same of the lines of a text.
module _ (xs : List ℕ) (a e : ℕ) (some : a < length xs) (from : a ≤ e) (to : e ≤ length xs) (clear : ClearIn 10 xs a e)
    (stops : e < length xs → get_or xs e 0 ≡ 10) where
  line_last : e ≡ length xs → lines (drop a xs) ≡ between a e xs ∷ lines (drop (e + 1) xs)
  unfolding lines
  line_last q =
      let k : length xs ≤ e + 1 = omega arith in
      last_at 10 lines (λ b bs. refl) (λ b. refl) xs a e some q clear
      ∙ ap (λ ps. between a e xs ∷ lines ps) (sym (drop_all (e + 1) xs k))

  line_next : e < length xs → lines (drop a xs) ≡ between a e xs ∷ lines (drop (e + 1) xs)
  unfolding lines
  line_next h = cut_at 10 lines (λ b bs. refl) xs a e from h clear (stops h)

  pub lines_step : lines (drop a xs) ≡ between a e xs ∷ lines (drop (e + 1) xs)
  lines_step =
      ⊎_elim line_next (λ h. let q : e ≡ length xs = omega arith in line_last q) (cases_lt e (length xs))

pub lines_none : (xs : List ℕ) (a : ℕ) → length xs ≤ a → lines (drop a xs) ≡ []
unfolding lines
lines_none xs a h = ap lines (drop_all a xs h)
