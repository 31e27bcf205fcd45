-- The pieces of some bytes are the parts at which a slice is cut by a test for the mark, and the words for them are those of
-- iterators.
use Rattle.std.proofs.Common.{◌≡◌, ℕ, suc, ◌+◌, ◌<◌, Bool, true, false, cond, not, ◌&&◌, ◌||◌, eqb, List, [], ◌∷◌, length, refl, ap, ◌∙◌, sym, subst, arith, get_or, drop, ◌-◌, ◌++◌}
use denote.Param.Members.{Mut}
use denote.Ref.{Bor}
use Rattle.std.specs.Fn.{CalledAt}
use Rattle.std.specs.List.{enumerate_from, list_all, list_any, onto_first, slice_split, count_by}
use Rattle.std.specs.Slice.Iter.{split_rest, split_done, split_callee, split_steps}
use Rattle.std.proofs.lemmas.Bool.{cond-false}
use Rattle.std.proofs.lemmas.Iterator.{YieldsList}
use Rattle.std.proofs.lemmas.Iterator.Splits.{YieldsList-from_slice_split}
use Rattle.std.proofs.lemmas.List.Splits.{length-slice_split}
use Rattle.std.proofs.lemmas.List.{drop_more}
use Rattle.std.proofs.lemmas.List.FromFn.{get_or-enumerate_from, length-enumerate_from}
use Rattle.std.proofs.lemmas.List.Recursion.{same_from_clauses, is_count_by}
use Rattle.written.specs.Lines.{lines, onto, pieces, every, some_among}
use Rattle.written.specs.Model.{among}
use Rattle.written.specs.Store.{word_cells}

onto_same : (b : ℕ) (ps : List (List ℕ)) → onto_first b ps ≡ onto b ps
onto_same b [] = refl
onto_same b (p ∷ ps) = refl

pub pieces_split : (m : ℕ) (xs : List ℕ) → slice_split (λ b. eqb b m) xs ≡ pieces m xs
unfolding pieces
pieces_split m [] = refl
pieces_split m (x ∷ xs) =
    ap (λ ps. cond (eqb x m) ([] ∷ ps) (onto_first x ps)) (pieces_split m xs)
    ∙ ap (cond (eqb x m) ([] ∷ pieces m xs)) (onto_same x (pieces m xs))

-- Bytes have at least one piece.
pub pieces_some : (m : ℕ) (xs : List ℕ) → 0 < length (pieces m xs)
pieces_some m xs = let n = length-slice_split (λ b. eqb b m) xs in let e = ap length (pieces_split m xs) in omega arith

-- A slice that is cut where a closure finds the mark gives the pieces.
pub yields_pieces : {F : Type 0} {s : _} (g : Mut F (Bor ℕ × Unit {0}) Bool) (m : ℕ) {f : F} (xs : List ℕ) → split_rest s ≡ xs → split_done s ≡ false →
    split_callee s ≡ f → ((x : ℕ) (b : Bool) (q : F) → CalledAt g f x b q → (q ≡ f) × (b ≡ eqb x m)) →
    YieldsList (split_steps g) (λ x. x.now) s (pieces m xs)
yields_pieces g m xs r d c h =
    subst (YieldsList (split_steps g) (λ x. x.now) _) (pieces_split m xs) (YieldsList-from_slice_split g (λ b. eqb b m) xs r d c h)

pub every_all : (p : List ℕ → Bool) (ws : List (List ℕ)) → every p ws ≡ list_all p ws
unfolding every
every_all p = same_from_clauses (every p) (list_all p) (λ w r. p w && r) refl (λ _ _. refl) (λ _ _. refl)

pub some_any : (known ws : List (List ℕ)) → some_among known ws ≡ list_any (λ w. among w known) ws
unfolding some_among
some_any known = same_from_clauses (some_among known) (list_any (λ w. among w known)) (λ w r. among w known || r) refl (λ _ _. refl) (λ _ _. refl)

-- The bytes of the pieces are those that are not the mark.
bytes_onto : (b : ℕ) (ps : List (List ℕ)) → length (word_cells (onto b ps)) ≡ suc (length (word_cells ps))
unfolding word_cells
bytes_onto b [] = refl
bytes_onto b (p ∷ ps) = refl

pub bytes_unmarked : (m : ℕ) (xs : List ℕ) → count_by (λ b. not (eqb b m)) xs ≡ length (word_cells (pieces m xs))
unfolding pieces word_cells
bytes_unmarked m xs = sym (is_count_by (λ ys. length (word_cells (pieces m ys))) (λ b. not (eqb b m)) refl (λ y ys. by_mark y ys (eqb y m)) xs)
  where
    by_mark : (y : ℕ) (ys : List ℕ) (t : Bool) → length (word_cells (cond t ([] ∷ pieces m ys) (onto y (pieces m ys))))
        ≡ cond (not t) (1 + length (word_cells (pieces m ys))) (length (word_cells (pieces m ys)))
    by_mark y ys true = refl
    by_mark y ys false = let h = bytes_onto y (pieces m ys) in omega arith

-- In a loop over pieces, the piece whose turn it is and those behind it.
pub piece_here : (ps : List (List ℕ)) (n : ℕ) (w : List ℕ) → (n < length ps) × (w ≡ get_or ps n w) → drop n ps ≡ w ∷ drop (n + 1) ps
piece_here ps n w (h, e) = drop_more ps n w h ∙ ap (λ v. v ∷ drop (n + 1) ps) (sym e)

-- The lines of a text are the pieces of what stands before the line feed at its end.
pub lines_ended : (xs : List ℕ) → lines (xs ++ 10 ∷ []) ≡ pieces 10 xs
unfolding lines pieces
lines_ended [] = refl
lines_ended (x ∷ xs) = ap (λ ls. cond (eqb x 10) ([] ∷ ls) (onto x ls)) (lines_ended xs)

pub lines_open : (xs : List ℕ) → 0 < length xs → eqb (get_or xs (length xs - 1) 0) 10 ≡ false → lines xs ≡ pieces 10 xs
unfolding lines pieces
lines_open [] h e = absurd (omega arith)
lines_open (x ∷ []) h e = cond-false (eqb x 10) ([] ∷ lines []) (onto x (lines [])) e ∙ sym (cond-false (eqb x 10) ([] ∷ pieces 10 []) (onto x (pieces 10 [])) e)
lines_open (x ∷ y ∷ ys) h e =
    let n : length (x ∷ y ∷ ys) - 1 ≡ suc (length (y ∷ ys) - 1) = omega arith in
    ap (λ ls. cond (eqb x 10) ([] ∷ ls) (onto x ls)) (lines_open (y ∷ ys) (omega arith) (subst (λ k. eqb (get_or (x ∷ y ∷ ys) k 0) 10 ≡ false) n e))

-- The same in a loop that numbers them.
pub numbered_here : (ps : List (List ℕ)) (n k : ℕ) (w : List ℕ) → (n < length (enumerate_from 0 ps)) × ((k, w) ≡ get_or (enumerate_from 0 ps) n (k, w)) →
    (k ≡ n) × (drop n ps ≡ w ∷ drop (n + 1) ps)
numbered_here ps n k w (h, e) =
    let l = length-enumerate_from 0 ps in
    let m : n < length ps = omega arith in
    let pair : ◌≡◌ {A = ℕ × List ℕ} (k, w) (0 + n, get_or ps n w) = e ∙ get_or-enumerate_from 0 ps n (k, w) m in
    let first : k ≡ 0 + n = ap (λ (p : ℕ × List ℕ). p.0) pair in
    (omega arith, piece_here ps n w (m, ap (λ (p : ℕ × List ℕ). p.1) pair))
