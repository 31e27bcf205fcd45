-- What the questions of a dictionary read from a table is what the store means.
use Rattle.std.proofs.Common.{◌≡◌, ℕ, ◌+◌, ◌*◌, ◌<◌, ◌≤◌, Bool, true, false, cond, ◌&&◌, eqb, List, length, get_or, take, drop, Some, None, sym, refl, ap, ◌∙◌, ap₂, ⊎_elim, arith}
use Rattle.std.proofs.lemmas.List.{length-take-le, take-append-drop}
use Rattle.std.proofs.lemmas.Bool.{and_left, and_right, cases_lt}
use Rattle.lexicon.specs.Lexicon.{free}
use Rattle.written.specs.Kept.{getD_counted, length_counted, none_past}
use Rattle.written.specs.Matching.{names_match}
use Rattle.written.specs.Model.{both_match, lexicon, name_of}
use Rattle.written.specs.Pages.{Inside, limit, row_at, store, taken}
use Rattle.written.specs.Store.{MARK, Whole, WholeBlock, WholeDisjunct, block_at, cell, model, name_at, names_from, numbers_at, third}
use Rattle.written.proofs.Found.{front_cell, length_entries, row_known, row_whole}
use Rattle.written.proofs.Fronts.{numbers_kept}
use Rattle.written.proofs.Names.{name_known}
use Rattle.written.proofs.Stored.{disjuncts_known}

module _ (T : List ℕ) (used words : ℕ) (roomy : taken used words ≤ limit T) where
  within : used ≤ length T
  within = omega arith

  length_front : length (take used T) ≡ used
  length_front = length-take-le used T within

  pub word_inside : (w d : ℕ) → d < length ((lexicon (model (store T used words))).disjuncts w) → w < words
  word_inside w d h =
      ⊎_elim (λ l. l)
      (λ l.
      let n = length_entries T used words in
      let e = ap length (none_past T used words w (omega arith)) in
      absurd (omega arith)) (cases_lt w words)

  pub count_past : (w : ℕ) → words ≤ w → length ((lexicon (model (store T used words))).disjuncts w) ≡ 0
  count_past w l = let n = length_entries T used words in ap length (none_past T used words w (omega arith))

  module _ (whole : Whole (store T used words)) (w : ℕ) (h : w < words) where
    whole_block : WholeBlock (take used T) (row_at T w).block
    whole_block = (row_whole T used words w h whole).1

    count_read : cell (take used T) (row_at T w).block ≡ cell T (row_at T w).block
    count_read =
        let (few, l, each) = whole_block in
        let n = length_front in
        front_cell T used (row_at T w).block (omega arith)

    pub block_inside : (row_at T w).block + 4 + 3 * cell T (row_at T w).block ≤ length T
    block_inside =
        let (few, l, each) = whole_block in
        let n = length_front in
        let e = count_read in
        let u = within in
        omega arith

    block_known : (lexicon (model (store T used words))).disjuncts w ≡ block_at (take used T) (row_at T w).block
    block_known =
        let n = length_counted (row_at T) 0 words in
        disjuncts_known (store T used words) whole w (omega arith)
        ∙ ap (λ r. block_at (take used T) r.block) (row_known T used words w h)

    pub count_known : length ((lexicon (model (store T used words))).disjuncts w) ≡ cell T (row_at T w).block
    count_known =
        ap length block_known
        ∙ (length_counted (λ k. numbers_at (take used T) (third (row_at T w).block k)) 0 (cell (take used T) (row_at T w).block)
        ∙ count_read)

    module _ (d : ℕ) (l : d < length ((lexicon (model (store T used words))).disjuncts w)) where
      at : ℕ
      at = third (row_at T w).block d

      in_block : d < cell (take used T) (row_at T w).block
      in_block = let c = count_known in let e = count_read in omega arith

      whole_disjunct : WholeDisjunct (take used T) at
      unfolding at
      whole_disjunct = whole_block.2 d in_block

      in_front : at + 3 ≤ length (take used T)
      unfolding at
      in_front = let b = whole_block.1 in let i = in_block in omega arith

      kept : numbers_at (take used T) at ≡ numbers_at T at
      kept =
          sym (numbers_kept (take used T) (drop used T) at in_front whole_disjunct)
          ∙ ap (λ f. numbers_at f at) (take-append-drop used T)

      pub head_lists : get_or ((lexicon (model (store T used words))).disjuncts w) d free ≡ numbers_at T (third (row_at T w).block d)
      unfolding at
      head_lists =
          let b = (row_at T w).block in
          ap (λ ds. get_or ds d free) block_known
          ∙ (getD_counted (λ k. numbers_at (take used T) (third b k)) 0 (cell (take used T) b) d d free in_block (omega arith) ∙ kept)

      pub head_inside : Inside T (third (row_at T w).block d)
      unfolding at
      head_inside =
          let (x, y, z, names) = whole_disjunct in
          let n = length_front in
          let u = within in
          let f = in_front in
          let c0 = front_cell T used at (omega arith) in
          let c1 = front_cell T used (at + 1) (omega arith) in
          let c2 = front_cell T used (at + 2) (omega arith) in
          (omega arith, omega arith)

-- Which numbers match: those of two names that do, by the letters that were read.
module _ (F : List ℕ) (r l : ℕ) where
  both : both_match (name_of (names_from 0 F) r) (name_of (names_from 0 F) l)
      ≡ (eqb (cell F r) MARK && (eqb (cell F l) MARK && names_match (name_at F r) (name_at F l)))
  both = ap₂ both_match (name_known F r) (name_known F l) ∙ go (eqb (cell F r) MARK) (eqb (cell F l) MARK)
    where
      go : (s t : Bool) → both_match (cond s (Some (name_at F r)) None) (cond t (Some (name_at F l)) None)
          ≡ (s && (t && names_match (name_at F r) (name_at F l)))
      go true true = refl
      go true false = refl
      go false true = refl
      go false false = refl

  pub no_right : (a : ℕ) → a ≡ r → eqb (cell F a) MARK ≡ false → false ≡ both_match (name_of (names_from 0 F) r) (name_of (names_from 0 F) l)
  no_right a e h =
      let q = ap (λ k. eqb (cell F k) MARK) e in
      sym (both ∙ and_left (eqb (cell F r) MARK) (eqb (cell F l) MARK && names_match (name_at F r) (name_at F l)) (sym q ∙ h))

  pub no_left : (b : ℕ) → b ≡ l → eqb (cell F b) MARK ≡ false → false ≡ both_match (name_of (names_from 0 F) r) (name_of (names_from 0 F) l)
  no_left b e h =
      let q = ap (λ k. eqb (cell F k) MARK) e in
      sym (both ∙ and_right (eqb (cell F r) MARK) (eqb (cell F l) MARK && names_match (name_at F r) (name_at F l))
      (and_left (eqb (cell F l) MARK) (names_match (name_at F r) (name_at F l)) (sym q ∙ h)))

  pub names_both : (a b : ℕ) → a ≡ r → b ≡ l → eqb (cell F a) MARK ≡ true → eqb (cell F b) MARK ≡ true →
      names_match (name_at F a) (name_at F b) ≡ both_match (name_of (names_from 0 F) r) (name_of (names_from 0 F) l)
  names_both a b e f g h =
      let p = sym (ap (λ k. eqb (cell F k) MARK) e) ∙ g in
      let q = sym (ap (λ k. eqb (cell F k) MARK) f) ∙ h in
      ap₂ (λ x y. names_match (name_at F x) (name_at F y)) e f
      ∙ sym (both ∙ ap₂ (λ s t. s && (t && names_match (name_at F r) (name_at F l))) p q)
