-- A page to which words are added: their bytes at the front and their rows at the back.
use Rattle.std.proofs.Common.{◌≡◌, ℕ, suc, ◌+◌, ◌*◌, ◌≤◌, List, [], ◌∷◌, ◌++◌, length, sym, refl, ap, ◌∙◌, append_assoc, append-nil, arith, length-append}
use Rattle.written.specs.declared.page.Page.{Page}
use Rattle.written.specs.Pages.{Extended, limit, taken}
use Rattle.written.specs.Store.{Row, word_cells, word_rows}
use Rattle.written.proofs.Added.{extended_more}

pub length_rows : (at b : ℕ) (ws : List (List ℕ)) → length (word_rows at b ws) ≡ length ws
unfolding word_rows
length_rows at b [] = refl
length_rows at b (w ∷ ws) = ap suc (length_rows (at + length w) b ws)

-- Some of the words are written, and others are left.
pub record Worded (p q : Page) (b : ℕ) (left all : List (List ℕ)) : Type 0 where
  pub cells : List ℕ
  pub rows : List Row
  pub adds : Extended p q cells rows
  pub all_cells : cells ++ word_cells left ≡ word_cells all
  pub all_rows : rows ++ word_rows q.used b left ≡ word_rows p.used b all

module _ (p : Page) (b : ℕ) (all : List (List ℕ)) where
  module _ (q : Page) (left rest : List (List ℕ)) (w : List ℕ) (a : Worded p q b left all) (e : left ≡ w ∷ rest) where
    cells_left : a.cells ++ (w ++ word_cells rest) ≡ word_cells all
    unfolding word_cells
    cells_left = ap (λ ws. a.cells ++ word_cells ws) (sym e) ∙ a.all_cells

    rows_left : a.rows ++ (record { word = q.used; length_of = length w; block = b } ∷ word_rows (q.used + length w) b rest)
        ≡ word_rows p.used b all
    unfolding word_rows
    rows_left = ap (λ ws. a.rows ++ word_rows q.used b ws) (sym e) ∙ a.all_rows

    pub worded_room : taken p.used p.words + length (word_cells all) + 4 * length all ≤ limit p.table.now →
        taken q.used q.words + length w + 4 ≤ limit q.table.now
    worded_room h =
        let m : length a.cells + (length w + length (word_cells rest)) ≡ length (word_cells all) =
        simp length-append at (ap length cells_left)
        in let n : length a.rows + suc (length (word_rows (q.used + length w) b rest)) ≡ length (word_rows p.used b all) =
        simp length-append at (ap length rows_left)
        in let k = length_rows p.used b all in
        let u = a.adds in
        omega arith

    pub worded_step : (r : Page) → Extended q r w (record { word = q.used; length_of = length w; block = b } ∷ []) → Worded p r b rest all
    worded_step r h =
        let row : Row = record { word = q.used; length_of = length w; block = b } in
        record {
          cells = a.cells ++ w;
          rows = a.rows ++ (row ∷ []);
          adds = extended_more p q r a.cells w a.rows (row ∷ []) a.adds h;
          all_cells = append_assoc a.cells w (word_cells rest) ∙ cells_left;
          all_rows = append_assoc a.rows (row ∷ []) (word_rows r.used b rest)
              ∙ (ap (λ k. a.rows ++ (row ∷ word_rows k b rest)) h.used ∙ rows_left);
        }

  pub worded_end : (q : Page) (left : List (List ℕ)) → Worded p q b left all → left ≡ [] → Extended p q (word_cells all) (word_rows p.used b all)
  unfolding word_cells word_rows
  worded_end q left a e =
      let cells : a.cells ≡ word_cells all = sym (append-nil a.cells) ∙ (ap (λ ws. a.cells ++ word_cells ws) (sym e) ∙ a.all_cells) in
      let rows : a.rows ≡ word_rows p.used b all = sym (append-nil a.rows) ∙ (ap (λ ws. a.rows ++ word_rows q.used b ws) (sym e) ∙ a.all_rows) in
      rw (← cells, ← rows) a.adds
