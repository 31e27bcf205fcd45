-- A line that is written in three parts: what each part takes, that the front stays whole with the new names, and that the
-- parts make the line.
use Rattle.std.proofs.Common.{◌≡◌, ℕ, ◌+◌, ◌*◌, ◌≤◌, List, [], ◌∷◌, ◌++◌, length, refl, ap, ◌∙◌, arith, length-append, length-take-le}
use Rattle.lexicon.specs.Lexicon.{Disjunct}
use Rattle.formula.specs.Tokens.{Name}
use Rattle.written.specs.declared.page.Page.{Page}
use Rattle.written.specs.Costs.{each_takes}
use Rattle.written.specs.Model.{fresh, mentioned}
use Rattle.written.specs.Pages.{page_store}
use Rattle.written.specs.Store.{Store, all_name_cells, numbered, block_cells, word_cells, word_rows, with_line, names_of as store_names}

-- Each name takes two cells and one for each byte, and each word a row and one for each byte.
pub names_take : (ns : List Name) → each_takes 2 ns ≡ length (all_name_cells ns)
unfolding each_takes all_name_cells
names_take [] = refl
names_take (n ∷ ns) = let r = names_take ns in simp length-append (omega arith)

pub words_take : (ws : List (List ℕ)) → each_takes 4 ws ≡ length (word_cells ws) + 4 * length ws
unfolding each_takes word_cells
words_take [] = refl
words_take (w ∷ ws) = let r = words_take ws in simp length-append (omega arith)

pub length_front : (p : Page) → p.used ≤ length p.table.now → length (page_store p).front ≡ p.used
unfolding page_store
length_front p h = length-take-le p.used p.table.now h

-- A store with cells more.
abbrev pub with_cells : Store → List ℕ → Store
with_cells s xs = record { front = s.front ++ xs; rows = s.rows }

-- A line by its three parts.
module _ (ws : List (List ℕ)) (ds : List (Disjunct Name)) where
  abbrev blocked : Store → ℕ → Store
  blocked s u = with_cells s (block_cells u (numbered s.front ds))

  abbrev worded : Store → (at b : ℕ) → Store
  worded s at b = record { front = s.front ++ word_cells ws; rows = s.rows ++ word_rows at b ws }

  pub line_parts : (s s1 s2 s3 : Store) (ns : List Name) (u v : ℕ) → ns ≡ fresh (store_names s) (mentioned ds) →
      s1 ≡ with_cells s (all_name_cells ns) → u ≡ length s1.front → s2 ≡ blocked s1 u → v ≡ length s2.front →
      s3 ≡ worded s2 v u → s3 ≡ with_line s ws ds
  line_parts s s1 s2 s3 ns u v en e1 eu e2 ev e3 =
      e3
      ∙ (ap (λ n. worded s2 n u) ev
      ∙ (ap (λ (x : Store). worded x (length x.front) u) e2
      ∙ (ap (λ n. worded (blocked s1 n) (length (blocked s1 n).front) n) eu
      ∙ (ap whole_line e1 ∙ ap (λ n. whole_line (with_cells s (all_name_cells n))) en))))
    where
      whole_line : Store → Store
      whole_line x = worded (blocked x (length x.front)) (length (blocked x (length x.front)).front) (length x.front)
