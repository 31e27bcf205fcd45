-- What a lent table holds, by how much of its front is written and how many words have rows at its back.
use Rattle.std.specs.Prelude.{◌≡◌, ℕ, ◌+◌, ◌-◌, ◌*◌, ◌≤◌, min, List, [], ◌++◌, length, take, slice_index}
use Rattle.written.specs.Store.{Row, Store, counted}
use Rattle.written.specs.declared.page.Page.{Page}

-- Of a table at most the first 65,535 cells are used.
abbrev pub limit : List ℕ → ℕ
limit table = min (length table) 65535

-- The row of a word, counted from the back.
abbrev pub row_place : List ℕ → ℕ → ℕ
row_place table w = limit table - 4 * (w + 1)

abbrev pub row_at : List ℕ → ℕ → Row
row_at table w = record {
  word = slice_index table (row_place table w);
  length_of = slice_index table (row_place table w + 1);
  block = slice_index table (row_place table w + 2);
}

abbrev pub store : (table : List ℕ) (used words : ℕ) → Store
store table used words = record { front = take used table; rows = counted (row_at table) 0 words }

-- How many cells are taken.
abbrev pub taken : (used words : ℕ) → ℕ
taken used words = used + 4 * words

-- The three cells of a disjunct that begin at a place, and the connectors that they tell, lie in a table.
abbrev pub Inside : List ℕ → ℕ → Type 0
Inside table a =
    (a + 3 ≤ length table) × (slice_index table (a + 2) + slice_index table a + slice_index table (a + 1) ≤ length table)

-- So many cells more fit on a page; and, where a block is begun, it begins within what is written.
abbrev pub HasRoom : Page → ℕ → Type 0
HasRoom p k = taken p.used p.words + k ≤ limit p.table.now

abbrev pub HasRoomBehind : Page → (block k : ℕ) → Type 0
HasRoomBehind p block k = HasRoom p k × (block ≤ p.used)

-- What a page holds, and what a store is with cells more at its front and rows more.
unfoldable pub page_store : Page → Store
page_store p = store p.table.now p.used p.words

abbrev pub extended : Store → List ℕ → List Row → Store
extended s xs rs = record { front = s.front ++ xs; rows = s.rows ++ rs }

-- A page has some cells more at its front and some rows more, and nothing else of it has changed.
pub record Extended (p q : Page) (xs : List ℕ) (rs : List Row) : Type 0 where
  pub store : page_store q ≡ extended (page_store p) xs rs
  pub len : length q.table.now ≡ length p.table.now
  pub used : q.used ≡ p.used + length xs
  pub words : q.words ≡ p.words + length rs

abbrev pub Appended : Page → Page → List ℕ → Type 0
Appended p q xs = Extended p q xs []
