-- How a table holds a model. Cells are written from the front and never changed; each word has a row of four cells at the
-- back. A name is a mark, its length and its bytes, and its number is the place of the mark. A block of disjuncts is its
-- number of disjuncts and three cells to spare, then for each disjunct the lengths of its two lists and the place of its
-- connectors, and then the connectors' numbers. A word's row tells where its bytes and its block of disjuncts are.
use Rattle.std.specs.Prelude.{◌≡◌, ℕ, zero, suc, ◌+◌, ◌*◌, ◌^◌, ◌<◌, ◌≤◌, cond, List, [], ◌∷◌, ◌++◌, map, length, take, drop, ◌==◌, slice_index, slice_index_or}
use Rattle.arrayvec.specs.ArrayVec.{ArrayVec}
use Rattle.lexicon.specs.Lexicon.{Disjunct}
use Rattle.formula.specs.Shown.{Spelled, spellings}
use Rattle.formula.specs.Tokens.{Name}
use Rattle.written.specs.Model.{Entry, Named, Model, renamed, number_of, mentioned, fresh}

pub record Row : Type 0 where
  pub word : ℕ
  pub length_of : ℕ
  pub block : ℕ

pub record Store : Type 0 where
  pub front : List ℕ
  pub rows : List Row

abbrev pub cell : List ℕ → ℕ → ℕ
cell front i = slice_index front i

abbrev pub cells : List ℕ → (from count : ℕ) → List ℕ
cells front a n = take n (drop a front)

-- No number of a name, no length and no byte is the mark.
abbrev pub MARK : ℕ
MARK = 65535

abbrev pub name_at : List ℕ → ℕ → Name
name_at front p = cells front (p + 2) (cell front (p + 1))

-- The names of a front whose first cell has a place.
unfoldable pub names_from : ℕ → List ℕ → List Named
names_from p [] = []
names_from p (c ∷ cs) =
    cond (c == MARK) (record { name = take (slice_index cs 0) (drop 1 cs); number = p } ∷ names_from (suc p) cs)
    (names_from (suc p) cs)

-- The disjunct whose three cells stand at a place: by the numbers of its connectors, and by their names.
abbrev pub numbers_at : List ℕ → ℕ → Disjunct ℕ
numbers_at front a = record {
  left = cells front (cell front (a + 2)) (cell front a);
  right = cells front (cell front (a + 2) + cell front a) (cell front (a + 1));
}

abbrev pub third : ℕ → ℕ → ℕ
third block k = block + 4 + 3 * k

-- The list of what a function gives at the numbers from k on, n of them.
unfoldable pub counted : {A : Type 0} → (ℕ → A) → (k n : ℕ) → List A
counted f k zero = []
counted f k (suc n) = f k ∷ counted f (suc k) n

abbrev pub block_at : List ℕ → ℕ → List (Disjunct ℕ)
block_at front b = counted (λ k. numbers_at front (third b k)) 0 (cell front b)

abbrev pub entry_of : List ℕ → Row → Entry
entry_of front r = record {
  word = cells front r.word r.length_of;
  disjuncts = map (renamed (name_at front)) (block_at front r.block);
}

-- The model that a store holds.
abbrev pub model : Store → Model
model s = record { entries = map (entry_of s.front) s.rows; names = names_from 0 s.front }

-- What keeps a store readable: all that a row, a block or a name refers to lies in the front.
abbrev pub WholeName : List ℕ → ℕ → Type 0
WholeName front p = (p + 2 ≤ length front) × (cell front p ≡ MARK) × (p + 2 + cell front (p + 1) ≤ length front)

abbrev pub WholeNames : List ℕ → Type 0
WholeNames front = (p : ℕ) → cell front p ≡ MARK → WholeName front p

abbrev pub WholeDisjunct : List ℕ → ℕ → Type 0
WholeDisjunct front a =
    (cell front a ≤ 8) × (cell front (a + 1) ≤ 8) × (cell front (a + 2) + cell front a + cell front (a + 1) ≤ length front)
    × ((i : ℕ) → i < cell front a + cell front (a + 1) → WholeName front (cell front (cell front (a + 2) + i)))

abbrev pub WholeBlock : List ℕ → ℕ → Type 0
WholeBlock front b =
    (cell front b ≤ 64) × (third b (cell front b) ≤ length front)
    × ((k : ℕ) → k < cell front b → WholeDisjunct front (third b k))

abbrev pub WholeRow : List ℕ → Row → Type 0
WholeRow front r = (r.word + r.length_of ≤ length front) × WholeBlock front r.block

abbrev pub no_row : Row
no_row = record { word = 0; length_of = 0; block = 0 }

abbrev pub Whole : Store → Type 0
Whole s =
    ((w : ℕ) → w < length s.rows → WholeRow s.front (slice_index_or s.rows w no_row))
    × WholeNames s.front
    × ((p q : ℕ) → cell s.front p ≡ MARK → cell s.front q ≡ MARK → name_at s.front p ≡ name_at s.front q → p ≡ q)
    × ((i : ℕ) → cell s.front i < 2 ^ 16)

-- What a line adds to the front: the names that are new, the block of its disjuncts, and its words.
abbrev pub name_cells : Name → List ℕ
name_cells n = MARK ∷ length n ∷ n

unfoldable pub all_name_cells : List Name → List ℕ
all_name_cells [] = []
all_name_cells (n ∷ ns) = name_cells n ++ all_name_cells ns

-- The three cells of each disjunct, where the connectors of the first begin at a place.
unfoldable pub heads : (at : ℕ) → List (Disjunct ℕ) → List ℕ
heads at [] = []
heads at (d ∷ ds) =
    length d.left ∷ length d.right ∷ at ∷ heads (at + (length d.left + length d.right)) ds

unfoldable pub connectors : List (Disjunct ℕ) → List ℕ
connectors [] = []
connectors (d ∷ ds) = d.left ++ (d.right ++ connectors ds)

-- The block of some disjuncts that begins at a place.
abbrev pub block_cells : ℕ → List (Disjunct ℕ) → List ℕ
block_cells b ds = length ds ∷ 0 ∷ 0 ∷ 0 ∷ (heads (third b (length ds)) ds ++ connectors ds)

unfoldable pub word_cells : List (List ℕ) → List ℕ
word_cells [] = []
word_cells (w ∷ ws) = w ++ word_cells ws

-- The rows of words whose bytes begin at a place and which share a block.
unfoldable pub word_rows : (at block : ℕ) → List (List ℕ) → List Row
word_rows at b [] = []
word_rows at b (w ∷ ws) = record { word = at; length_of = length w; block = b } ∷ word_rows (at + length w) b ws

-- A front with new names, one with a block of disjuncts behind it, and the store with a line more.
abbrev pub with_names : List ℕ → List Name → List ℕ
with_names front ns = front ++ all_name_cells ns

abbrev pub numbered : List ℕ → List (Disjunct Name) → List (Disjunct ℕ)
numbered front ds = map (renamed (number_of (names_from 0 front))) ds

abbrev pub with_block : List ℕ → List (Disjunct Name) → List ℕ
with_block front ds = front ++ block_cells (length front) (numbered front ds)

-- The names that a line brings, and those that a front has.
abbrev pub fresh_of : ArrayVec Spelled → List Name
fresh_of v = spellings v.items

abbrev pub known : List ℕ → List Name
known front = map (λ (m : Named). m.name) (names_from 0 front)

abbrev pub names_of : Store → List Name
names_of s = known s.front

abbrev pub with_line : Store → (words : List (List ℕ)) → List (Disjunct Name) → Store
with_line s words ds =
    let named : List ℕ = with_names s.front (fresh (names_of s) (mentioned ds)) in
    let blocked : List ℕ = with_block named ds in
    record {
      front = blocked ++ word_cells words;
      rows = s.rows ++ word_rows (length blocked) (length named) words;
    }
