-- A front that is extended: whatever lay whole in it lies whole in the longer one and reads the same.
use Rattle.std.proofs.Common.{◌≡◌, ℕ, ◌+◌, ◌<◌, ◌≤◌, List, ◌++◌, map, length, drop, sym, ap, ◌∙◌, subst, arith, length-append, length-drop, length-take}
use lib.Seq.{take-append-le, drop-append-le}
use Rattle.std.specs.List.{AllByRecursion}
use Rattle.std.proofs.lemmas.List.{get_or_append_left, get_or-take, get_or-drop}
use Rattle.std.proofs.ByRecursion.{All-from_get_or}
use Rattle.written.specs.Model.{renamed}
use Rattle.written.specs.Store.{Row, cell, cells, name_at, numbers_at, third, counted, block_at, entry_of, WholeName, WholeDisjunct, WholeBlock, WholeRow}
use Rattle.written.proofs.Renamed.{Asks, asks_weaker, renamed_same, counted_same, all_counted}

pub cells_all : (P : ℕ → Type 0) (F : List ℕ) (a n : ℕ) → ((i : ℕ) → i < n → P (cell F (a + i))) → AllByRecursion P (cells F a n)
cells_all P F a n f =
    All-from_get_or P (cells F a n) 0
    (λ i h.
    let k : i < n = omega (arith, length-take n (drop a F)) in
    subst P (sym (get_or-take n (drop a F) i 0 k ∙ get_or-drop a F i 0)) (f i k))

-- The connectors of a whole disjunct, and of a whole block, are whole names.
pub disjunct_named : (F : List ℕ) (a : ℕ) → WholeDisjunct F a → Asks (WholeName F) (numbers_at F a)
disjunct_named F a (x, y, z, names) =
    let at = cell F (a + 2) in
    let l = cell F a in (
      cells_all (WholeName F) F at l (λ i h. names i (omega arith)),
      cells_all (WholeName F) F (at + l) (cell F (a + 1))
          (λ i h.
          let e : at + (l + i) ≡ at + l + i = omega arith in
          subst (λ m. WholeName F (cell F m)) e (names (l + i) (omega arith))),
    )

pub block_named : (F : List ℕ) (b : ℕ) → WholeBlock F b → AllByRecursion (Asks (WholeName F)) (block_at F b)
block_named F b (x, y, each) =
    all_counted (Asks (WholeName F)) (λ k. numbers_at F (third b k)) 0 (cell F b)
    (λ k l h. disjunct_named F (third b k) (each k (omega arith)))

module _ (F G : List ℕ) where
  pub cell_kept : (i : ℕ) → i < length F → cell (F ++ G) i ≡ cell F i
  cell_kept i h = get_or_append_left F G 0 i h

  pub cells_kept : (a n : ℕ) → a + n ≤ length F → cells (F ++ G) a n ≡ cells F a n
  cells_kept a n h =
      let l : a ≤ length F = omega arith in
      let m : n ≤ length (drop a F) = simp length-drop (omega arith) in
      rw (drop-append-le a F G l, take-append-le n (drop a F) G m)

  pub name_kept : (p : ℕ) → WholeName F p → name_at (F ++ G) p ≡ name_at F p
  name_kept p h =
      let c = cell_kept (p + 1) (omega arith) in
      ap (λ n. cells (F ++ G) (p + 2) n) c ∙ cells_kept (p + 2) (cell F (p + 1)) h.2

  pub whole_name_kept : (p : ℕ) → WholeName F p → WholeName (F ++ G) p
  whole_name_kept p (l, m, e) =
      let n = length-append F G in
      let c = cell_kept (p + 1) (omega arith) in
      (omega arith, cell_kept p (omega arith) ∙ m, omega arith)

  module _ (a : ℕ) (inside : a + 3 ≤ length F) where
    pub whole_disjunct_kept : WholeDisjunct F a → WholeDisjunct (F ++ G) a
    whole_disjunct_kept (x, y, z, names) =
        let n = length-append F G in
        let c0 = cell_kept a (omega arith) in
        let c1 = cell_kept (a + 1) (omega arith) in
        let c2 = cell_kept (a + 2) (omega arith) in (
          omega arith,
          omega arith,
          omega arith,
          λ i h.
              let k : i < cell F a + cell F (a + 1) = omega arith in
              let l : cell F (a + 2) + i < length F = omega arith in
              let q : cell (F ++ G) (cell (F ++ G) (a + 2) + i) ≡ cell F (cell F (a + 2) + i) =
              ap (λ m. cell (F ++ G) (m + i)) c2 ∙ cell_kept (cell F (a + 2) + i) l
              in subst (WholeName (F ++ G)) (sym q) (whole_name_kept (cell F (cell F (a + 2) + i)) (names i k)),
        )

    pub numbers_kept : WholeDisjunct F a → numbers_at (F ++ G) a ≡ numbers_at F a
    numbers_kept (x, y, z, names) =
        let c0 = cell_kept a (omega arith) in
        let c1 = cell_kept (a + 1) (omega arith) in
        let c2 = cell_kept (a + 2) (omega arith) in
        let l = cells_kept (cell F (a + 2)) (cell F a) (omega arith) in
        let r = cells_kept (cell F (a + 2) + cell F a) (cell F (a + 1)) (omega arith) in
        simp (c0, c1, c2, l, r)

  pub block_kept : (b : ℕ) → WholeBlock F b → block_at (F ++ G) b ≡ block_at F b
  block_kept b (x, y, each) =
      let c = cell_kept b (omega arith) in
      ap (counted (λ k. numbers_at (F ++ G) (third b k)) 0) c
      ∙ counted_same (λ k. numbers_at (F ++ G) (third b k)) (λ k. numbers_at F (third b k)) 0 (cell F b)
      (λ k l h. numbers_kept (third b k) (omega arith) (each k (omega arith)))

  pub whole_block_kept : (b : ℕ) → WholeBlock F b → WholeBlock (F ++ G) b
  whole_block_kept b (x, y, each) =
      let n = length-append F G in
      let c = cell_kept b (omega arith) in
      (omega arith, omega arith, λ k h. whole_disjunct_kept (third b k) (omega arith) (each k (omega arith)))

  pub whole_row_kept : (r : Row) → WholeRow F r → WholeRow (F ++ G) r
  whole_row_kept r (l, b) = let n = length-append F G in (omega arith, whole_block_kept r.block b)

  pub entry_kept : (r : Row) → WholeRow F r → entry_of (F ++ G) r ≡ entry_of F r
  entry_kept r (l, b) =
      let w = cells_kept r.word r.length_of l in
      let e : map (renamed (name_at (F ++ G))) (block_at (F ++ G) r.block) ≡ map (renamed (name_at F)) (block_at F r.block) =
      ap (map (renamed (name_at (F ++ G)))) (block_kept r.block b)
      ∙ renamed_same (name_at (F ++ G)) (name_at F) (block_at F r.block)
      (asks_weaker (WholeName F) (λ p. name_at (F ++ G) p ≡ name_at F p) name_kept (block_at F r.block)
      (block_named F r.block b))
      in λ i. record { word = w i; disjuncts = e i }
