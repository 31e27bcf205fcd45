-- Cells that stand at a place of a front, and the disjuncts that are read back from the cells of their block.
use Rattle.std.proofs.Common.{◌≡◌, ℕ, zero, suc, ◌+◌, ◌*◌, ◌<◌, ◌≤◌, List, [], ◌∷◌, ◌++◌, length, get_or, take, sym, refl, ap, ◌∙◌, subst, ap₂, append_assoc, arith, length-append, get_or-append-add, drop_at}
use lib.Seq.{take-append_seam}
use Rattle.std.specs.List.{AllByRecursion}
use Rattle.std.proofs.lemmas.List.{get_or_append_left}
use Rattle.std.proofs.ByRecursion.{All-append, All-get_or}
use Rattle.lexicon.specs.Lexicon.{Disjunct}
use Rattle.written.specs.Store.{cell, cells, numbers_at, third, counted, block_at, heads, connectors, block_cells, WholeName, WholeDisjunct, WholeBlock}
use Rattle.written.proofs.Renamed.{Asks}

-- Some cells stand in a front at a place.
pub record Stands (front : List ℕ) (a : ℕ) (xs : List ℕ) : Type 0 where
  pub before : List ℕ
  pub rest : List ℕ
  pub is : front ≡ before ++ (xs ++ rest)
  pub place : length before ≡ a

module _ (front : List ℕ) where
  pub stands_within : (a : ℕ) (xs : List ℕ) → Stands front a xs → a + length xs ≤ length front
  stands_within a xs s =
      let e : length front ≡ length s.before + (length xs + length s.rest) = ap length s.is ∙ simp length-append in
      let p = s.place in
      omega arith

  pub stands_cells : (a : ℕ) (xs : List ℕ) → Stands front a xs → cells front a (length xs) ≡ xs
  stands_cells a xs s =
      ap (λ f. cells f a (length xs)) s.is
      ∙ (ap (take (length xs)) (drop_at s.before (xs ++ s.rest) a s.place) ∙ take-append_seam xs s.rest)

  pub stands_cell : (a : ℕ) (xs : List ℕ) → Stands front a xs → (i m : ℕ) → a + i ≡ m → i < length xs →
      cell front m ≡ get_or xs i 0
  stands_cell a xs s i m e h =
      let p = s.place in
      let q : m ≡ length s.before + i = omega arith in
      ap₂ cell s.is q ∙ (get_or-append-add s.before (xs ++ s.rest) i 0 ∙ get_or_append_left xs s.rest 0 i h)

  pub stands_front : (a : ℕ) (xs ys : List ℕ) → Stands front a (xs ++ ys) → Stands front a xs
  stands_front a xs ys s =
      record {
        before = s.before;
        rest = ys ++ s.rest;
        is = s.is ∙ ap (◌++◌ s.before) (append_assoc xs ys s.rest);
        place = s.place;
      }

  pub stands_after : (a : ℕ) (xs ys : List ℕ) → Stands front a (xs ++ ys) → (b : ℕ) → a + length xs ≡ b → Stands front b ys
  stands_after a xs ys s b e =
      record {
        before = s.before ++ xs;
        rest = s.rest;
        is = s.is ∙ (ap (◌++◌ s.before) (append_assoc xs ys s.rest) ∙ sym (append_assoc s.before xs (ys ++ s.rest)));
        place = let p = s.place in length-append s.before xs ∙ omega arith;
      }

-- Each side asks for at most eight connectors.
abbrev pub Fits : {C : Type 0} → Disjunct C → Type 0
Fits d = (length d.left ≤ 8) × (length d.right ≤ 8)

module _ (front : List ℕ) where
  -- The three cells of a disjunct and its connectors.
  module _ (a at : ℕ) (d : Disjunct ℕ) (xs ys : List ℕ) (h : Stands front a (length d.left ∷ length d.right ∷ at ∷ xs))
      (c : Stands front at (d.left ++ (d.right ++ ys))) where
    head_read : (cell front a ≡ length d.left) × (cell front (a + 1) ≡ length d.right) × (cell front (a + 2) ≡ at)
    head_read =
        let read = stands_cell front a (length d.left ∷ length d.right ∷ at ∷ xs) h in
        (read 0 a (omega arith) (omega arith), read 1 (a + 1) refl (omega arith), read 2 (a + 2) refl (omega arith))

    numbers_read : numbers_at front a ≡ d
    numbers_read =
        let (c0, c1, c2) = head_read in
        let l = stands_cells front at d.left (stands_front front at d.left (d.right ++ ys) c) in
        let after = stands_after front at d.left (d.right ++ ys) c (at + length d.left) refl in
        let next = stands_front front (at + length d.left) d.right ys after in
        let r = stands_cells front (at + length d.left) d.right next in
        simp (c0, c1, c2, l, r)

    disjunct_whole : Fits d → Asks (WholeName front) d → WholeDisjunct front a
    disjunct_whole (fl, fr) (nl, nr) =
        let (c0, c1, c2) = head_read in
        let both = d.left ++ d.right in
        let n = length-append d.left d.right in
        let s : Stands front at both =
        stands_front front at both ys (subst (Stands front at) (sym (append_assoc d.left d.right ys)) c)
        in let w = stands_within front at both s in (
          omega arith,
          omega arith,
          omega arith,
          λ i k.
              let q : i < length both = omega arith in
              let e : cell front (cell front (a + 2) + i) ≡ get_or both i 0 =
              ap (λ m. cell front (m + i)) c2 ∙ stands_cell front at both s i (at + i) refl q
              in subst (WholeName front) (sym e)
              (All-get_or (WholeName front) both i 0 q (All-append (WholeName front) d.left d.right nl nr)),
        )

  module _ (b : ℕ) where
    -- The heads of the disjuncts behind a disjunct, and their connectors.
    heads_after : (d : Disjunct ℕ) (ds : List (Disjunct ℕ)) (k at : ℕ) → Stands front (third b k) (heads at (d ∷ ds)) →
        Stands front (third b (suc k)) (heads (at + (length d.left + length d.right)) ds)
    unfolding heads
    heads_after d ds k at h =
        stands_after front (third b k) (length d.left ∷ length d.right ∷ at ∷ [])
        (heads (at + (length d.left + length d.right)) ds) h (third b (suc k)) (omega arith)

    connectors_after : (d : Disjunct ℕ) (ds : List (Disjunct ℕ)) (at : ℕ) → Stands front at (connectors (d ∷ ds)) →
        Stands front (at + (length d.left + length d.right)) (connectors ds)
    unfolding connectors
    connectors_after d ds at c =
        stands_after front (at + length d.left) d.right (connectors ds)
        (stands_after front at d.left (d.right ++ connectors ds) c (at + length d.left) refl)
        (at + (length d.left + length d.right)) (omega arith)

    heads_read : (ds : List (Disjunct ℕ)) (k at : ℕ) → Stands front (third b k) (heads at ds) → Stands front at (connectors ds) →
        counted (λ j. numbers_at front (third b j)) k (length ds) ≡ ds
    unfolding heads connectors counted
    heads_read [] k at h c = refl
    heads_read (d ∷ ds) k at h c =
        let next = at + (length d.left + length d.right) in
        ap₂ ◌∷◌ (numbers_read (third b k) at d (heads next ds) (connectors ds) h c)
        (heads_read ds (suc k) next (heads_after d ds k at h) (connectors_after d ds at c))

    heads_whole : (ds : List (Disjunct ℕ)) (k at : ℕ) → Stands front (third b k) (heads at ds) → Stands front at (connectors ds) →
        AllByRecursion Fits ds → AllByRecursion (Asks (WholeName front)) ds → (i j : ℕ) → k + i ≡ j → i < length ds → WholeDisjunct front (third b j)
    unfolding heads connectors
    heads_whole [] k at h c f n i j e l = absurd (omega arith)
    heads_whole (d ∷ ds) k at h c (f, fs) (n, ns) zero j e l =
        let next = at + (length d.left + length d.right) in
        let q : k ≡ j = omega arith in
        subst (λ m. WholeDisjunct front (third b m)) q (disjunct_whole (third b k) at d (heads next ds) (connectors ds) h c f n)
    heads_whole (d ∷ ds) k at h c (f, fs) (n, ns) (suc i) j e l =
        heads_whole ds (suc k) (at + (length d.left + length d.right)) (heads_after d ds k at h) (connectors_after d ds at c)
        fs ns i j (omega arith) (omega arith)

pub length_heads : (at : ℕ) (ds : List (Disjunct ℕ)) → length (heads at ds) ≡ 3 * length ds
unfolding heads
length_heads at [] = refl
length_heads at (d ∷ ds) = let h = length_heads (at + (length d.left + length d.right)) ds in omega arith

module _ (front : List ℕ) (b : ℕ) (ds : List (Disjunct ℕ)) (s : Stands front b (block_cells b ds)) where
  at_heads : Stands front (third b 0) (heads (third b (length ds)) ds ++ connectors ds)
  at_heads =
      stands_after front b (length ds ∷ 0 ∷ 0 ∷ 0 ∷ []) (heads (third b (length ds)) ds ++ connectors ds) s (third b 0) (omega arith)

  at_connectors : Stands front (third b (length ds)) (connectors ds)
  at_connectors =
      let n = length_heads (third b (length ds)) ds in
      stands_after front (third b 0) (heads (third b (length ds)) ds) (connectors ds) at_heads (third b (length ds)) (omega arith)

  count_read : cell front b ≡ length ds
  count_read = stands_cell front b (block_cells b ds) s 0 b (omega arith) (omega arith)

  pub block_read : block_at front b ≡ ds
  block_read =
      ap (counted (λ k. numbers_at front (third b k)) 0) count_read
      ∙ heads_read front b ds 0 (third b (length ds))
      (stands_front front (third b 0) (heads (third b (length ds)) ds) (connectors ds) at_heads) at_connectors

  pub block_whole : length ds ≤ 64 → AllByRecursion Fits ds → AllByRecursion (Asks (WholeName front)) ds → WholeBlock front b
  block_whole few fits named =
      let n = count_read in
      let w = stands_within front (third b (length ds)) (connectors ds) at_connectors in (
        omega arith,
        omega arith,
        λ k h.
            heads_whole front b ds 0 (third b (length ds))
            (stands_front front (third b 0) (heads (third b (length ds)) ds) (connectors ds) at_heads) at_connectors
            fits named k k (omega arith) (omega arith),
      )
