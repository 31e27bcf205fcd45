-- A store keeps the limits of a dictionary: the proofs that a written dictionary hands over with its answers.
use Rattle.std.specs.Prelude.{◌≡◌, ℕ, zero, suc, ◌+◌, ◌^◌, ◌<◌, ◌≤◌, List, [], ◌∷◌, map, length, get_or, take, ◌==◌, slice_index, slice_index_or}
use Rattle.std.proofs.Math.Logic.{∥∥₁_elim}
use Rattle.std.proofs.Math.Bridge.{le_prop}
use Rattle.std.proofs.Math.Nat.{ℕ_set}
use Rattle.std.proofs.Common.{⊎_elim, sym, subst, ◌∙◌, lit<, lit≤, length-take}
use Rattle.std.proofs.Math.Path.{refl, ap}
use native.Mathlib.Omega.{arith}
use Rattle.std.proofs.lemmas.List.{get_or-map, get_or_past, length-map}
use Rattle.std.proofs.lemmas.Bool.{cases_lt, cond_both}
use Rattle.lexicon.specs.declared.side.Side.{Side}
use Rattle.lexicon.specs.declared.side.Side.TheVariants.{Left, Right}
use Rattle.lexicon.specs.Lexicon.{Disjunct, free, side_of}
use Rattle.lexicon.specs.Limits.{FewWords, NonePast, FewDisjuncts, ShortLists, SmallConnectors}
use Rattle.formula.specs.Tokens.{Name}
use Rattle.written.specs.Matching.{same}
use Rattle.written.specs.Model.{Entry, lexicon, number_of, renamed, no_entry}
use Rattle.written.specs.Pages.{limit, taken, store, row_at}
use Rattle.written.specs.Store.{Store, MARK, Whole, cell, name_at, names_from, numbers_at, third, counted, block_at, entry_of, model, no_row}

-- What keeps a store readable is made of comparisons and equations of numbers, so it comes out of a truncation.
module _ (s : Store) (t : ∥ Whole s ∥₁) where
  least : {m n : ℕ} → (Whole s → m ≤ n) → m ≤ n
  least f = ∥∥₁_elim t le_prop f

  level : {m n : ℕ} → (Whole s → m ≡ n) → m ≡ n
  level f = ∥∥₁_elim t (ℕ_set _ _) f

  pub whole_known : Whole s
  whole_known = (
    λ w h. (
      least (λ x. (x.0 w h).0),
      (
        least (λ x. (x.0 w h).1.0),
        least (λ x. (x.0 w h).1.1),
        λ k l. (
          least (λ x. ((x.0 w h).1.2 k l).0),
          least (λ x. ((x.0 w h).1.2 k l).1),
          least (λ x. ((x.0 w h).1.2 k l).2),
          λ i m. (
            least (λ x. (((x.0 w h).1.2 k l).3 i m).0),
            level (λ x. (((x.0 w h).1.2 k l).3 i m).1),
            least (λ x. (((x.0 w h).1.2 k l).3 i m).2),
          ),
        ),
      ),
    ),
    λ p e. (least (λ x. (x.1 p e).0), level (λ x. (x.1 p e).1), least (λ x. (x.1 p e).2)),
    λ p q e f g. level (λ x. x.2 p q e f g),
    λ i. least (λ x. x.3 i),
  )

module _ {A : Type 0} (f : ℕ → A) where
  pub length_counted : (k n : ℕ) → length (counted f k n) ≡ n
  unfolding counted
  length_counted k zero = refl
  length_counted k (suc n) = ap suc (length_counted (suc k) n)

  pub getD_counted : (k n i j : ℕ) (e : A) → i < n → k + i ≡ j → slice_index_or (counted f k n) i e ≡ f j
  unfolding counted
  getD_counted k zero i j e h p = absurd (omega arith)
  getD_counted k (suc n) zero j e h p = let q : k ≡ j = omega arith in ap f q
  getD_counted k (suc n) (suc i) j e h p = getD_counted (suc k) n i j e (omega arith) (omega arith)

module _ {A B : Type 0} (f : A → B) where
  pub getD_renamed : (ds : List (Disjunct A)) (k : ℕ) → slice_index_or (map (renamed f) ds) k free ≡ renamed f (slice_index_or ds k free)
  getD_renamed [] k = refl
  getD_renamed (d ∷ ds) zero = refl
  getD_renamed (d ∷ ds) (suc k) = getD_renamed ds k

  pub side_renamed : (d : Disjunct A) (t : Side) → side_of (renamed f d) t ≡ map f (side_of d t)
  side_renamed d Left = refl
  side_renamed d Right = refl

  list_renamed : (ds : List (Disjunct A)) (k : ℕ) (t : Side) →
      side_of (slice_index_or (map (renamed f) ds) k free) t ≡ map f (side_of (slice_index_or ds k free) t)
  list_renamed ds k t = ap (λ d. side_of d t) (getD_renamed ds k) ∙ side_renamed (slice_index_or ds k free) t

  length_renamed : (ds : List (Disjunct A)) (k : ℕ) (t : Side) →
      length (side_of (slice_index_or (map (renamed f) ds) k free) t) ≡ length (side_of (slice_index_or ds k free) t)
  length_renamed ds k t = ap length (list_renamed ds k t) ∙ length-map (side_of (slice_index_or ds k free) t) f

-- The number of a name is a place of the front.
pub number_small : (q : ℕ) (F : List ℕ) (n : Name) → q + length F ≤ 65535 → number_of (names_from q F) n < 2 ^ 16
unfolding names_from number_of
number_small q [] n h = lit< tt
number_small q (c ∷ cs) n h =
    let rest = number_small (suc q) cs n (omega arith) in
    cond_both (c == MARK) (record { name = name_at (c ∷ cs) 0; number = q } ∷ names_from (suc q) cs) (names_from (suc q) cs)
    (λ ms. number_of ms n < 2 ^ 16)
    (λ _. cond_both (same (name_at (c ∷ cs) 0) n) q (number_of (names_from (suc q) cs) n) (λ k. k < 2 ^ 16) (λ _. omega arith) (λ _. rest))
    (λ _. rest)

small_map : {A : Type 0} (f : A → ℕ) → ((x : A) → f x < 2 ^ 16) → (xs : List A) (i : ℕ) → slice_index (map f xs) i < 2 ^ 16
small_map f h [] i = lit< tt
small_map f h (x ∷ xs) zero = h x
small_map f h (x ∷ xs) (suc i) = small_map f h xs i

-- The disjuncts that a store has for a word, by names.
abbrev ways : Store → ℕ → List (Disjunct Name)
ways s w = (get_or (model s).entries w no_entry).disjuncts

module _ (s : Store) where
  ways_past : (w : ℕ) → length s.rows ≤ w → ways s w ≡ []
  ways_past w h =
      let n = length-map s.rows (entry_of s.front) in
      ap (λ (e : Entry). e.disjuncts) (get_or_past (map (entry_of s.front) s.rows) w no_entry (omega arith))

  ways_known : (w : ℕ) → w < length s.rows →
      ways s w ≡ map (renamed (name_at s.front)) (block_at s.front (get_or s.rows w no_row).block)
  ways_known w h = ap (λ (e : Entry). e.disjuncts) (get_or-map (entry_of s.front) s.rows w no_row no_entry h)

  none_past_ways : NonePast (lexicon (model s))
  none_past_ways w h =
      let n = length-map s.rows (entry_of s.front) in
      ap (map (renamed (number_of (model s).names))) (ways_past w (omega arith))

  module _ (whole : Whole s) where
    few_ways : (w : ℕ) → length (ways s w) ≤ 64
    few_ways w =
        ⊎_elim
        (λ h.
        let b = (get_or s.rows w no_row).block in
        let B = block_at s.front b in
        let e : length (ways s w) ≡ cell s.front b =
        ap length (ways_known w h)
        ∙ (length-map B (renamed (name_at s.front))
        ∙ length_counted (λ k. numbers_at s.front (third b k)) 0 (cell s.front b))
        in let l = (whole.0 w h).1.0 in omega arith)
        (λ h. let e = ap length (ways_past w h) in omega arith) (cases_lt w (length s.rows))

    short_block : (b : ℕ) → ((k : ℕ) → k < cell s.front b → (cell s.front (third b k) ≤ 8) × (cell s.front (third b k + 1) ≤ 8)) →
        (k : ℕ) (t : Side) → length (side_of (slice_index_or (block_at s.front b) k free) t) ≤ 8
    short_block b each k t =
        ⊎_elim
        (λ h.
        let F = s.front in
        let e = getD_counted (λ j. numbers_at F (third b j)) 0 (cell F b) k k free h (omega arith) in
        let D = numbers_at F (third b k) in
        let (x, y) = each k h in
        let l : length D.left ≤ 8 = simp length-take (omega arith) in
        let r : length D.right ≤ 8 = simp length-take (omega arith) in
        subst (λ d. length (side_of d t) ≤ 8) (sym e) (sided D t l r))
        (λ h.
        let F = s.front in
        let n = length_counted (λ j. numbers_at F (third b j)) 0 (cell F b) in
        let e : get_or (block_at F b) k free ≡ free = get_or_past (block_at F b) k free (omega arith) in
        subst (λ d. length (side_of d t) ≤ 8) (sym e) (sided free t (lit≤ tt) (lit≤ tt))) (cases_lt k (cell s.front b))
      where
        sided : (d : Disjunct ℕ) (t : Side) → length d.left ≤ 8 → length d.right ≤ 8 → length (side_of d t) ≤ 8
        sided d Left l r = l
        sided d Right l r = r

    short_ways : (w k : ℕ) (t : Side) → length (side_of (slice_index_or (ways s w) k free) t) ≤ 8
    short_ways w k t =
        ⊎_elim
        (λ h.
        let b = (get_or s.rows w no_row).block in
        let B = block_at s.front b in
        let each = (whole.0 w h).1.2 in
        let e : length (side_of (slice_index_or (ways s w) k free) t) ≡ length (side_of (slice_index_or B k free) t) =
        ap (λ ds. length (side_of (slice_index_or ds k free) t)) (ways_known w h) ∙ length_renamed (name_at s.front) B k t
        in let l = short_block b (λ j g. ((each j g).0, (each j g).1)) k t in omega arith)
        (λ h. subst (λ ds. length (side_of (slice_index_or ds k free) t) ≤ 8) (sym (ways_past w h)) (none t))
        (cases_lt w (length s.rows))
      where
        none : (t : Side) → length (side_of (free {C = Name}) t) ≤ 8
        none Left = lit≤ tt
        none Right = lit≤ tt

-- The limits of the dictionary that a table holds.
module _ (table : List ℕ) (used words : ℕ) where
  pub few_words : words ≤ 256 → FewWords (lexicon (model (store table used words)))
  few_words h =
      let n = length-map (counted (row_at table) 0 words) (entry_of (take used table)) in
      let m = length_counted (row_at table) 0 words in
      omega arith

  pub none_past : NonePast (lexicon (model (store table used words)))
  none_past = none_past_ways (store table used words)

  pub few_disjuncts : ∥ Whole (store table used words) ∥₁ → FewDisjuncts (lexicon (model (store table used words)))
  few_disjuncts t w =
      let s = store table used words in
      let l = few_ways s (whole_known s t) w in
      let n = length-map (ways s w) (renamed (number_of (model s).names)) in
      omega arith

  pub short_lists : ∥ Whole (store table used words) ∥₁ → ShortLists (lexicon (model (store table used words)))
  short_lists t w k side =
      let s = store table used words in
      let l = short_ways s (whole_known s t) w k side in
      let n = length_renamed (number_of (model s).names) (ways s w) k side in
      omega arith

  pub small_connectors : taken used words ≤ limit table → SmallConnectors (lexicon (model (store table used words)))
  small_connectors h w k side i =
      let s = store table used words in
      let f = number_of (model s).names in
      let n : length (take used table) ≤ 65535 = simp length-take (omega arith) in
      subst (λ xs. slice_index xs i < 2 ^ 16) (sym (list_renamed f (ways s w) k side))
      (small_map f (λ m. number_small 0 (take used table) m (omega arith)) (side_of (slice_index_or (ways s w) k free) side) i)
