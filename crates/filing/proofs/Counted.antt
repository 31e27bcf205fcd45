-- Counting links tells the neighbours of a word: how many there are on each side, and which place each has among them.
use Rattle.std.proofs.Common.{◌≡◌, ℕ, suc, ◌+◌, ◌≤◌, Bool, true, false, cond, ◌&&◌, eqb, ltb, ◌⊎◌, List, [], ◌∷◌, ◌++◌, map, length, get_or, sym, refl, ap, ◌∙◌, subst, ap₂, inl, inr, add_comm, arith, length-append}
use lib.ListN.{length-map}
use Rattle.std.proofs.lemmas.Bool.{and_right, cond-false, cond-true, eq-eqb, le-ltb, lt-ltb, ne_eqb}
use Rattle.linkage.specs.Lists.{◌∈◌, here, there, filter, has, place_of}
use Rattle.linkage.specs.Linkages.{Linkage, Rising, before, links, links_from, unlinked}
use Rattle.linkage.specs.Sentences.{Sentence, rights}
use Rattle.linkage.proofs.Fits.{Side, into, of_into}
use Rattle.linkage.proofs.Joins.{Wire}
use Rattle.linkage.proofs.Members.{eqb_cases, filter_++, filter_cong, in_cases, in_has, in_none, in_split, of_map}
use Rattle.linkage.proofs.Rows.{Rows, outs, outs_span, rising_in}
use Rattle.linkage.proofs.Tested.{into_before}
use Rattle.linkage.proofs.Weights.{of_links}
use Rattle.filing.specs.Filings.{row_of}
use Rattle.filing.proofs.Refiled.{and_yes, filter_none, links_late}

-- The links from a position and to one, and of these the nearer ones.
abbrev pub from : ℕ → Wire → Bool
from i e = eqb e.0 i

abbrev pub to : ℕ → Wire → Bool
to j e = eqb e.1 j

abbrev pub nearer_from : (i j : ℕ) → Wire → Bool
nearer_from i j e = eqb e.0 i && ltb e.1 j

abbrev pub nearer_to : (i j : ℕ) → Wire → Bool
nearer_to i j e = eqb e.1 j && ltb i e.0

abbrev pub count_of : (Wire → Bool) → List Wire → ℕ
count_of p es = length (filter p es)

filter_and : {A : Type 0} (p q : A → Bool) (xs : List A) → filter (λ x. p x && q x) xs ≡ filter q (filter p xs)
filter_and p q [] = refl
filter_and p q (x ∷ xs) = ap (λ l. cond (p x && q x) (x ∷ l) l) (filter_and p q xs) ∙ go (p x)
  where
    go : (b : Bool) → cond (b && q x) (x ∷ filter q (filter p xs)) (filter q (filter p xs)) ≡ filter q (cond b (x ∷ filter p xs) (filter p xs))
    go true = refl
    go false = refl

filter_map : {A B : Type 0} (p : B → Bool) (f : A → B) (xs : List A) → filter p (map f xs) ≡ map f (filter (λ x. p (f x)) xs)
filter_map p f [] = refl
filter_map p f (x ∷ xs) = ap (λ l. cond (p (f x)) (f x ∷ l) l) (filter_map p f xs) ∙ go (p (f x))
  where
    go : (b : Bool) → cond b (f x ∷ map f (filter (λ x. p (f x)) xs)) (map f (filter (λ x. p (f x)) xs)) ≡ map f (cond b (x ∷ filter (λ x. p (f x)) xs) (filter (λ x. p (f x)) xs))
    go true = refl
    go false = refl

-- Places in a list that is lengthened.
place_in : (k : ℕ) (xs ys : List ℕ) → k ∈ xs → place_of k (xs ++ ys) ≡ place_of k xs
place_in k [] ys m = absurd (in_none m)
place_in k (x ∷ xs) ys m = elim (eqb_cases k x) [
  | inl p ↦ rw p.1 refl
  | inr p ↦ rw p.1 (ap suc (place_in k xs ys (elim (in_cases m) [ inl q ↦ absurd (p.0 q) | inr i ↦ i ])))
]

place_new : (k : ℕ) (xs : List ℕ) → (k ∈ xs → ⊥) → place_of k (xs ++ (k ∷ [])) ≡ length xs
place_new k [] d = rw (eq-eqb k k refl) refl
place_new k (x ∷ xs) d = rw (ne_eqb k x (λ q. d (here q))) (ap suc (place_new k xs (λ m. d (there m))))

-- In a rising row, the place of a position is how many are below it.
row_place : (p n j : ℕ) (row : List ℕ) → Rising p n row → j ∈ row → place_of j row ≡ length (filter (λ m. ltb m j) row)
row_place p n j [] r m = absurd (in_none m)
row_place p n j (x ∷ row) r m = elim (eqb_cases j x) [
  | inl e ↦
      let none_below : filter (λ m. ltb m j) row ≡ [] = filter_none (λ m. ltb m j) row (λ y k. let b = rising_in x n r.2 k in let q = e.0 in le-ltb y j (omega arith)) in
      rw e.1 (sym (ap length (cond-false (ltb x j) (x ∷ filter (λ m. ltb m j) row) (filter (λ m. ltb m j) row) (let q = e.0 in le-ltb x j (omega arith)) ∙ none_below)))
  | inr e ↦
      let i : j ∈ row = elim (in_cases m) [ inl q ↦ absurd (e.0 q) | inr i ↦ i ] in
      let b = rising_in x n r.2 i in
      rw e.1 (ap suc (row_place x n j row r.2 i) ∙ sym (ap length (cond-true (ltb x j) (x ∷ filter (λ m. ltb m j) row) (filter (λ m. ltb m j) row) (lt-ltb x j b.0))))
]

-- Of the links in one row, at most one goes to j.
row_to : (p n i j : ℕ) (row : List ℕ) → Rising p n row → length (filter (to j) (map (λ m. (i, m)) row)) ≡ length {A = ℕ} (cond (has j row) (i ∷ []) [])
row_to p n i j [] r = refl
row_to p n i j (x ∷ row) r = elim (eqb_cases j x) [
  | inl e ↦
      let rest : filter (to j) (map (λ m. (i, m)) row) ≡ [] = filter_none (to j) (map (λ m. (i, m)) row) (λ f k.
      let h = of_map (λ m. (i, m)) row k in let b = rising_in x n r.2 h.1 in let q = e.0 in
      let s : f.1 ≡ h.0 = ap (λ (z : Wire). z.1) h.2 in ne_eqb f.1 j (λ t. omega arith)) in
      ap length (cond-true (eqb x j) ((i, x) ∷ filter (to j) (map (λ m. (i, m)) row)) (filter (to j) (map (λ m. (i, m)) row)) (eq-eqb x j (sym e.0)) ∙ ap (λ l. (i, x) ∷ l) rest)
      ∙ sym (ap (λ b. length {A = ℕ} (cond b (i ∷ []) [])) (in_has {j = j} {xs = x ∷ row} (here e.0)))
  | inr e ↦
      ap length (cond-false (eqb x j) ((i, x) ∷ filter (to j) (map (λ m. (i, m)) row)) (filter (to j) (map (λ m. (i, m)) row)) (ne_eqb x j (λ q. e.0 (sym q))))
      ∙ row_to x n i j row r.2
      ∙ ap (λ b. length {A = ℕ} (cond b (i ∷ []) [])) (sym (has_past e.1))
]
  where
    has_past : eqb j x ≡ false → has j (x ∷ row) ≡ has j row
    has_past q = rw q refl

module _ (s : Sentence) (n j : ℕ) where
  count_into : (i : ℕ) (ps : Linkage) → Rows n i ps → length (into (outs s i ps) j) ≡ length (filter (to j) (links_from i ps))
  count_into i [] r = refl
  count_into i (p ∷ ps) r =
      let head = map (λ m. (i, m)) p.after in
      let rest = links_from (suc i) ps in
      length-append (into (outs s (suc i) ps) j) (cond (has j p.after) (i ∷ []) [])
      ∙ ap₂ ◌+◌ (count_into (suc i) ps r.1) (sym (row_to i n i j p.after r.0))
      ∙ add_comm (length (filter (to j) rest)) (length (filter (to j) head))
      ∙ sym (length-append (filter (to j) head) (filter (to j) rest))
      ∙ sym (ap length (filter_++ (to j) head rest))

  -- What links to j from behind i.
  into_late : (i : ℕ) (ps : Linkage) → Rows n i ps → (k : ℕ) → k ∈ into (outs s i ps) j → i ≤ k
  into_late i ps r k m = let h = of_into (outs s i ps) k j m in let q = h.2 in let b = outs_span s n i ps r h.0 h.1 in let l = b.0 in omega arith

  place_into : (i : ℕ) (ps : Linkage) → Rows n i ps → (k : ℕ) → (k, j) ∈ links_from i ps
      → place_of k (into (outs s i ps) j) ≡ length (filter (nearer_to k j) (links_from i ps))
  place_into i [] r k m = absurd (in_none m)
  place_into i (p ∷ ps) r k m = go (in_split head m) (place_into (suc i) ps r.1 k)
    where
      head : List Wire
      head = map (λ m. (i, m)) p.after

      rest : List Wire
      rest = links_from (suc i) ps

      -- no link of the head is nearer
      head_none : i ≤ k → filter (nearer_to k j) head ≡ []
      head_none h = filter_none (nearer_to k j) head (λ e i-e.
          let q = of_map (λ m. (i, m)) p.after i-e in
          let l : e.0 ≡ i = ap (λ (z : Wire). z.0) q.2 in
          and_right (eqb e.1 j) (ltb k e.0) (le-ltb k e.0 (omega arith)))

      only_rest : i ≤ k → length (filter (nearer_to k j) (head ++ rest)) ≡ length (filter (nearer_to k j) rest)
      only_rest h = ap length (filter_++ (nearer_to k j) head rest ∙ ap (λ l. l ++ filter (nearer_to k j) rest) (head_none h))

      go : (◌∈◌ {A = Wire} (k, j) head) ⊎ (◌∈◌ {A = Wire} (k, j) rest) → (◌∈◌ {A = Wire} (k, j) rest → place_of k (into (outs s (suc i) ps) j) ≡ length (filter (nearer_to k j) rest))
          → place_of k (into (outs s i (p ∷ ps)) j) ≡ length (filter (nearer_to k j) (head ++ rest))
      go (inl h) f =
          let q = of_map (λ m. (i, m)) p.after h in
          let l : k ≡ i = ap (λ (z : Wire). z.0) q.2 in
          let there_is : j ∈ p.after = subst (λ z. z ∈ p.after) (sym (ap (λ (z : Wire). z.1) q.2)) q.1 in
          let xs = into (outs s (suc i) ps) j in
          ap (λ b. place_of k (xs ++ cond b (i ∷ []) [])) (in_has there_is)
          ∙ ap (λ z. place_of k (xs ++ (z ∷ []))) (sym l)
          ∙ place_new k xs (λ u. let b = into_late (suc i) ps r.1 k u in omega arith)
          ∙ count_into (suc i) ps r.1
          ∙ ap length (filter_cong (to j) (nearer_to k j) rest (λ e u.
          let b = links_late (suc i) ps e u in sym (and_yes (eqb e.1 j) (ltb k e.0) (lt-ltb k e.0 (omega arith)))))
          ∙ sym (only_rest (omega arith))
      go (inr h) f =
          let late = links_late (suc i) ps (k, j) h in
          let lk = of_links (suc i) ps (k, j) h in
          place_in k (into (outs s (suc i) ps) j) (cond (has j p.after) (i ∷ []) []) (in_into_late h)
          ∙ f h
          ∙ sym (only_rest (omega arith))
        where
          in_into_late : ◌∈◌ {A = Wire} (k, j) rest → k ∈ into (outs s (suc i) ps) j
          in_into_late h =
              let lk = of_links (suc i) ps (k, j) h in
              let q = get_or ps lk.k unlinked in
              subst (λ z. z ∈ into (outs s (suc i) ps) j) (sym lk.from)
              (Rattle.linkage.proofs.Fits.in_into {a = Rattle.linkage.proofs.Fits.side (suc i + lk.k) q.after (rights s (suc i + lk.k) q.choice)} (Rattle.linkage.proofs.Rows.in_along _ (suc i) lk.k ps lk.there_is) lk.to)

-- All of it for a linkage whose rows rise.
module _ (s : Sentence) (n : ℕ) (x : Linkage) (r : Rows n 0 x) where
  pub lefts_counted : (j : ℕ) → length (before x j) ≡ length (filter (to j) (links x))
  lefts_counted j = ap length (sym (into_before s x j)) ∙ count_into s n j 0 x r

  pub left_placed : (k j : ℕ) → (k, j) ∈ links x → place_of k (before x j) ≡ length (filter (nearer_to k j) (links x))
  left_placed k j m = ap (place_of k) (sym (into_before s x j)) ∙ place_into s n j 0 x r k m

module _ (n i : ℕ) (es : List Wire) where
  pub rights_counted : length (row_of es i) ≡ length (filter (from i) es)
  rights_counted = length-map (filter (from i) es) (λ (e : Wire). e.1)

  pub right_placed : (j : ℕ) → Rising i n (row_of es i) → j ∈ row_of es i → place_of j (row_of es i) ≡ length (filter (nearer_from i j) es)
  right_placed j r m =
      row_place i n j (row_of es i) r m
      ∙ ap length (filter_map (λ m. ltb m j) (λ (e : Wire). e.1) (filter (from i) es))
      ∙ length-map (filter (λ (e : Wire). ltb e.1 j) (filter (from i) es)) (λ (e : Wire). e.1)
      ∙ ap length (sym (filter_and (from i) (λ (e : Wire). ltb e.1 j) es))
