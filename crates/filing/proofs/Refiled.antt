-- Rows and links tell the same: the links of a filing, laid out in rows and taken together again, are the links that were filed;
-- and a linkage that is filed is read back.
use Rattle.std.proofs.Common.{◌≡◌, ℕ, zero, suc, ◌+◌, ◌<◌, ◌≤◌, Bool, true, false, cond, not, ◌&&◌, eqb, ltb, ◌⊎◌, List, [], ◌∷◌, ◌++◌, map, length, get_or, sym, refl, ap, ◌∙◌, ap₂, inl, inr, append-nil, add-zero, zero-add, arith}
use Rattle.std.proofs.lemmas.Bool.{and_from, and_parts, cases_Bool, cases_eq, cond_both, cond-false, cond-true, eq-eqb, eqb-true, lt-ltb, ltb-true, ne_eqb, not_from_false, not_from_true, not-true, or_cases, or_left, or_right}
use Rattle.linkage.specs.Lists.{◌∈◌, here, there, every, filter, range}
use Rattle.linkage.specs.Linkages.{Linkage, Place, Rising, choice_at, links, links_from, unlinked}
use Rattle.linkage.specs.Links.{earlier}
use Rattle.linkage.specs.Sentences.{Choice, bare, takes}
use Rattle.linkage.proofs.Joins.{Wire}
use Rattle.linkage.proofs.Members.{every_in, every_of, filter_++, in_cases, in_split, of_filter, of_map}
use Rattle.linkage.proofs.Ranges.{of_range}
use Rattle.linkage.proofs.Rows.{Rows, behind, rising_in}
use Rattle.linkage.proofs.Weights.{of_links}
use Rattle.filing.specs.Filings.{byte_of, choice_of, filed, ordered, row_of}

-- The order of links.
earlier_parts : (e f : Wire) → earlier e f ≡ true → (e.0 < f.0) ⊎ ((e.0 ≡ f.0) × (e.1 < f.1))
earlier_parts e f t = elim (or_cases (ltb e.0 f.0) (eqb e.0 f.0 && ltb e.1 f.1) t) [
  | inl h ↦ inl (ltb-true e.0 f.0 h)
  | inr h ↦ let b = and_parts (eqb e.0 f.0) (ltb e.1 f.1) h in inr (eqb-true e.0 f.0 b.0, ltb-true e.1 f.1 b.1)
]

earlier_left : (e f : Wire) → e.0 < f.0 → earlier e f ≡ true
earlier_left e f h = or_left (ltb e.0 f.0) (eqb e.0 f.0 && ltb e.1 f.1) (lt-ltb e.0 f.0 h)

earlier_right : (e f : Wire) → e.0 ≡ f.0 → e.1 < f.1 → earlier e f ≡ true
earlier_right e f h k =
    or_right (ltb e.0 f.0) (eqb e.0 f.0 && ltb e.1 f.1) (and_from (eqb e.0 f.0) (ltb e.1 f.1) (eq-eqb e.0 f.0 h) (lt-ltb e.1 f.1 k))

no_sooner : (e f : Wire) → earlier e f ≡ true → e.0 ≤ f.0
no_sooner e f t = elim (earlier_parts e f t) [ inl h ↦ omega arith | inr h ↦ let q = h.0 in omega arith ]

pub ordered_parts : (e : Wire) (es : List Wire) → ordered (e ∷ es) ≡ true → ((f : Wire) → f ∈ es → earlier e f ≡ true) × (ordered es ≡ true)
ordered_parts e es t = let b = and_parts (every (earlier e) es) (ordered es) t in (λ f m. every_in (earlier e) b.0 m, b.1)

pub ordered_cons : (e : Wire) (es : List Wire) → ((f : Wire) → f ∈ es → earlier e f ≡ true) → ordered es ≡ true → ordered (e ∷ es) ≡ true
ordered_cons e es h t = and_from (every (earlier e) es) (ordered es) (every_of (earlier e) es h) t

ordered_filter : (p : Wire → Bool) (es : List Wire) → ordered es ≡ true → ordered (filter p es) ≡ true
ordered_filter p [] t = refl
ordered_filter p (e ∷ es) t =
    let b = ordered_parts e es t in
    let k = ordered_filter p es b.1 in
    cond_both (p e) (e ∷ filter p es) (filter p es) (λ l. ordered l ≡ true)
    (λ _. ordered_cons e (filter p es) (λ f m. b.0 f (of_filter p f es m).0) k) (λ _. k)

ordered_++ : (es fs : List Wire) → ordered es ≡ true → ordered fs ≡ true → ((e f : Wire) → e ∈ es → f ∈ fs → earlier e f ≡ true) → ordered (es ++ fs) ≡ true
ordered_++ [] fs t u h = u
ordered_++ (e ∷ es) fs t u h =
    let b = ordered_parts e es t in
    ordered_cons e (es ++ fs) (λ f m. elim (in_split es m) [ inl k ↦ b.0 f k | inr k ↦ h e f (here refl) k ])
    (ordered_++ es fs b.1 u (λ d f p q. h d f (there p) q))

pub earlier_trans : (e f g : Wire) → earlier e f ≡ true → earlier f g ≡ true → earlier e g ≡ true
earlier_trans e f g p q = elim (earlier_parts e f p) [
  | inl a ↦ earlier_left e g (let b = no_sooner f g q in omega arith)
  | inr a ↦ elim (earlier_parts f g q) [
    | inl b ↦ let x = a.0 in earlier_left e g (omega arith)
    | inr b ↦ let y = a.1 in let z = b.1 in earlier_right e g (a.0 ∙ b.0) (omega arith)
  ]
]

-- A test behind which another passes.
pub and_yes : (a b : Bool) → b ≡ true → (a && b) ≡ a
and_yes true b e = e
and_yes false b e = refl

-- A filter that keeps all, and one that keeps none.
pub filter_all : {A : Type 0} (p : A → Bool) (xs : List A) → ((x : A) → x ∈ xs → p x ≡ true) → filter p xs ≡ xs
filter_all p [] h = refl
filter_all p (x ∷ xs) h = cond-true (p x) (x ∷ filter p xs) (filter p xs) (h x (here refl)) ∙ ap (λ l. x ∷ l) (filter_all p xs (λ y m. h y (there m)))

pub filter_none : {A : Type 0} (p : A → Bool) (xs : List A) → ((x : A) → x ∈ xs → p x ≡ false) → filter p xs ≡ []
filter_none p [] h = refl
filter_none p (x ∷ xs) h = cond-false (p x) (x ∷ filter p xs) (filter p xs) (h x (here refl)) ∙ filter_none p xs (λ y m. h y (there m))

abbrev from : ℕ → Wire → Bool
from i e = eqb e.0 i

abbrev not_from : ℕ → Wire → Bool
not_from i e = not (from i e)

-- Of links in order, none before i, those from i come first.
first_from : (i : ℕ) (es : List Wire) → ordered es ≡ true → ((e : Wire) → e ∈ es → i ≤ e.0) → filter (from i) es ++ filter (not_from i) es ≡ es
first_from i [] t h = refl
first_from i (e ∷ es) t h = elim (cases_eq e.0 i) [
  | inl q ↦
      let yes-i : from i e ≡ true = eq-eqb e.0 i q in
      ap₂ ◌++◌ (cond-true (from i e) (e ∷ filter (from i) es) (filter (from i) es) yes-i)
      (cond-false (not_from i e) (e ∷ filter (not_from i) es) (filter (not_from i) es) (not_from_true (from i e) yes-i))
      ∙ ap (λ l. e ∷ l) (first_from i es b.1 (λ f m. h f (there m)))
  | inr d ↦
      let past : (f : Wire) → f ∈ (e ∷ es) → from i f ≡ false = λ f m. ne_eqb f.0 i (λ q. elim (in_cases m) [
        | inl r ↦ d (sym (ap (λ (z : Wire). z.0) r) ∙ q)
        | inr k ↦ let u = no_sooner e f (b.0 f k) in let v = h e (here refl) in omega arith
      ]) in
      ap₂ ◌++◌ (filter_none (from i) (e ∷ es) past) (filter_all (not_from i) (e ∷ es) (λ f m. not_from_false (from i f) (past f m)))
]
  where
    b : ((f : Wire) → f ∈ es → earlier e f ≡ true) × (ordered es ≡ true)
    b = ordered_parts e es t

-- Rows of links, under any choices.
abbrev pub laid : (ℕ → Choice) → List Wire → (i n : ℕ) → Linkage
laid f es i n = map (λ j. record { choice = f j; after = row_of es j }) (range i n)

map_cong : {A B : Type 0} (f g : A → B) (xs : List A) → ((x : A) → x ∈ xs → f x ≡ g x) → map f xs ≡ map g xs
map_cong f g [] h = refl
map_cong f g (x ∷ xs) h = ap₂ ◌∷◌ (h x (here refl)) (map_cong f g xs (λ y m. h y (there m)))

filter_filter : (i j : ℕ) (es : List Wire) → (i ≡ j → ⊥) → filter (from j) (filter (not_from i) es) ≡ filter (from j) es
filter_filter i j [] d = refl
filter_filter i j (e ∷ es) d = elim (cases_eq e.0 i) [
  | inl q ↦
      ap (filter (from j)) (cond-false (not_from i e) (e ∷ filter (not_from i) es) (filter (not_from i) es) (not_from_true (from i e) (eq-eqb e.0 i q)))
      ∙ filter_filter i j es d
      ∙ sym (cond-false (from j e) (e ∷ filter (from j) es) (filter (from j) es) (ne_eqb e.0 j (λ r. d (sym q ∙ r))))
  | inr k ↦
      ap (filter (from j)) (cond-true (not_from i e) (e ∷ filter (not_from i) es) (filter (not_from i) es) (not_from_false (from i e) (ne_eqb e.0 i k)))
      ∙ ap (λ l. cond (from j e) (e ∷ l) l) (filter_filter i j es d)
]

-- The links from i, by their right ends.
from_row : (i : ℕ) (es : List Wire) → ((e : Wire) → e ∈ es → e.0 ≡ i) → map (λ j. (i, j)) (map (λ (e : Wire). e.1) es) ≡ es
from_row i [] h = refl
from_row i (e ∷ es) h = ap₂ {C = List Wire} (λ k l. (k, e.1) ∷ l) (sym (h e (here refl))) (from_row i es (λ f m. h f (there m)))

pub relinked : (f : ℕ → Choice) (es : List Wire) (i n : ℕ) → ordered es ≡ true → ((e : Wire) → e ∈ es → (i ≤ e.0) × (e.0 < i + n)) → links_from i (laid f es i n) ≡ es
relinked f [] i zero t h = refl
relinked f (e ∷ es) i zero t h = let b = h e (here refl) in absurd (omega arith)
relinked f es i (suc n) t h =
    let rest = filter (not_from i) es in
    let same : laid f es (suc i) n ≡ laid f rest (suc i) n =
    map_cong _ _ (range (suc i) n) (λ j m. let b = of_range (suc i) n j m in
    ap (λ l. record { choice = f j; after = map (λ (e : Wire). e.1) l }) (sym (filter_filter i j es (λ q. omega arith)))) in
    ap₂ ◌++◌ (from_row i (filter (from i) es) (λ e m. eqb-true e.0 i (of_filter (from i) e es m).1))
    (ap (links_from (suc i)) same
    ∙ relinked f rest (suc i) n (ordered_filter (not_from i) es t) (λ e m.
    let k = of_filter (not_from i) e es m in
    let b = h e k.0 in
    let d : e.0 ≡ i → ⊥ = λ q. Rattle.std.proofs.lemmas.Bool.both_ways (from i e) (not-true (from i e) k.1) (eq-eqb e.0 i q) in
    (omega arith, omega arith)))
    ∙ first_from i es t (λ e m. (h e m).0)

-- The links of places from i on start at i or later.
pub links_late : (i : ℕ) (ps : Linkage) (e : Wire) → e ∈ links_from i ps → i ≤ e.0
links_late i ps e m = let k = of_links i ps e m in let q = k.from in omega arith

-- The rows of the links of some places are the rows of the places.
pub rows_again : (i k : ℕ) (ps : Linkage) → row_of (links_from i ps) (i + k) ≡ (get_or ps k unlinked).after
rows_again i k [] = refl
rows_again i zero (p ∷ ps) =
    let row = map (λ j. (i, j)) p.after in
    ap (row_of (row ++ links_from (suc i) ps)) (add-zero i)
    ∙ ap (map (λ (e : Wire). e.1)) (filter_++ (from i) row (links_from (suc i) ps)
    ∙ ap₂ ◌++◌ (filter_all (from i) row (λ e m. let r = of_map (λ j. (i, j)) p.after m in eq-eqb e.0 i (ap (λ (z : Wire). z.0) r.2)))
    (filter_none (from i) (links_from (suc i) ps) (λ e m. let q = links_late (suc i) ps e m in ne_eqb e.0 i (λ r. omega arith)))
    ∙ append-nil row)
    ∙ right_ends p.after
  where
    right_ends : (xs : List ℕ) → map (λ (e : Wire). e.1) (map (λ j. (i, j)) xs) ≡ xs
    right_ends [] = refl
    right_ends (x ∷ xs) = ap (λ l. x ∷ l) (right_ends xs)
rows_again i (suc k) (p ∷ ps) =
    let row = map (λ j. (i, j)) p.after in
    let n = i + suc k in
    ap (map (λ (e : Wire). e.1)) (filter_++ (from n) row (links_from (suc i) ps)
    ∙ ap (λ l. l ++ filter (from n) (links_from (suc i) ps)) (filter_none (from n) row (λ e m.
    let r = of_map (λ j. (i, j)) p.after m in
    let q : e.0 ≡ i = ap (λ (z : Wire). z.0) r.2 in
    ne_eqb e.0 n (λ s. omega arith))))
    ∙ ap (row_of (links_from (suc i) ps)) (sym (behind i k))
    ∙ rows_again (suc i) k ps

-- The links of rising rows are in order.
pub links_ordered : (n i : ℕ) (ps : Linkage) → Rows n i ps → ordered (links_from i ps) ≡ true
links_ordered n i [] r = refl
links_ordered n i (p ∷ ps) r =
    ordered_++ (map (λ j. (i, j)) p.after) (links_from (suc i) ps) (row_ordered i p.after r.0) (links_ordered n (suc i) ps r.1)
    (λ e f a b. let h = of_map (λ j. (i, j)) p.after a in
    let q : e.0 ≡ i = ap (λ (z : Wire). z.0) h.2 in
    let l = links_late (suc i) ps f b in
    earlier_left e f (omega arith))
  where
    row_ordered : (q : ℕ) (xs : List ℕ) → Rising q n xs → ordered (map (λ j. (i, j)) xs) ≡ true
    row_ordered q [] r = refl
    row_ordered q (x ∷ xs) r =
        ordered_cons (i, x) (map (λ j. (i, j)) xs)
        (λ f m. let h = of_map (λ j. (i, j)) xs m in
        let a = rising_in x n r.2 h.1 in
        let lefts : i ≡ f.0 = sym (ap (λ (z : Wire). z.0) h.2) in
        let rights : f.1 ≡ h.0 = ap (λ (z : Wire). z.1) h.2 in
        earlier_right (i, x) f lefts (omega arith))
        (row_ordered x xs r.2)

-- Conversely, the rows of links in order rise.
pub row_rises : (n i : ℕ) (es : List Wire) → ordered es ≡ true → ((e : Wire) → e ∈ es → (e.0 < e.1) × (e.1 < n)) → Rising i n (row_of es i)
row_rises n i es t h = go i (filter (from i) es) (ordered_filter (from i) es t) (λ e m. let k = of_filter (from i) e es m in
    let b = h e k.0 in let q = eqb-true e.0 i k.1 in (q, omega arith, b.1))
  where
    go : (p : ℕ) (fs : List Wire) → ordered fs ≡ true → ((e : Wire) → e ∈ fs → (e.0 ≡ i) × (p < e.1) × (e.1 < n)) → Rising p n (map (λ (e : Wire). e.1) fs)
    go p [] t h = tt
    go p (e ∷ fs) t h =
        let b = ordered_parts e fs t in
        let k = h e (here refl) in (
          k.1,
          k.2,
          go e.1 fs b.1 (λ f m.
              let r = h f (there m) in
              let x = k.0 in let y = r.0 in
              (r.0, elim (earlier_parts e f (b.0 f m)) [ inl q ↦ absurd (omega arith) | inr q ↦ q.1 ], r.2)),
        )

-- A list is what stands at each of its places.
range_suc : (a n : ℕ) → range (suc a) n ≡ map suc (range a n)
range_suc a zero = refl
range_suc a (suc n) = ap (λ l. suc a ∷ l) (range_suc (suc a) n)

map_map : {A B C : Type 0} (f : B → C) (g : A → B) (xs : List A) → map f (map g xs) ≡ map (λ x. f (g x)) xs
map_map f g [] = refl
map_map f g (x ∷ xs) = ap (λ l. f (g x) ∷ l) (map_map f g xs)

by_places : {A : Type 0} (xs : List A) (d : A) → map (λ i. get_or xs i d) (range 0 (length xs)) ≡ xs
by_places [] d = refl
by_places (x ∷ xs) d =
    ap (λ l. x ∷ l) (ap (map (λ i. get_or (x ∷ xs) i d)) (range_suc 0 (length xs)) ∙ map_map (λ i. get_or (x ∷ xs) i d) suc (range 0 (length xs)) ∙ by_places xs d)

-- A linkage whose numbers are below 255 is read back from its choices and links.
pub refiled : (n : ℕ) (x : Linkage) → length x ≡ n → ((i k : ℕ) → choice_at x i ≡ takes k → k < 255)
    → filed n (map (λ (p : Place). byte_of p.choice) x) (links x) ≡ x
refiled n x len few =
    map_cong _ (λ i. get_or x i unlinked) (range 0 n) (λ i m.
    ap₂ {C = Place} (λ c l. record { choice = c; after = l }) (read_choice i) (ap (row_of (links x)) (sym (zero-add i)) ∙ rows_again 0 i x))
    ∙ ap (λ k. map (λ i. get_or x i unlinked) (range 0 k)) (sym len)
    ∙ by_places x unlinked
  where
    again : (c : Choice) → ((k : ℕ) → c ≡ takes k → k < 255) → choice_of (byte_of c) ≡ c
    again bare h = refl
    again (takes k) h = let b = h k refl in cond-false (eqb k 255) bare (takes k) (ne_eqb k 255 (λ q. omega arith))

    read_choice : (i : ℕ) → choice_of (get_or (map (λ (p : Place). byte_of p.choice) x) i 255) ≡ choice_at x i
    read_choice i = ap choice_of (byte_at x i) ∙ again (choice_at x i) (few i)
      where
        byte_at : (x : Linkage) (i : ℕ) → get_or (map (λ (p : Place). byte_of p.choice) x) i 255 ≡ byte_of (choice_at x i)
        byte_at [] i = refl
        byte_at (p ∷ ps) zero = refl
        byte_at (p ∷ ps) (suc i) = byte_at ps i

-- The bytes that were filed are read back.
pub bytes_again : (n : ℕ) (cs : List ℕ) (es : List Wire) → length cs ≡ n → map (λ (p : Place). byte_of p.choice) (filed n cs es) ≡ cs
bytes_again n cs es len =
    map_map _ _ (range 0 n)
    ∙ map_cong _ (λ i. get_or cs i 255) (range 0 n) (λ i _. same (get_or cs i 255))
    ∙ ap (λ k. map (λ i. get_or cs i 255) (range 0 k)) (sym len)
    ∙ by_places cs 255
  where
    same : (b : ℕ) → byte_of (choice_of b) ≡ b
    same b = cond_both (eqb b 255) bare (takes b) (λ c. byte_of c ≡ b) (λ e. sym (eqb-true b 255 e)) (λ _. refl)

pub filed_length : (n : ℕ) (cs : List ℕ) (es : List Wire) → length (filed n cs es) ≡ n
filed_length n cs es = go 0 n
  where
    go : (a n : ℕ) → length (laid (λ i. choice_of (get_or cs i 255)) es a n) ≡ n
    go a zero = refl
    go a (suc n) = ap suc (go (suc a) n)

pub filed_at : (n : ℕ) (cs : List ℕ) (es : List Wire) (i : ℕ) → i < n → get_or (filed n cs es) i unlinked ≡ record { choice = choice_of (get_or cs i 255); after = row_of es i }
filed_at n cs es i h = go 0 n i h ∙ ap (λ k. record { choice = choice_of (get_or cs k 255); after = row_of es k }) (zero-add i)
  where
    go : (a n i : ℕ) → i < n → get_or (laid (λ i. choice_of (get_or cs i 255)) es a n) i unlinked ≡ record { choice = choice_of (get_or cs (a + i) 255); after = row_of es (a + i) }
    go a zero i h = absurd (omega arith)
    go a (suc n) zero h = ap (λ k. record { choice = choice_of (get_or cs k 255); after = row_of es k }) (sym (add-zero a))
    go a (suc n) (suc i) h = go (suc a) n i (omega arith) ∙ ap (λ k. record { choice = choice_of (get_or cs k 255); after = row_of es k }) (behind a i)
