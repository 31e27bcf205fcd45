-- `linkages` lists exactly the partial linkages of a sentence, each once.
use Rattle.std.proofs.Common.{◌≡◌, ℕ, zero, suc, ◌+◌, ◌<◌, ◌⊎◌, ◌↔◌, List, [], ◌∷◌, map, length, sym, refl, ap, ◌∙◌, subst, subst₂, inl, inr, zero-add, arith}
use mathlib.Core.List.{head-eq_of_cons-eq, tail-eq_of_cons-eq}
use Rattle.std.proofs.lemmas.Bool.{cases_eq}
use Rattle.linkage.specs.Lists.{◌∈◌, here, there, Distinct, concatMap, range, sublists}
use Rattle.linkage.specs.Linkages.{Linkage, Partial, Place, Rising, Rules, after, candidates, choice_at, keeps_rules, linkages}
use Rattle.linkage.specs.Sentences.{Choice, Sentence, choices, size}
use Rattle.linkage.proofs.Members.{distinct_++, distinct_concatMap, distinct_filter, distinct_map, in_cases, in_concatMap, in_filter, in_left, in_map, in_none, in_right, in_split, of_concatMap, of_filter, of_map}
use Rattle.linkage.proofs.Once.{choices_distinct}
use Rattle.linkage.proofs.Ranges.{distinct_range}
use Rattle.linkage.proofs.Rows.{Chosen, Rows, each_at, of_each}
use Rattle.linkage.proofs.Tested.{in_test, of_test}

-- The sublists of the positions behind i are the rows that rise from i.
in_sublists : (i n : ℕ) (xs : List ℕ) → Rising i (suc i + n) xs → xs ∈ sublists (range (suc i) n)
in_sublists i zero [] r = here refl
in_sublists i zero (x ∷ xs) r = let a = r.0 in let b = r.1 in absurd (omega arith)
in_sublists i (suc n) [] r = in_right (map (λ ys. suc i ∷ ys) (sublists (range (suc (suc i)) n))) (in_sublists (suc i) n [] tt)
in_sublists i (suc n) (x ∷ xs) r =
    let end : suc i + suc n ≡ suc (suc i) + n = omega arith in
    let rest = sublists (range (suc (suc i)) n) in
    elim (cases_eq x (suc i)) [
      | inl e ↦ in_left rest (subst (λ z. (z ∷ xs) ∈ map (λ ys. suc i ∷ ys) rest) (sym e)
          (in_map (λ ys. suc i ∷ ys) (in_sublists (suc i) n xs (subst₂ (λ a b. Rising a b xs) e end r.2))))
      | inr d ↦ let a = r.0 in in_right (map (λ ys. suc i ∷ ys) rest)
          (in_sublists (suc i) n (x ∷ xs) (omega arith, subst (λ k. x < k) end r.1, subst (λ k. Rising x k xs) end r.2))
    ]

of_sublists : (i n : ℕ) (xs : List ℕ) → xs ∈ sublists (range (suc i) n) → Rising i (suc i + n) xs
of_sublists i zero xs m = elim (in_cases m) [ inl e ↦ subst (Rising i (suc i + 0)) (sym e) tt | inr k ↦ absurd (in_none k) ]
of_sublists i (suc n) xs m = go (in_split (map (λ ys. suc i ∷ ys) (sublists (range (suc (suc i)) n))) m) (of_sublists (suc i) n)
  where
    end : suc (suc i) + n ≡ suc i + suc n
    end = omega arith

    lower : (ys : List ℕ) → Rising (suc i) (suc i + suc n) ys → Rising i (suc i + suc n) ys
    lower [] r = tt
    lower (y ∷ ys) r = let a = r.0 in (omega arith, r.1, r.2)

    go : (xs ∈ map (λ ys. suc i ∷ ys) (sublists (range (suc (suc i)) n))) ⊎ (xs ∈ sublists (range (suc (suc i)) n))
        → ((ys : List ℕ) → ys ∈ sublists (range (suc (suc i)) n) → Rising (suc i) (suc (suc i) + n) ys) → Rising i (suc i + suc n) xs
    go (inl h) k =
        let r = of_map (λ ys. suc i ∷ ys) (sublists (range (suc (suc i)) n)) h in
        subst (Rising i (suc i + suc n)) (sym r.2) (omega arith, omega arith, subst (λ z. Rising (suc i) z r.0) end (k r.0 r.1))
    go (inr h) k = lower xs (subst (λ z. Rising (suc i) z xs) end (k xs h))

sublist_in : {A : Type 0} (xs ys : List A) (y : A) → ys ∈ sublists xs → y ∈ ys → y ∈ xs
sublist_in [] ys y m k = absurd (in_none (elim (in_cases m) [ inl e ↦ subst (λ z. y ∈ z) e k | inr h ↦ absurd (in_none h) ]))
sublist_in {A} (x ∷ xs) ys y m k = go (in_split (map (λ zs. x ∷ zs) (sublists xs)) m) (λ zs. sublist_in xs zs y)
  where
    go : (ys ∈ map (λ zs. x ∷ zs) (sublists xs)) ⊎ (ys ∈ sublists xs) → ((zs : List A) → zs ∈ sublists xs → y ∈ zs → y ∈ xs) → y ∈ (x ∷ xs)
    go (inl h) f =
        let r = of_map (λ zs. x ∷ zs) (sublists xs) h in
        elim (in_cases (subst (λ z. y ∈ z) r.2 k)) [ inl e ↦ here e | inr q ↦ there (f r.0 r.1 q) ]
    go (inr h) f = there (f ys h k)

distinct_sublists : {A : Type 0} (xs : List A) → Distinct xs → Distinct (sublists xs)
distinct_sublists [] n = (λ m. in_none m, tt)
distinct_sublists (x ∷ xs) n =
    distinct_++ (map (λ ys. x ∷ ys) (sublists xs)) (sublists xs)
    (distinct_map (λ ys. x ∷ ys) (sublists xs) (λ a b _ _ e. tail-eq_of_cons-eq e) (distinct_sublists xs n.1))
    (distinct_sublists xs n.1)
    (λ ys p q. let r = of_map (λ zs. x ∷ zs) (sublists xs) p in n.0 (sublist_in xs ys x q (subst (λ z. x ∈ z) (sym r.2) (here refl))))

-- The candidates are the places with options and rows that rise.
module _ (s : Sentence) where
  abbrev placed : Choice → List ℕ → Linkage → Linkage
  placed c row ps = record { choice = c; after = row } ∷ ps

  abbrev with_row : (i n : ℕ) → Choice → List ℕ → List Linkage
  with_row i n c row = map (placed c row) (candidates s (suc i) n)

  abbrev with_choice : (i n : ℕ) → Choice → List Linkage
  with_choice i n c = concatMap (with_row i n c) (sublists (range (suc i) n))

  in_candidates : (i n : ℕ) (ps : Linkage) → length ps ≡ n → Chosen s i ps → Rows (i + n) i ps → ps ∈ candidates s i n
  in_candidates i zero [] l c r = here refl
  in_candidates i zero (p ∷ ps) l c r = absurd (omega arith)
  in_candidates i (suc n) [] l c r = absurd (omega arith)
  in_candidates i (suc n) (p ∷ ps) l c r =
      let end : i + suc n ≡ suc i + n = omega arith in
      in_concatMap (with_choice i n) c.0
      (in_concatMap (with_row i n p.choice) (in_sublists i n p.after (subst (λ k. Rising i k p.after) end r.0))
      (in_map (placed p.choice p.after) (in_candidates (suc i) n ps (omega arith) c.1 (subst (λ k. Rows k (suc i) ps) end r.1))))

  record Candidate (i n : ℕ) (ps : Linkage) : Type 0 where
    choice : Choice
    row : List ℕ
    rest : Linkage
    option : choice ∈ choices s i
    row_from : row ∈ sublists (range (suc i) n)
    rest_from : rest ∈ candidates s (suc i) n
    is : ps ≡ placed choice row rest

  of_candidate : (i n : ℕ) (ps : Linkage) → ps ∈ candidates s i (suc n) → Candidate i n ps
  of_candidate i n ps m =
      let a = of_concatMap (with_choice i n) (choices s i) m in
      let b = of_concatMap (with_row i n a.0) (sublists (range (suc i) n)) a.2 in
      let d = of_map (placed a.0 b.0) (candidates s (suc i) n) b.2 in
      record { choice = a.0; row = b.0; rest = d.0; option = a.1; row_from = b.1; rest_from = d.1; is = d.2 }

  of_candidates : (i n : ℕ) (ps : Linkage) → ps ∈ candidates s i n → (length ps ≡ n) × Chosen s i ps × Rows (i + n) i ps
  of_candidates i zero ps m =
      let e : ps ≡ [] = elim (in_cases m) [ inl e ↦ e | inr k ↦ absurd (in_none k) ] in
      subst (λ z. (length z ≡ 0) × Chosen s i z × Rows (i + 0) i z) (sym e) (refl, tt, tt)
  of_candidates i (suc n) ps m =
      let d = of_candidate i n ps m in
      let r = of_candidates (suc i) n d.rest d.rest_from in
      let end : suc i + n ≡ i + suc n = omega arith in
      subst (λ z. (length z ≡ suc n) × Chosen s i z × Rows (i + suc n) i z) (sym d.is) (
        ap suc r.0,
        (d.option, r.1),
        (subst (λ k. Rising i k d.row) end (of_sublists i n d.row d.row_from), subst (λ k. Rows k (suc i) d.rest) end r.2),
      )

  distinct_candidates : (i n : ℕ) → Distinct (candidates s i n)
  distinct_candidates i zero = (λ m. in_none m, tt)
  distinct_candidates i (suc n) =
      distinct_concatMap (with_choice i n) (choices s i)
      (λ c d ps _ _ p q.
      let a = of_concatMap (with_row i n c) (sublists (range (suc i) n)) p in
      let b = of_concatMap (with_row i n d) (sublists (range (suc i) n)) q in
      ap (λ (z : Place). z.choice) (same_head c d a.0 b.0 ps a.2 b.2))
      (choices_distinct s i)
      (λ c _. distinct_concatMap (with_row i n c) (sublists (range (suc i) n))
      (λ x y ps _ _ p q. ap (λ (z : Place). z.after) (same_head c c x y ps p q))
      (distinct_sublists (range (suc i) n) (distinct_range (suc i) n))
      (λ row _. distinct_map (placed c row) (candidates s (suc i) n) (λ a b _ _ e. tail-eq_of_cons-eq e) (distinct_candidates (suc i) n)))
    where
      same_head : (c d : Choice) (x y : List ℕ) (ps : Linkage) → ps ∈ with_row i n c x → ps ∈ with_row i n d y
          → ◌≡◌ {A = Place} (record { choice = c; after = x }) (record { choice = d; after = y })
      same_head c d x y ps p q =
          let u = of_map (placed c x) (candidates s (suc i) n) p in
          let v = of_map (placed d y) (candidates s (suc i) n) q in
          head-eq_of_cons-eq (sym u.2 ∙ v.2)

  -- What a partial linkage has at each position, said of all places.
  pub rows_of : (x : Linkage) → Partial s x → Rows (size s) 0 x
  rows_of x p = of_each _ 0 x (λ k h. let len = p.places in subst (λ i. Rising i (size s) (after x k)) (sym (zero-add k)) (p.rising k (omega arith)))

  pub chosen_of : (x : Linkage) → Partial s x → Chosen s 0 x
  chosen_of x p = of_each _ 0 x (λ k h. let len = p.places in subst (λ i. choice_at x k ∈ choices s i) (sym (zero-add k)) (p.chosen k (omega arith)))

  pub partial_from : (x : Linkage) → length x ≡ size s → Chosen s 0 x → Rows (size s) 0 x → Rules s x → Partial s x
  partial_from x len c r rules = record {
    places = len;
    chosen = λ i h. subst (λ k. choice_at x i ∈ choices s k) (zero-add i) (each_at (λ i p. p.choice ∈ choices s i) 0 i x c (omega arith));
    rising = λ i h. subst (λ k. Rising k (size s) (after x i)) (zero-add i) (each_at (λ i p. Rising i (size s) p.after) 0 i x r (omega arith));
    rules = rules;
  }

  pub listed : (x : Linkage) → (x ∈ linkages s) ↔ Partial s x
  listed x = (
    λ m.
        let g = of_filter (keeps_rules s) x (candidates s 0 (size s)) m in
        let d = of_candidates 0 (size s) x g.0 in
        partial_from x d.0 d.1 (subst (λ n. Rows n 0 x) (zero-add (size s)) d.2) (of_test s x g.1),
    λ p.
        in_filter (keeps_rules s)
        (in_candidates 0 (size s) x p.places (chosen_of x p) (subst (λ n. Rows n 0 x) (sym (zero-add (size s))) (rows_of x p))) (in_test s x p.rules),
  )

  pub listed_once : Distinct (linkages s)
  listed_once = distinct_filter (keeps_rules s) (candidates s 0 (size s)) (distinct_candidates 0 (size s))
