-- The rules, the tests for them and the fitting of right sides and needs say the same of a linkage.
use Rattle.std.proofs.Common.{◌≡◌, ℕ, zero, suc, ◌+◌, ◌<◌, true, cond, not, ◌&&◌, eqb, ltb, List, [], ◌∷◌, ◌++◌, length, get_or, sym, refl, ap, ◌∙◌, subst, ap₂, subst₂, inl, inr, add-zero, zero-add, arith}
use lib.ListN.{get_or-eq_default}
use Rattle.std.proofs.lemmas.Bool.{and_from, and_parts, cases_lt, eq-eqb, eqb-true, lt-ltb, ltb-true}
use Rattle.linkage.specs.Lists.{◌∈◌, every, falling, filter, has, place_of, range}
use Rattle.linkage.specs.Linkages.{Linkage, Place, Rising, Rules, after, before, choice_at, crosses, full, full_at, keeps_rules, left_list, links, matched, matching, right_end, right_list, uncrossed, unlinked}
use Rattle.linkage.specs.Sentences.{Sentence, lefts, rights, size}
use Rattle.linkage.proofs.Members.{every_in, every_of, filter_++, in_none, not_in, not_of}
use Rattle.linkage.proofs.Ranges.{in_range, of_range}
use Rattle.linkage.proofs.Fits.{Agree, Apart, Fits, Need, Side, into, side}
use Rattle.linkage.proofs.Joins.{Wire}
use Rattle.linkage.proofs.Rows.{Rows, behind, each_at, in_along, needs, of_along, outs, rising_in}
use Rattle.linkage.proofs.Weights.{in_links, of_links}

crosses_of : (e f : Wire) → crosses e f ≡ true → (e.0 < f.0) × (f.0 < e.1) × (e.1 < f.1)
crosses_of e f t =
    let a = and_parts (ltb e.0 f.0) (ltb f.0 e.1 && ltb e.1 f.1) t in
    let b = and_parts (ltb f.0 e.1) (ltb e.1 f.1) a.1 in
    (ltb-true e.0 f.0 a.0, ltb-true f.0 e.1 b.0, ltb-true e.1 f.1 b.1)

of_crosses : (e f : Wire) → e.0 < f.0 → f.0 < e.1 → e.1 < f.1 → crosses e f ≡ true
of_crosses e f a b c =
    and_from (ltb e.0 f.0) (ltb f.0 e.1 && ltb e.1 f.1) (lt-ltb e.0 f.0 a)
    (and_from (ltb f.0 e.1) (ltb e.1 f.1) (lt-ltb f.0 e.1 b) (lt-ltb e.1 f.1 c))

-- A row past the end is empty.
row_there : (x : Linkage) (i j : ℕ) → j ∈ after x i → i < length x
row_there x i j m = elim (cases_lt i (length x)) [
  | inl h ↦ h
  | inr h ↦ absurd (in_none (subst (λ (p : Place). j ∈ p.after) (get_or-eq_default x unlinked h) m))
]

-- The links of a linkage, by the rows.
in_all_links : (x : Linkage) (i j : ℕ) → j ∈ after x i → (i, j) ∈ links x
in_all_links x i j m = subst (λ k. ◌∈◌ {A = Wire} (k, j) (links x)) (zero-add i) (in_links 0 i x j (row_there x i j m) m)

of_all_links : (x : Linkage) (e : Wire) → e ∈ links x → e.1 ∈ after x e.0
of_all_links x e m = let k = of_links 0 x e m in subst (λ i. e.1 ∈ after x i) (sym (k.from ∙ zero-add k.k)) k.to

module _ (s : Sentence) (x : Linkage) where
  pub of_test : keeps_rules s x ≡ true → Rules s x
  of_test t =
      let a = and_parts (uncrossed x) (full s x && matching s x) t in
      let b = and_parts (full s x) (matching s x) a.1 in
      let counts : (i : ℕ) → i < size s → (length (after x i) ≡ length (right_list s x i)) × (length (before x i) ≡ length (left_list s x i)) = λ i h.
      let c = and_parts (eqb (length (after x i)) (length (right_list s x i))) (eqb (length (before x i)) (length (left_list s x i)))
      (every_in (full_at s x) b.0 (in_range 0 (size s) i (omega arith) (omega arith))) in
      (eqb-true (length (after x i)) (length (right_list s x i)) c.0, eqb-true (length (before x i)) (length (left_list s x i)) c.1) in
      record {
        uncrossed = λ i j k m p q h₁ h₂ h₃.
            not_of (crosses (i, j) (k, m))
            (every_in (λ f. not (crosses (i, j) f)) (every_in (λ e. every (λ f. not (crosses e f)) (links x)) a.0 (in_all_links x i j p)) (in_all_links x k m q))
            (of_crosses (i, j) (k, m) h₁ h₂ h₃);
        full_right = λ i h. (counts i h).0;
        full_left = λ i h. (counts i h).1;
        matching = λ i j m. every_in (matched s x) b.1 (in_all_links x i j m);
      }

  pub in_test : Rules s x → keeps_rules s x ≡ true
  in_test r =
      and_from (uncrossed x) (full s x && matching s x)
      (every_of (λ e. every (λ f. not (crosses e f)) (links x)) (links x) (λ e p. every_of (λ f. not (crosses e f)) (links x) (λ f q.
      not_in (crosses e f) (λ t. let c = crosses_of e f t in
      r.uncrossed e.0 e.1 f.0 f.1 (of_all_links x e p) (of_all_links x f q) c.0 c.1 c.2))))
      (and_from (full s x) (matching s x)
      (every_of (full_at s x) (range 0 (size s)) (λ i m. let h = of_range 0 (size s) i m in
      and_from (eqb (length (after x i)) (length (right_list s x i))) (eqb (length (before x i)) (length (left_list s x i)))
      (eq-eqb (length (after x i)) (length (right_list s x i)) (r.full_right i (omega arith)))
      (eq-eqb (length (before x i)) (length (left_list s x i)) (r.full_left i (omega arith)))))
      (every_of (matched s x) (links x) (λ e m. r.matching e.0 e.1 (of_all_links x e m))))

-- n numbers from i on, the largest first.
falling_from : (i n : ℕ) → List ℕ
falling_from i zero = []
falling_from i (suc n) = falling_from (suc i) n ++ (i ∷ [])

falling_is : (i n : ℕ) → falling_from i (suc n) ≡ (i + n) ∷ falling_from i n
unfolding falling_from
falling_is i zero = ap (λ k. k ∷ []) (sym (add-zero i))
falling_is i (suc n) = ap (λ l. l ++ (i ∷ [])) (falling_is (suc i) n) ∙ ap (λ k. k ∷ falling_from i (suc n)) (behind i n)

falling_all : (n : ℕ) → falling n ≡ falling_from 0 n
unfolding falling_from
falling_all zero = refl
falling_all (suc n) = ap₂ (λ k l. k ∷ l) (sym (zero-add n)) (falling_all n) ∙ sym (falling_is 0 n)

-- The positions that link to j, by the right sides and by the rows.
into_from : (s : Sentence) (j i : ℕ) (ps : Linkage) (f : ℕ → List ℕ) → ((k : ℕ) → k < length ps → f (i + k) ≡ (get_or ps k unlinked).after)
    → into (outs s i ps) j ≡ filter (λ k. has j (f k)) (falling_from i (length ps))
unfolding falling_from
into_from s j i [] f h = refl
into_from s j i (p ∷ ps) f h =
    ap₂ (λ l xs. l ++ cond (has j xs) (i ∷ []) [])
    (into_from s j (suc i) ps f (λ k lt. ap f (behind i k) ∙ h (suc k) (omega arith))) (sym (h 0 (omega arith)) ∙ ap f (add-zero i))
    ∙ sym (filter_++ (λ k. has j (f k)) (falling_from (suc i) (length ps)) (i ∷ []))

pub into_before : (s : Sentence) (x : Linkage) (j : ℕ) → into (outs s 0 x) j ≡ before x j
into_before s x j =
    into_from s j 0 x (after x) (λ k h. ap (after x) (zero-add k)) ∙ ap (filter (λ i. has j (after x i))) (sym (falling_all (length x)))

-- The right sides and the needs of a linkage, by position.
module _ (s : Sentence) (x : Linkage) where
  abbrev side_of : ℕ → Side
  side_of i = side i (after x i) (right_list s x i)

  in_outs : (i : ℕ) → i < length x → side_of i ∈ outs s 0 x
  in_outs i h = subst (λ k. side k (after x i) (rights s k (choice_at x i)) ∈ outs s 0 x) (zero-add i) (in_along _ 0 i x h)

  of_outs : (a : Side) → a ∈ outs s 0 x → (i : ℕ) × (i < length x) × (a ≡ side_of i)
  of_outs a m =
      let r = of_along (λ i p. side i p.after (rights s i p.choice)) 0 x a m in
      (r.0, r.1, r.2 ∙ ap (λ k. side k (after x r.0) (rights s k (choice_at x r.0))) (zero-add r.0))

  in_needs : (j : ℕ) → j < length x → (j, left_list s x j) ∈ needs s 0 x
  in_needs j h = subst (λ k. ◌∈◌ {A = Need} (k, lefts s k (choice_at x j)) (needs s 0 x)) (zero-add j) (in_along _ 0 j x h)

  of_needs : (b : Need) → b ∈ needs s 0 x → (j : ℕ) × (j < length x) × (b ≡ (j, left_list s x j))
  of_needs b m =
      let r = of_along (λ i p. (i, lefts s i p.choice)) 0 x b m in
      (r.0, r.1, r.2 ∙ ap (λ k. (k, lefts s k (choice_at x r.0))) (zero-add r.0))

  module _ (len : length x ≡ size s) where
    pub fits_rules : Rows (size s) 0 x → Fits s.matches (outs s 0 x) (needs s 0 x) → Rules s x
    fits_rules rows f = record {
      uncrossed = λ i j k m p q.
          f.apart (side_of i) (side_of k) (in_outs i (row_there x i j p)) (in_outs k (row_there x k m q)) j m p q;
      full_right = λ i h. f.full_out (side_of i) (in_outs i (omega arith));
      full_left = λ j h. sym (ap length (into_before s x j)) ∙ f.full_in (j, left_list s x j) (in_needs j (omega arith));
      matching = λ i j m.
          subst (λ l. s.matches (right_end s x i j) (get_or (left_list s x j) (place_of i l) 0) ≡ true) (into_before s x j)
          (f.agree (side_of i) (j, left_list s x j) (in_outs i (row_there x i j m)) (in_needs j (reach i j m)) m);
    }
      where
        reach : (i j : ℕ) → j ∈ after x i → j < length x
        reach i j m =
            let r = rising_in (0 + i) (size s) (each_at (λ i p. Rising i (size s) p.after) 0 i x rows (row_there x i j m)) m in omega arith

    pub rules_fits : Rules s x → Fits s.matches (outs s 0 x) (needs s 0 x)
    rules_fits r = record {
      full_out = λ a m. let h = of_outs a m in let lt = h.1 in
          subst (λ (a : Side). length a.to ≡ length a.by) (sym h.2) (r.full_right h.0 (omega arith));
      full_in = λ b m. let h = of_needs b m in let lt = h.1 in
          subst (λ (b : Need). length (into (outs s 0 x) b.0) ≡ length b.1) (sym h.2)
          (ap length (into_before s x h.0) ∙ r.full_left h.0 (omega arith));
      apart = λ a b p q. let g = of_outs a p in let h = of_outs b q in
          subst₂ Apart (sym g.2) (sym h.2) (λ j m u v. r.uncrossed g.0 j h.0 m u v);
      agree = λ a b p q. let g = of_outs a p in let h = of_needs b q in
          subst₂ (λ a (b : Need). Agree s.matches (into (outs s 0 x) b.0) a b) (sym g.2) (sym h.2)
          (λ k. subst (λ l. s.matches (right_end s x g.0 h.0) (get_or (left_list s x h.0) (place_of g.0 l) 0) ≡ true) (sym (into_before s x h.0))
          (r.matching g.0 h.0 k));
    }
