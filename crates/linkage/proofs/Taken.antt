-- The disjuncts that a partial linkage takes are kept by trimming, since each link of a taken disjunct ends at a taken one.
use Rattle.std.proofs.Common.{◌≡◌, ℕ, suc, ◌<◌, true, ◌&&◌, eqb, ltb, ◌⊎◌, List, [], ◌∷◌, map, length, get_or, sym, refl, subst, inl, inr, arith}
use Rattle.lexicon.specs.Lexicon.{Disjunct, free}
use Rattle.std.proofs.lemmas.Bool.{and_from, cond_both, eq-eqb, lt-ltb, ne_eqb}
use Rattle.linkage.specs.Lists.{◌∈◌, here, there, Distinct, falling, has, place_of, some_of}
use Rattle.linkage.specs.Sentences.{Choice, Position, Sentence, asked, bare, choices, position, size, takes, unstruck}
use Rattle.linkage.specs.Linkages.{Linkage, Partial, after, before, choice_at, left_end, left_list, right_end, right_list}
use Rattle.linkage.specs.Trims.{Used, all_used, kept, left_of, met, met_left, met_right, right_of, used}
use Rattle.linkage.proofs.Members.{distinct_filter, every_of, has_in, in_cases, in_concatMap, in_filter, in_has, in_map, in_none, long_since, of_filter, of_map, some_in}
use Rattle.linkage.proofs.Ranges.{distinct_falling, in_falling, in_range, of_falling}
use Rattle.linkage.proofs.Rows.{distinct_rising, rising_in}
use Rattle.linkage.proofs.Kept.{kept_holds}

-- Where there are as many links as connectors: each link has a connector, and each connector a link.
pub end_in : (cs : List ℕ) {j : ℕ} {js : List ℕ} → length js ≡ length cs → j ∈ js → get_or cs (place_of j js) 0 ∈ cs
end_in [] h m = absurd (omega (arith, long_since m))
end_in (c ∷ cs) {j} h (here {x = k} e) = rw (eq-eqb j k e) (here refl)
end_in (c ∷ cs) {j} h (there {x = k} {xs = js} m) =
    cond_both (eqb j k) 0 (suc (place_of j js)) (λ a. get_or (c ∷ cs) a 0 ∈ (c ∷ cs))
    (λ _. here refl) (λ _. there (end_in cs (omega arith) m))

pub end_of : (cs js : List ℕ) → Distinct js → length js ≡ length cs → {c : ℕ} → c ∈ cs
    → (j : ℕ) × (j ∈ js) × (get_or cs (place_of j js) 0 ≡ c)
end_of [] js n h m = absurd (in_none m)
end_of (d ∷ cs) [] n h m = absurd (omega arith)
end_of (d ∷ cs) (k ∷ js) n h (here e) = (k, here refl, rw (eq-eqb k k refl) (sym e))
end_of (d ∷ cs) (k ∷ js) n h (there m) =
    let r = end_of cs js n.1 (omega arith) m in
    (r.0, there r.1, rw (ne_eqb r.0 k (λ e. n.0 (subst (λ j. j ∈ js) e r.1))) r.2)

-- A word that asks for something is not bare.
taker : (side : Disjunct ℕ → List ℕ) → side free ≡ [] → (p : Position) (c : Choice) {d : ℕ} → d ∈ side (asked p c)
    → (k : ℕ) × (c ≡ takes k)
taker side e p bare {d} m = absurd (in_none (subst (λ l. d ∈ l) e m))
taker side e p (takes k) m = (k, refl)

-- What is taken is unstruck, and the unstruck disjuncts are all in the list of them.
pub of_choices : (s : Sentence) (i k : ℕ) → takes k ∈ choices s i → k ∈ unstruck (position s i)
of_choices s i k m = go (in_cases m)
  where
    go : (takes k ≡ bare) ⊎ (takes k ∈ map takes (unstruck (position s i))) → k ∈ unstruck (position s i)
    go (inl e) = let z : ◌≡◌ {A = ℕ} 0 1 = cc in absurd (omega arith)
    go (inr h) =
        let r = of_map takes (unstruck (position s i)) h in
        let q = r.2 in
        let e : r.0 ≡ k = cc in subst (λ n. n ∈ unstruck (position s i)) e r.1

pub in_all_used : (s : Sentence) (i k : ℕ) → i < size s → k ∈ unstruck (position s i) → used i k ∈ all_used s
in_all_used s i k h m =
    in_concatMap (λ i. map (used i) (unstruck (position s i)))
    (in_range 0 (size s) i (omega arith) (omega arith)) (in_map (used i) m)

module _ (s : Sentence) (x : Linkage) (p : Partial s x) where
  abbrev Taken : Used → Type 0
  Taken u = (u.at < size s) × (choice_at x u.at ≡ takes u.number)

  pub in_before : (i j : ℕ) → i < size s → j ∈ after x i → i ∈ before x j
  in_before i j h m = in_filter (λ i. has j (after x i)) (in_falling (length x) i (omega (arith, p.places))) (in_has m)

  pub of_before : (i j : ℕ) → i ∈ before x j → (i < size s) × (j ∈ after x i)
  of_before i j m =
      let k = of_filter (λ i. has j (after x i)) i (falling (length x)) m in
      (omega (arith, of_falling (length x) i k.0, p.places), has_in j (after x i) k.1)

  -- In a set that holds what is taken, each connector of what is taken is met: by the other end of its link.
  module _ (us : List Used) (held : (u : Used) → Taken u → u ∈ us) where
    right_met : (i c : ℕ) → i < size s → c ∈ right_list s x i → met_right s us i c ≡ true
    right_met i c h m =
        let once = distinct_rising i (size s) (after x i) (p.rising i h) in
        let (j, n, same) = end_of (right_list s x i) (after x i) once (p.rules.full_right i h) m in
        let r = rising_in i (size s) (p.rising i h) n in
        let d = end_in (left_list s x j) (p.rules.full_left j r.1) (in_before i j h n) in
        let k = taker (λ d. d.left) refl (position s j) (choice_at x j) d in
        some_in (λ v. ltb i v.at && some_of (s.matches c) (left_of s v)) (held (used j k.0) (r.1, k.1))
        (and_from _ _ (lt-ltb i j r.0)
        (some_in (s.matches c) (subst (λ o. left_end s x i j ∈ (asked (position s j) o).left) k.1 d)
        (subst (λ b. s.matches b (left_end s x i j) ≡ true) same (p.rules.matching i j n))))

    left_met : (j c : ℕ) → j < size s → c ∈ left_list s x j → met_left s us j c ≡ true
    left_met j c h m =
        let once = distinct_filter (λ i. has j (after x i)) (falling (length x)) (distinct_falling (length x)) in
        let (i, b, same) = end_of (left_list s x j) (before x j) once (p.rules.full_left j h) m in
        let n = of_before i j b in
        let r = rising_in i (size s) (p.rising i n.0) n.1 in
        let d = end_in (right_list s x i) (p.rules.full_right i n.0) n.1 in
        let k = taker (λ d. d.right) refl (position s i) (choice_at x i) d in
        some_in (λ v. ltb v.at j && some_of (λ d. s.matches d c) (right_of s v)) (held (used i k.0) (n.0, k.1))
        (and_from _ _ (lt-ltb i j r.0)
        (some_in (λ d. s.matches d c) (subst (λ o. right_end s x i j ∈ (asked (position s i) o).right) k.1 d)
        (subst (λ b. s.matches (right_end s x i j) b ≡ true) same (p.rules.matching i j n.1))))

    taken_met : (u : Used) → Taken u → met s us u ≡ true
    taken_met u t =
        let i = u.at in
        and_from _ _
        (every_of (met_right s us i) (right_of s u)
        (λ c m. right_met i c t.0 (subst (λ o. c ∈ (asked (position s i) o).right) (sym t.1) m)))
        (every_of (met_left s us i) (left_of s u)
        (λ c m. left_met i c t.0 (subst (λ o. c ∈ (asked (position s i) o).left) (sym t.1) m)))

  pub taken_kept : (i k : ℕ) → i < size s → choice_at x i ≡ takes k → used i k ∈ kept s
  taken_kept i k h e = kept_holds s Taken taken_unstruck taken_met (used i k) (h, e)
    where
      taken_unstruck : (u : Used) → Taken u → u ∈ all_used s
      taken_unstruck u t =
          let i = u.at in
          let c = subst (λ c. c ∈ choices s i) t.1 (p.chosen i t.0) in
          in_all_used s i u.number t.0 (of_choices s i u.number c)
