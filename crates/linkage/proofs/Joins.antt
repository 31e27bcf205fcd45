-- Parts: labels tell which positions links join, and how many parts there are follows the splits of a region. In a region
-- between L and R, where L and R count as joined, `loose` counts the parts that hold together with neither; it adds up where
-- regions are glued, and grows by one where a part begins. At the end, what labels tell is the equivalence that links generate.
use Rattle.std.proofs.Common.{◌≡◌, ℕ, zero, suc, ◌+◌, ◌-◌, ◌<◌, ◌≤◌, min, max, Bool, true, false, cond, not, ◌&&◌, eqb, ltb, leb, ◌⊎◌, ◌↔◌, List, [], ◌∷◌, ◌++◌, length, sym, refl, ap, ◌∙◌, subst, ap₂, inl, inr, arith, length-append}
use Rattle.std.proofs.lemmas.Bool.{and_from, and_left, and_right, cases_Bool, cases_eq, cases_order, cond-false, cond-true, eq-eqb, eqb-true, false_from_ne_true, le-leb, le-ltb, lt-leb, lt-ltb, ne_eqb, true≢false}
use Rattle.linkage.specs.Lists.{◌∈◌, here, there, between, filter, range}
use Rattle.linkage.specs.Parts.{Heads, Joined, alone, chained, heads, label, leads, link, turned}
use Rattle.linkage.proofs.Members.{distinct_filter, every_in, every_of, filter_++, filter_cong, in_both, in_cons, in_filter, in_left, in_right, not_in, not_of, of_filter, same_test}
use Rattle.linkage.proofs.Ranges.{between_split, distinct_range, in_range, of_between, of_range}

abbrev pub Wire : Type 0
Wire = ℕ × ℕ

-- Two positions are in one part.
abbrev pub Same : List Wire → ℕ → ℕ → Type 0
Same es u v = label es u ≡ label es v

label_hit : (e : Wire) (es : List Wire) (u : ℕ) → Same es u e.1 → label (e ∷ es) u ≡ label es e.0
label_hit e es u h = cond-true (eqb (label es u) (label es e.1)) (label es e.0) (label es u) (eq-eqb (label es u) (label es e.1) h)

label_miss : (e : Wire) (es : List Wire) (u : ℕ) → (Same es u e.1 → ⊥) → label (e ∷ es) u ≡ label es u
label_miss e es u h = cond-false (eqb (label es u) (label es e.1)) (label es e.0) (label es u) (ne_eqb (label es u) (label es e.1) h)

pub same_more : (e : Wire) (es : List Wire) (u v : ℕ) → Same es u v → Same (e ∷ es) u v
same_more e es u v h = ap (λ k. cond (eqb k (label es e.1)) (label es e.0) k) h

-- Linked positions are in one part.
pub same_wire : {e : Wire} {es : List Wire} → e ∈ es → Same es e.0 e.1
same_wire (here {x = d} {xs = es} q) =
    subst (λ (k : Wire). Same (d ∷ es) k.0 k.1) (sym q) (go (cases_eq (label es d.0) (label es d.1)) ∙ sym (label_hit d es d.1 refl))
  where
    go : Same es d.0 d.1 ⊎ (Same es d.0 d.1 → ⊥) → label (d ∷ es) d.0 ≡ label es d.0
    go (inl p) = label_hit d es d.0 p
    go (inr p) = label_miss d es d.0 p
same_wire {e} (there {x = d} {xs = es} m) = same_more d es e.0 e.1 (same_wire m)

-- And no others are. The two ways of being joined, through a first link or not.
pub same_cases : (e : Wire) (es : List Wire) (u v : ℕ) (Q : Type 0) → Same (e ∷ es) u v
    → (Same es u v → Q) → (Same es u e.1 → Same es e.0 v → Q) → (Same es u e.0 → Same es v e.1 → Q) → Q
same_cases e es u v Q q direct forth back = go (cases_eq (label es u) (label es e.1)) (cases_eq (label es v) (label es e.1))
  where
    go : Same es u e.1 ⊎ (Same es u e.1 → ⊥) → Same es v e.1 ⊎ (Same es v e.1 → ⊥) → Q
    go (inl p) (inl r) = direct (p ∙ sym r)
    go (inl p) (inr r) = forth p (sym (label_hit e es u p) ∙ q ∙ label_miss e es v r)
    go (inr p) (inl r) = back (sym (label_miss e es u p) ∙ q ∙ label_hit e es v r) r
    go (inr p) (inr r) = direct (sym (label_miss e es u p) ∙ q ∙ label_miss e es v r)

-- What links keep, parts keep.
pub same_keeps : {B : Type 0} (es : List Wire) (f : ℕ → B) → ((e : Wire) → e ∈ es → f e.0 ≡ f e.1) → (u v : ℕ) → Same es u v → f u ≡ f v
same_keeps [] f h u v q = ap f q
same_keeps (e ∷ es) f h u v q =
    let k = same_keeps es f (λ d m. h d (there m)) in
    let here-e = h e (here refl) in
    same_cases e es u v (f u ≡ f v) q (k u v)
    (λ a b. k u e.1 a ∙ sym here-e ∙ k e.0 v b) (λ a b. k u e.0 a ∙ here-e ∙ sym (k v e.1 b))

same_map : (es fs : List Wire) (g : ℕ → ℕ) → ((e : Wire) → e ∈ es → Same fs (g e.0) (g e.1)) → (u v : ℕ) → Same es u v → Same fs (g u) (g v)
same_map es fs g h u v q = same_keeps es (λ x. label fs (g x)) h u v q

pub same_sub : (es fs : List Wire) → ((e : Wire) → e ∈ es → Same fs e.0 e.1) → (u v : ℕ) → Same es u v → Same fs u v
same_sub es fs h u v q = same_map es fs (λ x. x) h u v q

-- By a map that moves neither u nor v.
same_fix : (es fs : List Wire) (g : ℕ → ℕ) → ((e : Wire) → e ∈ es → Same fs (g e.0) (g e.1)) → (u v : ℕ) → g u ≡ u → g v ≡ v → Same es u v → Same fs u v
same_fix es fs g h u v p q e = sym (ap (label fs) p) ∙ same_map es fs g h u v e ∙ ap (label fs) q

same_at : (fs : List Wire) (a b c d : ℕ) → a ≡ c → b ≡ d → Same fs c d → Same fs a b
same_at fs a b c d p q e = ap (label fs) p ∙ e ∙ sym (ap (label fs) q)

-- The first positions of parts.
abbrev pub Leads : List Wire → (p u : ℕ) → Type 0
Leads es p u = (v : ℕ) → p ≤ v → v < u → Same es v u → ⊥

pub leads_of : (es : List Wire) (p u : ℕ) → leads es p u ≡ true → Leads es p u
leads_of es p u e v h k q =
    not_of (eqb (label es v) (label es u)) (every_in (λ v. not (eqb (label es v) (label es u))) e (in_range p (u - p) v h (omega arith)))
    (eq-eqb (label es v) (label es u) q)

pub of_leads : (es : List Wire) (p u : ℕ) → Leads es p u → leads es p u ≡ true
of_leads es p u h =
    every_of (λ v. not (eqb (label es v) (label es u))) (range p (u - p))
    (λ v m. let r = of_range p (u - p) v m in not_in (eqb (label es v) (label es u))
    (λ e. h v r.0 (omega arith) (eqb-true (label es v) (label es u) e)))

pub leads_eq : (es fs : List Wire) (p q u : ℕ) → (Leads es p u → Leads fs q u) → (Leads fs q u → Leads es p u) → leads es p u ≡ leads fs q u
leads_eq es fs p q u f g =
    same_test (leads es p u) (leads fs q u) (λ e. of_leads fs q u (f (leads_of es p u e))) (λ e. of_leads es p u (g (leads_of fs q u e)))

not_leads : (es : List Wire) (p u v : ℕ) → p ≤ v → v < u → Same es v u → leads es p u ≡ false
not_leads es p u v h k q = false_from_ne_true (leads es p u) (λ e. leads_of es p u e v h k q)

-- The parts between L and R that hold together with neither, where L and R count as joined.
abbrev pub loose : List Wire → (L R : ℕ) → ℕ
loose es L R = length (filter (leads ((L, R) ∷ es) L) (between L R))

-- Each link is from lo to hi.
abbrev pub Within : List Wire → (lo hi : ℕ) → Type 0
Within es lo hi = (e : Wire) → e ∈ es → (lo ≤ e.0) × (e.0 ≤ hi) × (lo ≤ e.1) × (e.1 ≤ hi)

-- Two regions that meet at W, which is joined with the ends.
module _ (es fs : List Wire) (L W R : ℕ) (h : L < W) (k : W < R) (in-es : Within es L W) (in-fs : Within fs W R)
    (joined : Same ((L, R) ∷ (es ++ fs)) L W) where
  abbrev all : List Wire
  all = (L, R) ∷ (es ++ fs)

  abbrev near : List Wire
  near = (L, W) ∷ es

  abbrev far : List Wire
  far = (W, R) ∷ fs

  -- Everything, moved to W where it is past W.
  to_near : (e : Wire) → e ∈ all → Same near (min e.0 W) (min e.1 W)
  to_near e m =
      in_cons m (λ e. Same near (min e.0 W) (min e.1 W))
      (same_at near (min L W) (min R W) L W (omega arith) (omega arith) (same_wire {es = near} (here refl)))
      (λ e m. in_both es m (λ e. Same near (min e.0 W) (min e.1 W))
      (λ e m. let r = in-es e m in same_at near (min e.0 W) (min e.1 W) e.0 e.1 (omega arith) (omega arith) (same_wire {es = near} (there m)))
      (λ e m. let r = in-fs e m in same_at near (min e.0 W) (min e.1 W) W W (omega arith) (omega arith) refl))

  to_far : (e : Wire) → e ∈ all → Same far (max e.0 W) (max e.1 W)
  to_far e m =
      in_cons m (λ e. Same far (max e.0 W) (max e.1 W))
      (same_at far (max L W) (max R W) W R (omega arith) (omega arith) (same_wire {es = far} (here refl)))
      (λ e m. in_both es m (λ e. Same far (max e.0 W) (max e.1 W))
      (λ e m. let r = in-es e m in same_at far (max e.0 W) (max e.1 W) W W (omega arith) (omega arith) refl)
      (λ e m. let r = in-fs e m in same_at far (max e.0 W) (max e.1 W) e.0 e.1 (omega arith) (omega arith) (same_wire {es = far} (there m))))

  from_near : (e : Wire) → e ∈ near → Same all e.0 e.1
  from_near e m = in_cons m (λ e. Same all e.0 e.1) joined (λ e m. same_wire {es = all} (there (in_left fs m)))

  from_far : (e : Wire) → e ∈ far → Same all e.0 e.1
  from_far e m =
      in_cons m (λ e. Same all e.0 e.1) (sym joined ∙ same_wire {es = all} (here refl)) (λ e m. same_wire {es = all} (there (in_right es m)))

  near_leads : (u : ℕ) → u ∈ between L W → leads all L u ≡ leads near L u
  near_leads u m =
      let r = of_between L W u m in
      leads_eq all near L L u
      (λ f v a b q. f v a b (same_sub near all from_near v u q))
      (λ f v a b q. f v a b (same_fix all near (λ x. min x W) to_near v u (omega arith) (omega arith) q))

  far_leads : (u : ℕ) → u ∈ between W R → leads all L u ≡ leads far W u
  far_leads u m =
      let r = of_between W R u m in
      leads_eq all far L W u
      (λ f v a b q. f v (omega arith) b (same_sub far all from_far v u q))
      (λ f v a b q. f (max v W) (omega arith) (omega arith) (same_map all far (λ x. max x W) to_far v u q ∙ ap (label far) (omega arith)))

  pub loose_glue : loose (es ++ fs) L R ≡ loose es L W + loose fs W R
  loose_glue =
      let p = leads all L in
      ap (λ us. length (filter p us)) (between_split L W R h k)
      ∙ ap length (filter_++ p (between L W) (W ∷ between W R))
      ∙ ap (λ b. length (filter p (between L W) ++ cond b (W ∷ filter p (between W R)) (filter p (between W R)))) (not_leads all L W L (omega arith) h joined)
      ∙ length-append (filter p (between L W)) (filter p (between W R))
      ∙ ap₂ (λ us vs. length us + length vs) (filter_cong p (leads near L) (between L W) near_leads) (filter_cong p (leads far W) (between W R) far_leads)

-- The same links, but for one between the ends.
pub loose_same : (es fs : List Wire) (L R : ℕ) → ((e : Wire) → e ∈ es → e ∈ ((L, R) ∷ fs)) → ((e : Wire) → e ∈ fs → e ∈ ((L, R) ∷ es)) → loose es L R ≡ loose fs L R
loose_same es fs L R f g =
    ap length (filter_cong (leads ((L, R) ∷ es) L) (leads ((L, R) ∷ fs) L) (between L R) (λ u m. leads_eq ((L, R) ∷ es) ((L, R) ∷ fs) L L u
    (λ a v b c q. a v b c (same_sub ((L, R) ∷ fs) ((L, R) ∷ es) (sub fs es g) v u q))
    (λ a v b c q. a v b c (same_sub ((L, R) ∷ es) ((L, R) ∷ fs) (sub es fs f) v u q))))
  where
    sub : (es fs : List Wire) → ((e : Wire) → e ∈ es → e ∈ ((L, R) ∷ fs)) → (e : Wire) → e ∈ ((L, R) ∷ es) → Same ((L, R) ∷ fs) e.0 e.1
    sub es fs f e m = in_cons m (λ e. Same ((L, R) ∷ fs) e.0 e.1) (same_wire {es = (L, R) ∷ fs} (here refl)) (λ e m. same_wire {es = (L, R) ∷ fs} (f e m))

-- Each link is from lo on and before hi.
abbrev pub Strictly : List Wire → (lo hi : ℕ) → Type 0
Strictly es lo hi = (e : Wire) → e ∈ es → (lo ≤ e.0) × (e.0 < hi) × (lo ≤ e.1) × (e.1 < hi)

-- Then a link more between positions of which none is past lo and before hi joins nothing there.
module _ (es : List Wire) (lo hi : ℕ) (in-es : Strictly es lo hi) where
  inside : ℕ → Bool
  inside x = leb lo x && ltb x hi

  inside_yes : (x : ℕ) → lo ≤ x → x < hi → inside x ≡ true
  unfolding inside
  inside_yes x a b = and_from (leb lo x) (ltb x hi) (le-leb lo x a) (lt-ltb x hi b)

  -- What is not inside goes to lo.
  pull : ℕ → ℕ
  pull x = cond (inside x) x lo

  pull_in : (x : ℕ) → lo ≤ x → x < hi → pull x ≡ x
  unfolding pull
  pull_in x a b = cond-true (inside x) x lo (inside_yes x a b)

  pull_low : (x : ℕ) → x ≤ lo → pull x ≡ lo
  unfolding pull inside
  pull_low x a = elim (cases_eq x lo) [
    | inl e ↦ elim (cases_Bool (inside x)) [ inl t ↦ cond-true (inside x) x lo t ∙ e | inr t ↦ cond-false (inside x) x lo t ]
    | inr d ↦ cond-false (inside x) x lo (and_left (leb lo x) (ltb x hi) (lt-leb lo x (omega arith)))
  ]

  pull_high : (x : ℕ) → hi ≤ x → pull x ≡ lo
  unfolding pull inside
  pull_high x a = cond-false (inside x) x lo (and_right (leb lo x) (ltb x hi) (le-ltb x hi a))

  pub outer_joins_none : (a b : ℕ) → a ≤ lo → hi ≤ b → (u v : ℕ) → lo ≤ u → u < hi → lo ≤ v → v < hi → Same ((a, b) ∷ es) u v → Same es u v
  outer_joins_none a b p q u v u₁ u₂ v₁ v₂ e =
      same_fix ((a, b) ∷ es) es pull
      (λ d m. in_cons m (λ (d : Wire). Same es (pull d.0) (pull d.1))
      (same_at es (pull a) (pull b) lo lo (pull_low a p) (pull_high b q) refl)
      (λ d m. let r = in-es d m in same_at es (pull d.0) (pull d.1) d.0 d.1 (pull_in d.0 r.0 r.1) (pull_in d.1 r.2 r.3) (same_wire m)))
      u v (pull_in u u₁ u₂) (pull_in v v₁ v₂) e

  -- And where a is before lo, it is joined with nothing inside.
  pub outer_alone : (a b : ℕ) → a < lo → hi ≤ b → (u : ℕ) → lo ≤ u → u < hi → Same ((a, b) ∷ es) a u → ⊥
  unfolding inside
  outer_alone a b p q u u₁ u₂ e =
      let out : inside a ≡ false = and_left (leb lo a) (ltb a hi) (lt-leb lo a p) in
      let kept : inside a ≡ inside u = same_keeps ((a, b) ∷ es) inside
      (λ d m. in_cons m (λ (d : Wire). inside d.0 ≡ inside d.1) (out ∙ sym (and_right (leb lo b) (ltb b hi) (le-ltb b hi q)))
      (λ d m. let r = in-es d m in inside_yes d.0 r.0 r.1 ∙ sym (inside_yes d.1 r.2 r.3))) a u e in
      true≢false (sym (inside_yes u u₁ u₂) ∙ sym kept ∙ out)

-- Where L links to nothing and R is not linked to, the part of the position behind L is loose.
module _ (es : List Wire) (L R : ℕ) (h : suc L < R) (in-es : Strictly es (suc L) R) where
  gap_leads : (u : ℕ) → u ∈ between (suc L) R → leads ((L, R) ∷ es) L u ≡ leads ((suc L, R) ∷ es) (suc L) u
  gap_leads u m =
      let r = of_between (suc L) R u m in
      let free = outer_joins_none es (suc L) R in-es in
      leads_eq ((L, R) ∷ es) ((suc L, R) ∷ es) L (suc L) u
      (λ f v a b q. f v (omega arith) b
      (same_more (L, R) es v u (free (suc L) R (omega arith) (omega arith) v u a (omega arith) (omega arith) (omega arith) q)))
      (λ f v a b q. elim (cases_eq v L) [
        | inl e ↦ outer_alone es (suc L) R in-es L R (omega arith) (omega arith) u (omega arith) (omega arith) (sym (ap (label ((L, R) ∷ es)) e) ∙ q)
        | inr d ↦ f v (omega arith) b
            (same_more (suc L, R) es v u (free L R (omega arith) (omega arith) v u (omega arith) (omega arith) (omega arith) (omega arith) q))
      ])

  first_leads : leads ((L, R) ∷ es) L (suc L) ≡ true
  first_leads = of_leads ((L, R) ∷ es) L (suc L) (λ v a b q.
      outer_alone es (suc L) R in-es L R (omega arith) (omega arith) (suc L) (omega arith) h (ap (label ((L, R) ∷ es)) (omega arith) ∙ q))

  pub loose_gap : loose es L R ≡ suc (loose es (suc L) R)
  loose_gap =
      let p = leads ((L, R) ∷ es) L in
      let e : R - suc L ≡ suc (R - suc (suc L)) = omega arith in
      ap (λ n. length (filter p (range (suc L) n))) e
      ∙ ap (λ b. length (cond b (suc L ∷ filter p (between (suc L) R)) (filter p (between (suc L) R)))) first_leads
      ∙ ap (λ us. suc (length us)) (filter_cong p (leads ((suc L, R) ∷ es) (suc L)) (between (suc L) R) gap_leads)

-- The whole sentence: the end may count as joined with the first position.
pub loose_whole : (es : List Wire) (n : ℕ) → 0 < n → Strictly es 0 n → length (heads es n) ≡ suc (loose es 0 n)
loose_whole es n h in-es =
    let p = leads es 0 in
    let e : n ≡ suc (n - 1) = omega arith in
    ap (λ k. length (filter p (range 0 k))) e
    ∙ ap (λ b. length (cond b (0 ∷ filter p (between 0 n)) (filter p (between 0 n)))) (of_leads es 0 0 (λ v a b q. omega arith))
    ∙ ap (λ us. suc (length us)) (filter_cong p (leads ((0, n) ∷ es) 0) (between 0 n) (λ u m.
    let r = of_between 0 n u m in
    leads_eq es ((0, n) ∷ es) 0 0 u
    (λ f v a b q. f v a b (outer_joins_none es 0 n in-es 0 n (omega arith) (omega arith) v u (omega arith) (omega arith) (omega arith) (omega arith) q))
    (λ f v a b q. f v a b (same_more (0, n) es v u q))))

-- Labels tell the equivalence that links generate.
joined_same : {es : List Wire} {u v : ℕ} → Joined es u v → Same es u v
joined_same (link m) = same_wire m
joined_same alone = refl
joined_same (turned j) = sym (joined_same j)
joined_same (chained j k) = joined_same j ∙ joined_same k

joined_more : {e : Wire} {es : List Wire} {u v : ℕ} → Joined es u v → Joined (e ∷ es) u v
joined_more (link m) = link (there m)
joined_more alone = alone
joined_more (turned j) = turned (joined_more j)
joined_more (chained j k) = chained (joined_more j) (joined_more k)

same_joined : (es : List Wire) (u v : ℕ) → Same es u v → Joined es u v
same_joined [] u v q = subst (Joined [] u) q alone
same_joined (e ∷ es) u v q =
    let k : (a b : ℕ) → Same es a b → Joined (e ∷ es) a b = λ a b h. joined_more (same_joined es a b h) in
    let first : Joined (e ∷ es) e.0 e.1 = link (here refl) in
    same_cases e es u v (Joined (e ∷ es) u v) q (k u v)
    (λ a b. chained (k u e.1 a) (chained (turned first) (k e.0 v b))) (λ a b. chained (k u e.0 a) (chained first (turned (k v e.1 b))))

pub labels_tell : (es : List Wire) (u v : ℕ) → Same es u v ↔ Joined es u v
labels_tell es u v = (same_joined es u v, joined_same)

-- Of the positions below k none is in the part of u, or there is a first that is.
abbrev pub NoneBelow : List Wire → (u k : ℕ) → Type 0
NoneBelow es u k = (v : ℕ) → v < k → Same es v u → ⊥

pub record First (es : List Wire) (u k : ℕ) : Type 0 where
  pub at : ℕ
  pub below : at < k
  pub same : Same es at u
  pub none : NoneBelow es u at

pub first_or_none : (es : List Wire) (u k : ℕ) → First es u k ⊎ NoneBelow es u k
first_or_none es u zero = inr (λ v h q. omega arith)
first_or_none es u (suc k) = go (first_or_none es u k) (cases_eq (label es k) (label es u))
  where
    go : First es u k ⊎ NoneBelow es u k → Same es k u ⊎ (Same es k u → ⊥) → First es u (suc k) ⊎ NoneBelow es u (suc k)
    go (inl f) e = inl (record { at = f.at; below = (let b = f.below in omega arith); same = f.same; none = f.none })
    go (inr n) (inl e) = inl (record { at = k; below = omega arith; same = e; none = n })
    go (inr n) (inr d) = inr (λ v h q. elim (cases_eq v k) [ inl e ↦ d (sym (ap (label es) e) ∙ q) | inr x ↦ n v (omega arith) q ])

-- The heads are one position of each part.
pub heads_stand : (es : List Wire) (n : ℕ) → Heads es n (heads es n)
heads_stand es n = record {
  distinct = distinct_filter (leads es 0) (range 0 n) (distinct_range 0 n);
  within = λ h m. let r = of_range 0 n h (of_filter (leads es 0) h (range 0 n) m).0 in omega arith;
  some_head = λ u lt. elim (first_or_none es u (suc u)) [
    | inl f ↦
        let b = f.below in
        let lead = of_leads es 0 f.at (λ v _ below q. f.none v below (q ∙ f.same)) in
        (f.at, in_filter (leads es 0) (in_range 0 n f.at (omega arith) (omega arith)) lead, same_joined es f.at u f.same)
    | inr none ↦ absurd (none u (omega arith) refl)
  ];
  one_head = λ h k p q j.
      let e = joined_same j in
      let a = leads_of es 0 h (of_filter (leads es 0) h (range 0 n) p).1 in
      let b = leads_of es 0 k (of_filter (leads es 0) k (range 0 n) q).1 in
      elim (cases_order h k) [
        | inl same ↦ same
        | inr other ↦ elim other [ inl lt ↦ absurd (b h (omega arith) lt e) | inr gt ↦ absurd (a k (omega arith) gt (sym e)) ]
      ];
}
