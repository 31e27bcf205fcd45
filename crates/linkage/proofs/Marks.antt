-- Marks that spare what trimming keeps: the partial linkages are the same with them, what is kept is the same, and so is the sum
-- over all linkages.
use Rattle.std.proofs.Common.{◌≡◌, ℕ, zero, suc, ◌<◌, Bool, false, not, ◌&&◌, ◌||◌, ltb, ◌↔◌, List, [], ◌∷◌, map, length, get_or, sym, refl, ap, ◌∙◌, subst, ap₂, arith}
use mathlib.Core.Path.{fun_ext}
use Rattle.tally.specs.Semiring.{Semiring, Laws}
use Rattle.std.proofs.lemmas.Bool.{both_ways, false_from_ne_true, not_from_false, not-true, or_from, or_parts}
use Rattle.linkage.specs.Lists.{◌∈◌, here, there, every, place_of, range, some_of}
use Rattle.linkage.specs.Sentences.{Choice, Position, Sentence, asked, bare, choices, nowhere, position, size, takes, unstruck}
use Rattle.linkage.specs.Linkages.{Linkage, Partial, Rising, Rules, after, before, choice_at, linkages}
use Rattle.linkage.specs.Sums.{total, weight}
use Rattle.linkage.specs.Trims.{Closed, Spares, Used, all_marked, all_used, kept, marked, met, used, with_marks}
use Rattle.linkage.proofs.Members.{in_filter, in_map, of_concatMap, of_filter, of_map}
use Rattle.linkage.proofs.Ranges.{of_range}
use Rattle.linkage.proofs.Kept.{kept_closed, kept_largest, met_more}
use Rattle.linkage.proofs.Listed.{listed, listed_once}
use Rattle.linkage.proofs.Sums.{sum_same}
use Rattle.linkage.proofs.Taken.{in_all_used, of_choices, taken_kept}

-- What marks leave of a position, and of a list of them.
pub in_marked : (p : Position) (m : ℕ → Bool) (k : ℕ) → k ∈ unstruck p → m k ≡ false → k ∈ unstruck (marked p m)
in_marked p m k n e =
    let h = of_filter (λ k. not (p.struck k)) k (range 0 (length p.disjuncts)) n in
    in_filter (λ k. not (p.struck k || m k)) h.0 (not_from_false _ (or_from (p.struck k) (m k) (not-true _ h.1) e))

pub of_marked : (p : Position) (m : ℕ → Bool) (k : ℕ) → k ∈ unstruck (marked p m) → (k ∈ unstruck p) × (m k ≡ false)
of_marked p m k n =
    let h = of_filter (λ k. not (p.struck k || m k)) k (range 0 (length p.disjuncts)) n in
    let f = or_parts (p.struck k) (m k) (not-true _ h.1) in
    (in_filter (λ k. not (p.struck k)) h.0 (not_from_false _ f.0), f.1)

pub marked_size : (ps : List Position) (m : ℕ → ℕ → Bool) → length (all_marked ps m) ≡ length ps
marked_size [] m = refl
marked_size (p ∷ ps) m = ap suc (marked_size ps (λ i. m (suc i)))

pub marked_at : (ps : List Position) (m : ℕ → ℕ → Bool) (i : ℕ) → i < length ps
    → get_or (all_marked ps m) i nowhere ≡ marked (get_or ps i nowhere) (m i)
marked_at [] m i h = absurd (omega arith)
marked_at (p ∷ ps) m zero h = refl
marked_at (p ∷ ps) m (suc i) h = marked_at ps (λ i. m (suc i)) i (omega arith)

pub marked_asked : (ps : List Position) (m : ℕ → ℕ → Bool) (i : ℕ) (c : Choice)
    → asked (get_or (all_marked ps m) i nowhere) c ≡ asked (get_or ps i nowhere) c
marked_asked ps m i bare = refl
marked_asked [] m i (takes k) = refl
marked_asked (p ∷ ps) m zero (takes k) = refl
marked_asked (p ∷ ps) m (suc i) (takes k) = marked_asked ps (λ i. m (suc i)) i (takes k)

pub of_all_used : (s : Sentence) (u : Used) → u ∈ all_used s → (u.at < size s) × (u.number ∈ unstruck (position s u.at))
of_all_used s u n =
    let h = of_concatMap (λ i. map (used i) (unstruck (position s i))) (range 0 (size s)) n in
    let k = of_map (used h.0) (unstruck (position s h.0)) h.2 in
    let r = of_range 0 (size s) h.0 h.1 in
    subst (λ (v : Used). (v.at < size s) × (v.number ∈ unstruck (position s v.at))) (sym k.2) (omega arith, k.1)

options : (s t : Sentence) (i : ℕ) (c : Choice)
    → ((k : ℕ) → c ≡ takes k → k ∈ unstruck (position s i) → k ∈ unstruck (position t i)) → c ∈ choices s i → c ∈ choices t i
options s t i bare h n = here refl
options s t i (takes k) h n = there (in_map takes (h k refl (of_choices s i k n)))

-- The rules, and what is met, depend only on what is asked for at the positions.
module _ (f : (right left : ℕ) → Bool) (ps qs : List Position) (long : length ps ≡ length qs)
    (same : (i : ℕ) (c : Choice) → asked (get_or ps i nowhere) c ≡ asked (get_or qs i nowhere) c) where
  abbrev over : List Position → Sentence
  over rs = record { matches = f; positions = rs }

  rules_same : (x : Linkage) → Rules (over ps) x → Rules (over qs) x
  rules_same x r = record {
    uncrossed = r.uncrossed;
    full_right = λ i h. r.full_right i (omega arith) ∙ ap (λ d. length d.right) (same i (choice_at x i));
    full_left = λ j h. r.full_left j (omega arith) ∙ ap (λ d. length d.left) (same j (choice_at x j));
    matching = λ i j m.
        ap₂ (λ d e. f (get_or d.right (place_of j (after x i)) 0) (get_or e.left (place_of i (before x j)) 0))
        (sym (same i (choice_at x i))) (sym (same j (choice_at x j))) ∙ r.matching i j m;
  }

  partial_same : (x : Linkage) → Partial (over ps) x
      → ((i k : ℕ) → i < length qs → choice_at x i ≡ takes k
      → k ∈ unstruck (get_or ps i nowhere) → k ∈ unstruck (get_or qs i nowhere))
      → Partial (over qs) x
  partial_same x p h = record {
    places = p.places ∙ long;
    chosen = λ i l. options (over ps) (over qs) i (choice_at x i) (λ k. h i k l) (p.chosen i (omega arith));
    rising = λ i l. subst (λ n. Rising i n (after x i)) long (p.rising i (omega arith));
    rules = rules_same x p.rules;
  }

  met_same : (us : List Used) (u : Used) → met (over ps) us u ≡ met (over qs) us u
  met_same us u =
      ap₂ (λ (l r : Used → List ℕ).
      every (λ c. some_of (λ v. ltb u.at v.at && some_of (λ d. f c d) (l v)) us) (r u)
      && every (λ c. some_of (λ v. ltb v.at u.at && some_of (λ d. f d c) (r v)) us) (l u))
      (fun_ext (λ v. ap (λ d. d.left) (same v.at (takes v.number))))
      (fun_ext (λ v. ap (λ d. d.right) (same v.at (takes v.number))))

-- s and s', the sentence without the marks and with them.
module _ (s : Sentence) (m : ℕ → ℕ → Bool) where
  abbrev s' : Sentence
  s' = with_marks s m

  same_size : size s' ≡ size s
  same_size = marked_size s.positions m

  same_met : (us : List Used) (u : Used) → met s' us u ≡ met s us u
  same_met = met_same s.matches s'.positions s.positions same_size (marked_asked s.positions m)

  pub in_unmarked : (i k : ℕ) → i < size s → k ∈ unstruck (position s i) → m i k ≡ false → k ∈ unstruck (position s' i)
  in_unmarked i k h n e = rw (marked_at s.positions m i h) (in_marked (position s i) (m i) k n e)

  pub of_unmarked : (i k : ℕ) → i < size s → k ∈ unstruck (position s' i) → (k ∈ unstruck (position s i)) × (m i k ≡ false)
  of_unmarked i k h n = of_marked (position s i) (m i) k (rw (marked_at s.positions m i h) at n)

  pub of_partial : (x : Linkage) → Partial s' x → Partial s x
  of_partial x p =
      partial_same s.matches s'.positions s.positions same_size (marked_asked s.positions m) x p
      (λ i k l e n. (of_unmarked i k l n).0)

  -- A set that is closed with the marks is closed without them.
  of_closed : (us : List Used) → Closed s' us → Closed s us
  of_closed us c = record { unstruck = λ u n. known u (c.unstruck u n); each_met = λ u n. sym (same_met us u) ∙ c.each_met u n }
    where
      known : (u : Used) → u ∈ all_used s' → u ∈ all_used s
      known u n =
          let h = of_all_used s' u n in
          let l : u.at < size s = omega (arith, same_size) in
          in_all_used s u.at u.number l (of_unmarked u.at u.number l h.1).0

  module _ (spares : Spares s m) where
    unmarked : (i k : ℕ) → used i k ∈ kept s → m i k ≡ false
    unmarked i k n = false_from_ne_true (m i k) (λ e. spares i k e n)

    pub in_partial : (x : Linkage) → Partial s x → Partial s' x
    in_partial x p =
        let asked-back = λ (i : ℕ) (c : Choice). sym (marked_asked s.positions m i c) in
        partial_same s.matches s.positions s'.positions (sym same_size) asked-back x p
        (λ i k l e n.
        let h : i < size s = omega (arith, same_size) in in_unmarked i k h n (unmarked i k (taken_kept s x p i k h e)))

    pub kept_unmarked : (u : Used) → u ∈ kept s → u ∈ all_used s'
    kept_unmarked u n =
        let h = of_all_used s u ((kept_closed s).unstruck u n) in
        in_all_used s' u.at u.number (omega (arith, same_size))
        (in_unmarked u.at u.number h.0 h.1 (unmarked u.at u.number n))

    -- This lemma and the next two are for the trim to come; nothing uses them yet. What is kept is the same with the marks.
    pub kept_marked : (u : Used) → (u ∈ kept s') ↔ (u ∈ kept s)
    kept_marked u = (kept_largest s (kept s') (of_closed (kept s') (kept_closed s')) u, kept_largest s' (kept s) closed u)
      where
        closed : Closed s' (kept s)
        closed = record { unstruck = kept_unmarked; each_met = λ u n. same_met (kept s) u ∙ (kept_closed s).each_met u n }

    -- A step of a trim that goes on from these marks: what is not met by unmarked disjuncts may be marked too.
    pub unmet_unkept : (u : Used) → met s' (all_used s') u ≡ false → u ∈ kept s → ⊥
    unmet_unkept u e n =
        both_ways (met s' (all_used s') u) e
        (same_met (all_used s') u ∙ met_more s (kept s) (all_used s') kept_unmarked u ((kept_closed s).each_met u n))

    -- Its end: where the unmarked disjuncts are closed, they are what is kept.
    pub closed_kept : Closed s' (all_used s') → (u : Used) → (u ∈ all_used s') ↔ (u ∈ kept s)
    closed_kept c u = (kept_largest s (all_used s') (of_closed (all_used s') c) u, kept_unmarked u)

  module _ {V : Type 0} (t : Semiring V) (laws : Laws t) where
    pub marks_free : Spares s m → total t s' ≡ total t s
    marks_free spares =
        sum_same t laws (weight t) (linkages s') (linkages s) (listed_once s') (listed_once s)
        (λ x n. (listed s x).1 (of_partial x ((listed s' x).0 n))) (λ x n. (listed s' x).1 (in_partial spares x ((listed s x).0 n)))
