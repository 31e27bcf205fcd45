-- A filing is accepted exactly where it is a partial linkage, with its number of parts. Assumes that no position has more than 64
-- disjuncts, so that 255 is none of their numbers.
use Rattle.std.proofs.Common.{◌≡◌, ℕ, ◌<◌, ◌≤◌, Bool, true, false, cond, not, ltb, List, [], ◌∷◌, map, length, get_or, Ok, Err, sym, refl, ap, ◌∙◌, subst, subst₂, inl, inr, arith}
use lib.ListN.{length-map, get_or-eq_default}
use Rattle.refusal.specs.declared.Refusal.{Refusal}
use Rattle.std.proofs.lemmas.Bool.{and_from, and_parts, cases_lt, eq-eqb, eqb-true, lt-ltb, ltb-true}
use Rattle.linkage.specs.Lists.{◌∈◌, here, there, every, range}
use Rattle.linkage.specs.Linkages.{Linkage, Partial, Place, Rising, choice_at, full, keeps_rules, links, matching, uncrossed, unlinked}
use Rattle.linkage.specs.Parts.{parts}
use Rattle.linkage.specs.Sentences.{Choice, Sentence, bare, choices, position, size, takes}
use Rattle.linkage.proofs.Joins.{Wire}
use Rattle.linkage.proofs.Listed.{rows_of}
use Rattle.linkage.proofs.Members.{every_in, every_of, in_filter, in_map, of_filter}
use Rattle.linkage.proofs.Ranges.{in_range, of_range}
use Rattle.linkage.proofs.Rows.{rising_in}
use Rattle.linkage.proofs.Taken.{of_choices}
use Rattle.linkage.proofs.Tested.{in_test, of_test}
use Rattle.linkage.proofs.Weights.{of_links}
use Rattle.filing.specs.Filings.{Files, JudgedRight, allowed, byte_of, checked, choice_of, chosen, filed, judged, ordered, rises, tests, there as is_there}
use Rattle.filing.proofs.Refiled.{bytes_again, filed_at, filed_length, links_ordered, refiled, relinked, row_rises}

-- A list of tests passes where each does.
abbrev pub passed : List (Bool × Refusal) → Bool
passed ts = every (λ (t : Bool × Refusal). t.0) ts

pub judged_passed : {A : Type 0} (ts : List (Bool × Refusal)) (a : A) → passed ts ≡ true → judged ts a ≡ Ok a
judged_passed [] a h = refl
judged_passed (t ∷ ts) a h =
    let b = and_parts t.0 (passed ts) h in
    ap (λ c. cond c (judged ts a) (Err t.1)) b.0 ∙ judged_passed ts a b.1

passed_judged : {A : Type 0} (ts : List (Bool × Refusal)) (a p : A) → judged ts a ≡ Ok p → (passed ts ≡ true) × (a ≡ p)
passed_judged [] a p h = (refl, cc)
passed_judged {A} (t ∷ ts) a p h = go t.0 refl h (passed_judged ts a p)
  where
    go : (b : Bool) → t.0 ≡ b → cond b (judged ts a) (Err t.1) ≡ Ok p → (judged ts a ≡ Ok p → (passed ts ≡ true) × (a ≡ p))
        → (passed (t ∷ ts) ≡ true) × (a ≡ p)
    go true e h k = let r = k h in (and_from t.0 (passed ts) e r.0, r.1)
    go false e h k = let z : ◌≡◌ {A = ℕ} 0 1 = cc in absurd (omega arith)

-- An option of a position is a choice that is there and not struck.
in_options : (s : Sentence) (i : ℕ) (c : Choice) → is_there (position s i) c ≡ true → allowed (position s i) c ≡ true → c ∈ choices s i
in_options s i bare h k = here refl
in_options s i (takes n) h k =
    there (in_map takes (in_filter (λ k. not ((position s i).struck k))
    (in_range 0 (length (position s i).disjuncts) n (omega arith) (let l = ltb-true n (length (position s i).disjuncts) h in omega arith)) k))

of_options : (s : Sentence) (i : ℕ) (c : Choice) → c ∈ choices s i → (is_there (position s i) c ≡ true) × (allowed (position s i) c ≡ true)
of_options s i bare m = (refl, refl)
of_options s i (takes n) m =
    let p = position s i in
    let k = of_filter (λ k. not (p.struck k)) n (range 0 (length p.disjuncts)) (of_choices s i n m) in
    let r = of_range 0 (length p.disjuncts) n k.0 in
    (lt-ltb n (length p.disjuncts) (omega arith), k.1)

module _ (s : Sentence) (cs : List ℕ) (es : List Wire) where
  abbrev x : Linkage
  x = filed (size s) cs es

  passed_files : passed (tests s cs es) ≡ true → Files s cs es x
  passed_files h =
      let t₁ = (and_parts _ _ h).1 in
      let b₁ = and_parts _ _ t₁ in
      let b₂ = and_parts _ _ b₁.1 in
      let b₃ = and_parts _ _ b₂.1 in
      let b₄ = and_parts _ _ b₃.1 in
      let b₅ = and_parts _ _ b₄.1 in
      let b₆ = and_parts _ _ b₅.1 in
      let b₇ = and_parts _ _ b₆.1 in
      let b₈ = and_parts _ _ b₇.1 in
      files (eqb-true (length cs) (size s) b₁.0) b₂.0 b₃.0 b₄.0 b₅.0 b₆.0 b₇.0 b₈.0
    where
      files : length cs ≡ size s → every (λ i. is_there (position s i) (chosen cs i)) (range 0 (size s)) ≡ true
          → every (λ i. allowed (position s i) (chosen cs i)) (range 0 (size s)) ≡ true
          → every (rises (size s)) es ≡ true → ordered es ≡ true → uncrossed x ≡ true → full s x ≡ true → matching s x ≡ true → Files s cs es x
      files len theres allows ends order apart counts match =
          let bound : (e : Wire) → e ∈ es → (e.0 < e.1) × (e.1 < size s) = λ e m.
          let b = and_parts (ltb e.0 e.1) (ltb e.1 (size s)) (every_in (rises (size s)) ends m) in
          (ltb-true e.0 e.1 b.0, ltb-true e.1 (size s) b.1) in
          record {
            partial = record {
              places = filed_length (size s) cs es;
              chosen = λ i h.
                  subst (λ (p : Place). p.choice ∈ choices s i) (sym (filed_at (size s) cs es i h))
                  (in_options s i (chosen cs i) (every_in _ theres (in_range 0 (size s) i (omega arith) (omega arith)))
                  (every_in _ allows (in_range 0 (size s) i (omega arith) (omega arith))));
              rising = λ i h. subst (λ (p : Place). Rising i (size s) p.after) (sym (filed_at (size s) cs es i h)) (row_rises (size s) i es order bound);
              rules = of_test s x (and_from _ _ apart (and_from _ _ counts match));
            };
            choices = bytes_again (size s) cs es len;
            links_are = relinked (λ i. chosen cs i) es 0 (size s) order (λ e m. let b = bound e m in (omega arith, omega arith));
          }

module _ (s : Sentence) (few : (i : ℕ) → length (position s i).disjuncts ≤ 64) (x : Linkage) (p : Partial s x) where
  abbrev bytes : List ℕ
  bytes = map (λ (q : Place). byte_of q.choice) x

  small : (i k : ℕ) → choice_at x i ≡ takes k → k < 255
  small i k e = elim (cases_lt i (size s)) [
    | inl h ↦
        let m = subst (λ c. c ∈ choices s i) e (p.chosen i h) in
        let o = ltb-true k (length (position s i).disjuncts) (of_options s i (takes k) m).0 in
        let f = few i in omega arith
    | inr h ↦
        let len = p.places in
        let past : choice_at x i ≡ bare = ap (λ (q : Place). q.choice) (get_or-eq_default x unlinked (omega arith)) in
        let z : ◌≡◌ {A = ℕ} 0 1 = cc in absurd (omega arith)
  ]

  again : filed (size s) bytes (links x) ≡ x
  again = refiled (size s) x p.places small

  pub filing_passes : 0 < size s → checked s bytes (links x) ≡ Ok (parts x)
  filing_passes h =
      judged_passed (tests s bytes (links x)) (parts (filed (size s) bytes (links x))) all_pass ∙ ap (λ y. Ok (parts y)) again
    where
      option : (i : ℕ) → i < size s → choice_of (get_or bytes i 255) ∈ choices s i
      option i h = subst (λ c. c ∈ choices s i) (ap (λ y. choice_at y i) (sym again) ∙ ap (λ (q : Place). q.choice) (filed_at (size s) bytes (links x) i h)) (p.chosen i h)

      each : (i : ℕ) → i ∈ range 0 (size s) → i < size s
      each i m = let r = of_range 0 (size s) i m in omega arith

      ends : (e : Wire) → e ∈ links x → rises (size s) e ≡ true
      ends e m =
          let k = of_links 0 x e m in
          let len = p.places in
          let q = k.from in
          let lt = k.there_is in
          let r = rising_in k.k (size s) (p.rising k.k (omega arith)) k.to in
          and_from (ltb e.0 e.1) (ltb e.1 (size s)) (lt-ltb e.0 e.1 (omega arith)) (lt-ltb e.1 (size s) r.1)

      rules : keeps_rules s (filed (size s) bytes (links x)) ≡ true
      rules = subst (λ y. keeps_rules s y ≡ true) (sym again) (in_test s x p.rules)

      all_pass : passed (tests s bytes (links x)) ≡ true
      all_pass =
          let k = and_parts (uncrossed (filed (size s) bytes (links x))) _ rules in
          let l = and_parts (full s (filed (size s) bytes (links x))) _ k.1 in
          and_from _ _ (lt-ltb 0 (size s) h)
          (and_from _ _ (eq-eqb (length bytes) (size s) (length-map x _ ∙ p.places))
          (and_from _ _ (every_of _ (range 0 (size s)) (λ i m. (of_options s i (choice_of (get_or bytes i 255)) (option i (each i m))).0))
          (and_from _ _ (every_of _ (range 0 (size s)) (λ i m. (of_options s i (choice_of (get_or bytes i 255)) (option i (each i m))).1))
          (and_from _ _ (every_of (rises (size s)) (links x) ends)
          (and_from _ _ (links_ordered (size s) 0 x (rows_of s x p))
          (and_from _ _ k.0 (and_from _ _ l.0 (and_from _ true l.1 refl))))))))

pub judged_right : (s : Sentence) → ((i : ℕ) → length (position s i).disjuncts ≤ 64) → (cs : List ℕ) (es : List Wire) → JudgedRight s cs es
judged_right s few cs es h p = (
  λ e. let b = passed_judged (tests s cs es) (parts (filed (size s) cs es)) p e in (filed (size s) cs es, passed_files s cs es b.0, b.1),
  λ r. subst₂ (λ a b. checked s a b ≡ Ok p) r.1.choices r.1.links_are (filing_passes s few r.0 r.1.partial h ∙ ap Ok r.2),
)
