-- What a link more does to the parts: where its ends are joined already nothing changes, else two parts become one, so that
-- there is one head fewer; and labels that tell the parts tell them again once the one end's label is put for the other's.
use Rattle.std.proofs.Common.{◌≡◌, ℕ, zero, suc, ◌<◌, ◌≤◌, max, Bool, true, false, cond, not, ◌&&◌, eqb, ◌↔◌, List, [], ◌∷◌, ◌++◌, length, sym, refl, ap, ◌∙◌, subst, inl, inr, arith}
use Rattle.std.proofs.lemmas.Bool.{and_from, and_parts, cases_eq, cases_order, cond-false, cond-true, eq-eqb, eqb-true, ne_eqb, not_from_false, not_from_true}
use Rattle.linkage.specs.Lists.{◌∈◌, here, there, Distinct, filter, range}
use Rattle.linkage.specs.Parts.{Joined, heads, label, leads}
use Rattle.linkage.proofs.Joins.{First, Leads, Same, Wire, first_or_none, labels_tell, leads_eq, leads_of, of_leads, same_cases, same_more, same_sub, same_wire}
use Rattle.linkage.proofs.Members.{filter_cong, in_cases, in_left, in_none, in_right, in_split, not_in, not_of, same_test}
use Rattle.linkage.proofs.Ranges.{distinct_range, in_range, of_range}
use Rattle.filing.proofs.Refiled.{and_yes, filter_all}

-- Links in another order join the same.
same_order : (es fs : List Wire) → ((e : Wire) → e ∈ es → e ∈ fs) → (u v : ℕ) → Same es u v → Same fs u v
same_order es fs h = same_sub es fs (λ e m. same_wire (h e m))

heads_alike : (es fs : List Wire) (n : ℕ) → ((u v : ℕ) → u < n → v < n → Same es u v → Same fs u v) → ((u v : ℕ) → u < n → v < n → Same fs u v → Same es u v)
    → heads es n ≡ heads fs n
heads_alike es fs n f g = filter_cong (leads es 0) (leads fs 0) (range 0 n) (λ u m.
    let r = of_range 0 n u m in
    leads_eq es fs 0 0 u (λ a v p q s. a v p q (g v u (omega arith) (omega arith) s)) (λ a v p q s. a v p q (f v u (omega arith) (omega arith) s)))

-- The same links with one more in front or at the end.
snoc_front : (e : Wire) (es : List Wire) (f : Wire) → f ∈ (es ++ (e ∷ [])) → f ∈ (e ∷ es)
snoc_front e es f m = elim (in_split es m) [ inl k ↦ there k | inr k ↦ elim (in_cases k) [ inl q ↦ here q | inr z ↦ absurd (in_none z) ] ]

front_snoc : (e : Wire) (es : List Wire) (f : Wire) → f ∈ (e ∷ es) → f ∈ (es ++ (e ∷ []))
front_snoc e es f m = elim (in_cases m) [ inl q ↦ in_right es (here q) | inr k ↦ in_left (e ∷ []) k ]

pub same_snoc : (e : Wire) (es : List Wire) (u v : ℕ) → Same (es ++ (e ∷ [])) u v ↔ Same (e ∷ es) u v
same_snoc e es u v = (same_order (es ++ (e ∷ [])) (e ∷ es) (snoc_front e es) u v, same_order (e ∷ es) (es ++ (e ∷ [])) (front_snoc e es) u v)

pub heads_snoc : (e : Wire) (es : List Wire) (n : ℕ) → heads (es ++ (e ∷ [])) n ≡ heads (e ∷ es) n
heads_snoc e es n = heads_alike (es ++ (e ∷ [])) (e ∷ es) n (λ u v _ _. (same_snoc e es u v).0) (λ u v _ _. (same_snoc e es u v).1)

-- A link between joined positions joins nothing more.
module _ (e : Wire) (es : List Wire) (joined : Same es e.0 e.1) where
  pub same_idle : (u v : ℕ) → Same (e ∷ es) u v → Same es u v
  same_idle u v s = same_cases e es u v (Same es u v) s (λ q. q) (λ a b. a ∙ sym joined ∙ b) (λ a b. a ∙ joined ∙ sym b)

  pub heads_idle : (n : ℕ) → heads (e ∷ es) n ≡ heads es n
  heads_idle n = heads_alike (e ∷ es) es n (λ u v _ _. same_idle u v) (λ u v _ _. same_more e es u v)

-- A filter that leaves one thing out of what another keeps.
filter_but : (p : ℕ → Bool) (m : ℕ) (xs : List ℕ) → Distinct xs → m ∈ xs → p m ≡ true → suc (length (filter (λ u. p u && not (eqb u m)) xs)) ≡ length (filter p xs)
filter_but p m [] d i h = absurd (in_none i)
filter_but p m (x ∷ xs) d i h = elim (cases_eq x m) [
  | inl q ↦
      let out : (p x && not (eqb x m)) ≡ false = not_true' (p x) (eqb x m) (eq-eqb x m q) in
      let keep : p x ≡ true = ap p q ∙ h in
      let same : filter (λ u. p u && not (eqb u m)) xs ≡ filter p xs = filter_cong _ p xs (λ u k.
      let ne : u ≡ m → ⊥ = λ r. d.0 (subst (λ z. z ∈ xs) (r ∙ sym q) k) in and_yes (p u) (not (eqb u m)) (not_from_false (eqb u m) (ne_eqb u m ne))) in
      ap suc (ap length (cond-false (p x && not (eqb x m)) (x ∷ filter (λ u. p u && not (eqb u m)) xs) (filter (λ u. p u && not (eqb u m)) xs) out ∙ same))
      ∙ sym (ap length (cond-true (p x) (x ∷ filter p xs) (filter p xs) keep))
  | inr ne ↦
      let k : m ∈ xs = elim (in_cases i) [ inl q ↦ absurd (ne (sym q)) | inr k ↦ k ] in
      let rest = filter_but p m xs d.1 k h in
      let same : (p x && not (eqb x m)) ≡ p x = and_yes (p x) (not (eqb x m)) (not_from_false (eqb x m) (ne_eqb x m ne)) in
      counted (p x) (p x && not (eqb x m)) same (filter (λ u. p u && not (eqb u m)) xs) (filter p xs) rest
]
  where
    not_true' : (a b : Bool) → b ≡ true → (a && not b) ≡ false
    not_true' true b e = not_from_true b e
    not_true' false b e = refl

    counted : (b c : Bool) → c ≡ b → (us vs : List ℕ) → suc (length us) ≡ length vs → suc (length (cond c (x ∷ us) us)) ≡ length (cond b (x ∷ vs) vs)
    counted true c e us vs r = ap (λ z. suc (length (cond z (x ∷ us) us))) e ∙ ap suc r
    counted false c e us vs r = ap (λ z. suc (length (cond z (x ∷ us) us))) e ∙ r

-- A link between positions that are not joined makes two parts one.
module _ (e : Wire) (es : List Wire) (n : ℕ) (in-a : e.0 < n) (in_b : e.1 < n) (apart : Same es e.0 e.1 → ⊥) where
  first : (u : ℕ) → First es u (suc u)
  first u = elim (first_or_none es u (suc u)) [ inl f ↦ f | inr none ↦ absurd (none u (omega arith) refl) ]

  a : First es e.0 (suc e.0)
  a = first e.0

  b : First es e.1 (suc e.1)
  b = first e.1

  -- The later of the two heads is one no more.
  gone : ℕ
  gone = max a.at b.at

  heads_differ : a.at ≡ b.at → ⊥
  heads_differ q = apart (sym a.same ∙ ap (label es) q ∙ b.same)

  head_leads : (u : ℕ) (f : First es u (suc u)) → Leads es 0 f.at
  head_leads u f v p lt s = f.none v lt (s ∙ f.same)

  -- A head is the first of its part.
  head_is : (u : ℕ) (f : First es u (suc u)) (h : ℕ) → Leads es 0 h → Same es h u → h ≡ f.at
  head_is u f h leads-h s = elim (cases_order h f.at) [
    | inl q ↦ q
    | inr o ↦ elim o [
      | inl lt ↦ absurd (f.none h lt s)
      | inr gt ↦ absurd (leads-h f.at (omega arith) gt (f.same ∙ sym s))
    ]
  ]

  first_below : (u : ℕ) (f : First es u (suc u)) (v : ℕ) → Same es v u → f.at ≤ v
  first_below u f v s = elim (cases_order v f.at) [
    | inl q ↦ omega arith
    | inr o ↦ elim o [ inl lt ↦ absurd (f.none v lt s) | inr gt ↦ omega arith ]
  ]

  heads_joined : Same (e ∷ es) a.at b.at
  heads_joined = same_more e es a.at e.0 a.same ∙ same_wire {es = e ∷ es} (here refl) ∙ sym (same_more e es b.at e.1 b.same)

  gone_leads_not : Leads (e ∷ es) 0 gone → ⊥
  unfolding gone
  gone_leads_not l = elim (cases_order a.at b.at) [
    | inl q ↦ heads_differ q
    | inr o ↦ elim o [
      | inl lt ↦ let m : max a.at b.at ≡ b.at = omega arith in l a.at (omega arith) (omega arith) (heads_joined ∙ ap (label (e ∷ es)) (sym m))
      | inr gt ↦ let m : max a.at b.at ≡ a.at = omega arith in l b.at (omega arith) (omega arith) (sym heads_joined ∙ ap (label (e ∷ es)) (sym m))
    ]
  ]

  others_lead : (u : ℕ) → Leads es 0 u → (u ≡ gone → ⊥) → Leads (e ∷ es) 0 u
  unfolding gone
  others_lead u l d v p lt s = same_cases e es v u ⊥ s (l v p lt)
      (λ x y.
      let q : u ≡ a.at = head_is e.0 a u l (sym y) in
      let below = first_below e.1 b v x in
      d (omega arith))
      (λ x y.
      let q : u ≡ b.at = head_is e.1 b u l y in
      let below = first_below e.0 a v x in
      d (omega arith))

  gone_was_head : (gone < n) × Leads es 0 gone
  unfolding gone
  gone_was_head = elim (cases_order a.at b.at) [
    | inl q ↦ absurd (heads_differ q)
    | inr o ↦
        let x = a.below in let y = b.below in
        elim o [
          | inl lt ↦ let m : b.at ≡ max a.at b.at = omega arith in (omega arith, subst (Leads es 0) m (head_leads e.1 b))
          | inr gt ↦ let m : a.at ≡ max a.at b.at = omega arith in (omega arith, subst (Leads es 0) m (head_leads e.0 a))
        ]
  ]

  leads_but : (u : ℕ) → leads (e ∷ es) 0 u ≡ (leads es 0 u && not (eqb u gone))
  leads_but u = same_test (leads (e ∷ es) 0 u) (leads es 0 u && not (eqb u gone))
      (λ t. let l = leads_of (e ∷ es) 0 u t in
      and_from (leads es 0 u) (not (eqb u gone)) (of_leads es 0 u (λ v p lt s. l v p lt (same_more e es v u s)))
      (not_in (eqb u gone) (λ q. gone_leads_not (subst (Leads (e ∷ es) 0) (eqb-true u gone q) l))))
      (λ t. let k = and_parts (leads es 0 u) (not (eqb u gone)) t in
      of_leads (e ∷ es) 0 u (others_lead u (leads_of es 0 u k.0) (λ q. not_of (eqb u gone) k.1 (eq-eqb u gone q))))

  pub heads_merged : suc (length (heads (e ∷ es) n)) ≡ length (heads es n)
  heads_merged =
      ap (λ us. suc (length us)) (filter_cong (leads (e ∷ es) 0) (λ u. leads es 0 u && not (eqb u gone)) (range 0 n) (λ u _. leads_but u))
      ∙ filter_but (leads es 0) gone (range 0 n) (distinct_range 0 n) (in_range 0 n gone (omega arith) (let g = gone_was_head.0 in omega arith)) (of_leads es 0 gone gone_was_head.1)

-- Labels of some positions that tell the parts.
abbrev pub Tell : (n : ℕ) → List Wire → (ℕ → ℕ) → Type 0
Tell n es f = (u v : ℕ) → u < n → v < n → (f u ≡ f v) ↔ Same es u v

pub tell_more : (n : ℕ) (e : Wire) (es : List Wire) (f g : ℕ → ℕ) → e.0 < n → e.1 < n → Tell n es f
    → ((u : ℕ) → u < n → g u ≡ cond (eqb (f u) (f e.1)) (f e.0) (f u)) → Tell n (e ∷ es) g
tell_more n e es f g in-a in_b t h u v in-u in-v = (forth, back)
  where
    hit : (u : ℕ) → u < n → f u ≡ f e.1 → g u ≡ f e.0
    hit u i q = h u i ∙ cond-true (eqb (f u) (f e.1)) (f e.0) (f u) (eq-eqb (f u) (f e.1) q)

    miss : (u : ℕ) → u < n → (f u ≡ f e.1 → ⊥) → g u ≡ f u
    miss u i d = h u i ∙ cond-false (eqb (f u) (f e.1)) (f e.0) (f u) (ne_eqb (f u) (f e.1) d)

    -- by the link
    over : (u v : ℕ) → u < n → v < n → f u ≡ f e.1 → f e.0 ≡ f v → Same (e ∷ es) u v
    over u v i j p q =
        same_more e es u e.1 ((t u e.1 i in_b).0 p) ∙ sym (same_wire {es = e ∷ es} (here refl)) ∙ same_more e es e.0 v ((t e.0 v in-a j).0 q)

    forth : g u ≡ g v → Same (e ∷ es) u v
    forth q = elim (cases_eq (f u) (f e.1)) [
      | inl p ↦ elim (cases_eq (f v) (f e.1)) [
        | inl r ↦ same_more e es u v ((t u v in-u in-v).0 (p ∙ sym r))
        | inr r ↦ over u v in-u in-v p (sym (hit u in-u p) ∙ q ∙ miss v in-v r)
      ]
      | inr p ↦ elim (cases_eq (f v) (f e.1)) [
        | inl r ↦ sym (over v u in-v in-u r (sym (hit v in-v r) ∙ sym q ∙ miss u in-u p))
        | inr r ↦ same_more e es u v ((t u v in-u in-v).0 (sym (miss u in-u p) ∙ q ∙ miss v in-v r))
      ]
    ]

    -- equal labels stay equal
    stay : (u v : ℕ) → u < n → v < n → f u ≡ f v → g u ≡ g v
    stay u v i j q = h u i ∙ ap (λ k. cond (eqb k (f e.1)) (f e.0) k) q ∙ sym (h v j)

    ends : g e.0 ≡ g e.1
    ends = elim (cases_eq (f e.0) (f e.1)) [ inl p ↦ stay e.0 e.1 in-a in_b p | inr p ↦ miss e.0 in-a p ∙ sym (hit e.1 in_b refl) ]

    back : Same (e ∷ es) u v → g u ≡ g v
    back s = same_cases e es u v (g u ≡ g v) s (λ q. stay u v in-u in-v ((t u v in-u in-v).1 q))
        (λ a b. stay u e.1 in-u in_b ((t u e.1 in-u in_b).1 a) ∙ sym ends ∙ stay e.0 v in-a in-v ((t e.0 v in-a in-v).1 b))
        (λ a b. stay u e.0 in-u in-a ((t u e.0 in-u in-a).1 a) ∙ ends ∙ sym (stay v e.1 in-v in_b ((t v e.1 in-v in_b).1 b)))

-- Without links each position is a head.
pub heads_apart : (n : ℕ) → length (heads [] n) ≡ n
heads_apart n =
    ap length (filter_all (leads [] 0) (range 0 n) (λ u _. of_leads [] 0 u (λ v p lt s. omega arith))) ∙ length_range 0 n
  where
    length_range : (a n : ℕ) → length (range a n) ≡ n
    length_range a zero = refl
    length_range a (suc n) = ap suc (length_range (suc a) n)

-- What labels say of the links, and what they say with one link more.
abbrev pub Says : (n : ℕ) → List Wire → (ℕ → ℕ) → Type 0
Says n es f = (u v : ℕ) → u < n → v < n → (f u ≡ f v) ↔ Joined es u v

says_tell : (n : ℕ) (es : List Wire) (f : ℕ → ℕ) → Says n es f → Tell n es f
says_tell n es f h u v p q = (λ e. (labels_tell es u v).1 ((h u v p q).0 e), λ s. (h u v p q).1 ((labels_tell es u v).0 s))

tell_says : (n : ℕ) (e : Wire) (es : List Wire) (f : ℕ → ℕ) → Tell n (e ∷ es) f → Says n (es ++ (e ∷ [])) f
tell_says n e es f h u v p q = (
  λ k. (labels_tell (es ++ (e ∷ [])) u v).0 ((same_snoc e es u v).1 ((h u v p q).0 k)),
  λ j. (h u v p q).1 ((same_snoc e es u v).0 ((labels_tell (es ++ (e ∷ [])) u v).1 j)),
)

module _ (n : ℕ) (e : Wire) (es : List Wire) (f : ℕ → ℕ) (in-a : e.0 < n) (in_b : e.1 < n) (says : Says n es f) where
  tell : Tell n es f
  tell = says_tell n es f says

  pub says_merged : (g : ℕ → ℕ) → ((u : ℕ) → u < n → g u ≡ cond (eqb (f u) (f e.1)) (f e.0) (f u)) → Says n (es ++ (e ∷ [])) g
  says_merged g h = tell_says n e es g (tell_more n e es f g in-a in_b tell h)

  pub parts_merged : (f e.1 ≡ f e.0 → ⊥) → suc (length (heads (es ++ (e ∷ [])) n)) ≡ length (heads es n)
  parts_merged d = ap (λ us. suc (length us)) (heads_snoc e es n) ∙ heads_merged e es n in-a in_b (λ s. d (sym ((tell e.0 e.1 in-a in_b).1 s)))

  -- Where the labels of the ends are equal already.
  module _ (q : f e.1 ≡ f e.0) where
    joined : Same es e.0 e.1
    joined = (tell e.0 e.1 in-a in_b).0 (sym q)

    pub says_idle : Says n (es ++ (e ∷ [])) f
    says_idle = tell_says n e es f (λ u v h k. (λ r. same_more e es u v ((tell u v h k).0 r), λ s. (tell u v h k).1 (same_idle e es joined u v s)))

    pub parts_idle : length (heads (es ++ (e ∷ [])) n) ≡ length (heads es n)
    parts_idle = ap length (heads_snoc e es n ∙ heads_idle e es joined n)
