-- When the links of some positions fit: each position has as many to each side as it asks for, none cross, and the connectors
-- of each match. Shown here is how that splits at a position over which no link passes, and what a link between the two ends
-- of a region adds to it. Nothing is said of sentences but which connectors match.
use Rattle.std.proofs.Common.{◌≡◌, ℕ, ◌+◌, ◌<◌, ◌≤◌, Bool, true, false, cond, ◌||◌, eqb, ◌⊎◌, ◌↔◌, List, [], ◌∷◌, ◌++◌, length, get_or, sym, refl, ap, ◌∙◌, subst, ap₂, inl, inr, append_assoc, append-nil, arith, length-append}
use Rattle.std.proofs.lemmas.Bool.{cond-true, eq-eqb, ne_eqb}
use Rattle.linkage.specs.Lists.{◌∈◌, here, there, has, place_of}
use Rattle.linkage.proofs.Members.{eqb_cases, has_in, has_not, in_both, in_cases, in_cons, in_has, in_left, in_none, in_one, in_right, in_split}
use Rattle.linkage.proofs.Ranges.{snoc_cases}

-- The right side of a position: the positions that it links to, nearest first, and the connectors that it asks for.
pub record Side : Type 0 where
  pub pos : ℕ
  pub to : List ℕ
  pub by : List ℕ

abbrev pub side : ℕ → List ℕ → List ℕ → Side
side i xs cs = record { pos = i; to = xs; by = cs }

-- A position and the connectors that it asks for on its left.
abbrev pub Need : Type 0
Need = ℕ × List ℕ

-- The positions that link to j, nearest first.
abbrev pub into : List Side → ℕ → List ℕ
into [] j = []
into (a ∷ O) j = into O j ++ cond (has j a.to) (a.pos ∷ []) []

-- The connector, of some, that stands where j stands among the positions xs.
abbrev pub by_place : (cs xs : List ℕ) → ℕ → ℕ
by_place cs xs j = get_or cs (place_of j xs) 0

abbrev pub Apart : Side → Side → Type 0
Apart a b = (j m : ℕ) → j ∈ a.to → m ∈ b.to → a.pos < b.pos → b.pos < j → j < m → ⊥

module _ (matches : ℕ → ℕ → Bool) where
  -- A link from a to b matches, where b is linked to by the positions `from`.
  abbrev pub Agree : (from : List ℕ) → Side → Need → Type 0
  Agree from a b = b.0 ∈ a.to → matches (by_place a.by a.to b.0) (by_place b.1 from a.pos) ≡ true

  pub record Fits (O : List Side) (I : List Need) : Type 0 where
    pub full_out : (a : Side) → a ∈ O → length a.to ≡ length a.by
    pub full_in : (b : Need) → b ∈ I → length (into O b.0) ≡ length b.1
    pub apart : (a b : Side) → a ∈ O → b ∈ O → Apart a b
    pub agree : (a : Side) (b : Need) → a ∈ O → b ∈ I → Agree (into O b.0) a b

  -- What `agree` says does not change with another name for the positions that link to b.
  agree_from : (from from' : List ℕ) (a : Side) (b : Need) → from ≡ from' → Agree from a b → Agree from' a b
  agree_from from from' a b e h = subst (λ l. Agree l a b) e h

into_++ : (O P : List Side) (j : ℕ) → into (O ++ P) j ≡ into P j ++ into O j
into_++ [] P j = sym (append-nil (into P j))
into_++ (a ∷ O) P j =
    let last = cond (has j a.to) (a.pos ∷ []) [] in
    ap (λ l. l ++ last) (into_++ O P j) ∙ append_assoc (into P j) (into O j) last

pub into_none : (O : List Side) (j : ℕ) → ((a : Side) → a ∈ O → j ∈ a.to → ⊥) → into O j ≡ []
into_none [] j h = refl
into_none (a ∷ O) j h =
    ap₂ (λ l b. l ++ cond b (a.pos ∷ []) []) (into_none O j (λ x m. h x (there m))) (has_not j a.to (h a (here refl)))

pub in_into : {a : Side} {O : List Side} {j : ℕ} → a ∈ O → j ∈ a.to → a.pos ∈ into O j
in_into {a} {j = j} (here {x = d} {xs = O} q) k =
    let linked : has j d.to ≡ true = in_has (subst (λ (y : Side). j ∈ y.to) q k) in
    in_right (into O j)
    (subst (λ l. a.pos ∈ l) (sym (cond-true (has j d.to) (d.pos ∷ []) [] linked)) (here (ap (λ (y : Side). y.pos) q)))
in_into {j = j} (there {x = d} {xs = O} m) k = in_left (cond (has j d.to) (d.pos ∷ []) []) (in_into m k)

pub of_into : (O : List Side) (i j : ℕ) → i ∈ into O j → (a : Side) × (a ∈ O) × (a.pos ≡ i) × (j ∈ a.to)
of_into [] i j m = absurd (in_none m)
of_into (d ∷ O) i j m = go (in_split (into O j) m) (of_into O i j)
  where
    last : (b : Bool) → has j d.to ≡ b → i ∈ cond b (d.pos ∷ []) [] → (a : Side) × (a ∈ (d ∷ O)) × (a.pos ≡ i) × (j ∈ a.to)
    last true e k = (d, here refl, in_one k (λ x. d.pos ≡ x) refl, has_in j d.to e)
    last false e k = absurd (in_none k)

    go : (i ∈ into O j) ⊎ (i ∈ cond (has j d.to) (d.pos ∷ []) [])
        → (i ∈ into O j → (a : Side) × (a ∈ O) × (a.pos ≡ i) × (j ∈ a.to)) → (a : Side) × (a ∈ (d ∷ O)) × (a.pos ≡ i) × (j ∈ a.to)
    go (inl h) k = let r = k h in (r.0, there r.1, r.2, r.3)
    go (inr h) k = last (has j d.to) refl h

-- Right sides from lo on that reach at most hi, and needs after lo up to hi.
abbrev pub Span : List Side → ℕ → ℕ → Type 0
Span O lo hi = (a : Side) → a ∈ O → (lo ≤ a.pos) × ((j : ℕ) → j ∈ a.to → (a.pos < j) × (j ≤ hi))

abbrev pub Reach : List Need → ℕ → ℕ → Type 0
Reach I lo hi = (b : Need) → b ∈ I → (lo < b.0) × (b.0 ≤ hi)

-- Two regions that meet at W.
module _ (matches : ℕ → ℕ → Bool) (O P : List Side) (I J : List Need) (L W R : ℕ)
    (sO : Span O L W) (sP : Span P W R) (nI : Reach I L W) (nJ : Reach J W R) where
  into_left : (j : ℕ) → j ≤ W → into (O ++ P) j ≡ into O j
  into_left j h =
      into_++ O P j ∙ ap (λ l. l ++ into O j) (into_none P j (λ a m k. let r = sP a m in let q = r.1 j k in omega arith))

  into_right : (j : ℕ) → W < j → into (O ++ P) j ≡ into P j
  into_right j h =
      into_++ O P j ∙ ap (λ l. into P j ++ l) (into_none O j (λ a m k. let q = (sO a m).1 j k in omega arith)) ∙ append-nil (into P j)

  pub glue_fits : Fits matches O I → Fits matches P J → Fits matches (O ++ P) (I ++ J)
  glue_fits f g = record {
    full_out = λ a m. in_both O m (λ a. length a.to ≡ length a.by) f.full_out g.full_out;
    full_in = λ b m. in_both I m (λ b. length (into (O ++ P) b.0) ≡ length b.1)
        (λ b m. ap length (into_left b.0 (nI b m).1) ∙ f.full_in b m)
        (λ b m. ap length (into_right b.0 (nJ b m).0) ∙ g.full_in b m);
    apart = λ a b p q. in_both O p (λ a. Apart a b)
        (λ a p. in_both O q (λ b. Apart a b) (λ b q. f.apart a b p q)
        (λ b q j m u v x y z. let e = (sO a p).1 j u in let d = (sP b q).0 in omega arith))
        (λ a p. in_both O q (λ b. Apart a b)
        (λ b q j m u v x y z. let e = (sO b q).1 m v in let d = (sP a p).0 in omega arith) (λ b q. g.apart a b p q));
    agree = λ a b p q. in_both O p (λ a. Agree matches (into (O ++ P) b.0) a b)
        (λ a p. in_both I q (λ b. Agree matches (into (O ++ P) b.0) a b)
        (λ b q. agree_from matches (into O b.0) (into (O ++ P) b.0) a b (sym (into_left b.0 (nI b q).1)) (f.agree a b p q))
        (λ b q k. let e = (sO a p).1 b.0 k in let d = (nJ b q).0 in absurd (omega arith)))
        (λ a p. in_both I q (λ b. Agree matches (into (O ++ P) b.0) a b)
        (λ b q k. let e = sP a p in let d = (nI b q).1 in let x = e.1 b.0 k in absurd (omega arith))
        (λ b q. agree_from matches (into P b.0) (into (O ++ P) b.0) a b (sym (into_right b.0 (nJ b q).0)) (g.agree a b p q)));
  }

  pub left_fits : Fits matches (O ++ P) (I ++ J) → Fits matches O I
  left_fits f = record {
    full_out = λ a m. f.full_out a (in_left P m);
    full_in = λ b m. sym (ap length (into_left b.0 (nI b m).1)) ∙ f.full_in b (in_left J m);
    apart = λ a b p q. f.apart a b (in_left P p) (in_left P q);
    agree = λ a b p q.
        agree_from matches (into (O ++ P) b.0) (into O b.0) a b (into_left b.0 (nI b q).1) (f.agree a b (in_left P p) (in_left J q));
  }

  pub right_fits : Fits matches (O ++ P) (I ++ J) → Fits matches P J
  right_fits f = record {
    full_out = λ a m. f.full_out a (in_right O m);
    full_in = λ b m. sym (ap length (into_right b.0 (nJ b m).0)) ∙ f.full_in b (in_right I m);
    apart = λ a b p q. f.apart a b (in_right O p) (in_right O q);
    agree = λ a b p q.
        agree_from matches (into (O ++ P) b.0) (into P b.0) a b (into_right b.0 (nJ b q).0) (f.agree a b (in_right O p) (in_right I q));
  }

-- The connector of a last position more.
by_place_in : (cs xs : List ℕ) (c y j : ℕ) → length xs ≡ length cs → j ∈ xs → by_place (cs ++ (c ∷ [])) (xs ++ (y ∷ [])) j ≡ by_place cs xs j
by_place_in cs [] c y j h m = absurd (in_none m)
by_place_in [] (x ∷ xs) c y j h m = absurd (omega arith)
by_place_in (d ∷ cs) (x ∷ xs) c y j h m = go (eqb_cases j x) (in_cases m) (by_place_in cs xs c y j (omega arith))
  where
    go : ((j ≡ x) × (eqb j x ≡ true)) ⊎ ((j ≡ x → ⊥) × (eqb j x ≡ false)) → (j ≡ x) ⊎ (j ∈ xs)
        → (j ∈ xs → by_place (cs ++ (c ∷ [])) (xs ++ (y ∷ [])) j ≡ by_place cs xs j)
        → by_place ((d ∷ cs) ++ (c ∷ [])) ((x ∷ xs) ++ (y ∷ [])) j ≡ by_place (d ∷ cs) (x ∷ xs) j
    go (inl p) q k = rw p.1 refl
    go (inr p) (inl e) k = absurd (p.0 e)
    go (inr p) (inr m) k = rw p.1 (k m)

by_place_last : (cs xs : List ℕ) (c y : ℕ) → length xs ≡ length cs → (y ∈ xs → ⊥) → by_place (cs ++ (c ∷ [])) (xs ++ (y ∷ [])) y ≡ c
by_place_last [] [] c y h d = rw (eq-eqb y y refl) refl
by_place_last (e ∷ cs) [] c y h d = absurd (omega arith)
by_place_last [] (x ∷ xs) c y h d = absurd (omega arith)
by_place_last (e ∷ cs) (x ∷ xs) c y h d =
    rw (ne_eqb y x (λ q. d (here q))) (by_place_last cs xs c y (omega arith) (λ m. d (there m)))

has_snoc : (j : ℕ) (xs : List ℕ) (y : ℕ) → (j ≡ y → ⊥) → has j (xs ++ (y ∷ [])) ≡ has j xs
has_snoc j [] y d = ap (λ b. b || false) (ne_eqb j y d)
has_snoc j (x ∷ xs) y d = ap (λ b. eqb j x || b) (has_snoc j xs y d)

-- A link between the two ends of a region, where L links to the positions `row` in it; the positions in it have the right sides O
-- and the needs I.
module _ (matches : ℕ → ℕ → Bool) (O : List Side) (I : List Need) (L R : ℕ) (row : List ℕ) (h : L < R)
    (low : (j : ℕ) → j ∈ row → (L < j) × (j < R))
    (sO : (a : Side) → a ∈ O → (L < a.pos) × ((j : ℕ) → j ∈ a.to → j ≤ R))
    (nI : (b : Need) → b ∈ I → b.0 < R) where
  -- the right side of L without the link and with it
  abbrev short : List ℕ → Side
  short l = side L row l

  abbrev long : List ℕ → Side
  long l = side L (row ++ (R ∷ [])) l

  not_R : R ∈ row → ⊥
  not_R m = let r = low R m in omega arith

  not_L : L ∈ into O R → ⊥
  not_L m = let r = of_into O L R m in let q = (sO r.0 r.1).0 in let e = r.2 in omega arith

  into_other : (l k : List ℕ) (j : ℕ) → (j ≡ R → ⊥) → into (long l ∷ O) j ≡ into (short k ∷ O) j
  into_other l k j d = ap (λ b. into O j ++ cond b (L ∷ []) []) (has_snoc j row R d)

  into_long : (l : List ℕ) → into (long l ∷ O) R ≡ into O R ++ (L ∷ [])
  into_long l = ap (λ b. into O R ++ cond b (L ∷ []) []) (in_has (in_right row (here refl)))

  into_short : (l : List ℕ) → into (short l ∷ O) R ≡ into O R
  into_short l = ap (λ b. into O R ++ cond b (L ∷ []) []) (has_not R row not_R) ∙ append-nil (into O R)

  -- the connectors of a link to b, with the link between the ends and without it
  agree_inner : (l k : List ℕ) (a : Side) (b : Need) → b ∈ I → into (long l ∷ O) b.0 ≡ into (short k ∷ O) b.0
  agree_inner l k a b q = let w = nI b q in into_other l k b.0 (λ e. omega arith)

  module _ (l r : List ℕ) (c e : ℕ) where
    abbrev l⁺ : List ℕ
    l⁺ = l ++ (c ∷ [])

    abbrev r⁺ : List ℕ
    r⁺ = r ++ (e ∷ [])

    module _ (lrow : length row ≡ length l) (lr : length (into O R) ≡ length r) where
      agree_last : Agree matches (into (long l⁺ ∷ O) R) (long l⁺) (R, r⁺) ↔ (matches c e ≡ true)
      agree_last =
          let p : by_place l⁺ (row ++ (R ∷ [])) R ≡ c = by_place_last l row c R lrow not_R in
          let q : by_place r⁺ (into (long l⁺ ∷ O) R) L ≡ e = ap (λ y. by_place r⁺ y L) (into_long l⁺) ∙ by_place_last r (into O R) e L lr not_L in
          (λ f. sym (ap₂ matches p q) ∙ f (in_right row (here refl)), λ t _. ap₂ matches p q ∙ t)

      -- a link to R from within
      same_into_R : (a : Side) → a ∈ O → R ∈ a.to → by_place r⁺ (into (long l⁺ ∷ O) R) a.pos ≡ by_place r (into (short l ∷ O) R) a.pos
      same_into_R a p k =
          ap (λ y. by_place r⁺ y a.pos) (into_long l⁺)
          ∙ by_place_in r (into O R) e L a.pos lr (in_into p k)
          ∙ sym (ap (λ y. by_place r y a.pos) (into_short l))

      -- a link from L to within
      same_from_L : (b : Need) → b ∈ I → b.0 ∈ row
          → matches (by_place l⁺ (row ++ (R ∷ [])) b.0) (by_place b.1 (into (long l⁺ ∷ O) b.0) L)
          ≡ matches (by_place l row b.0) (by_place b.1 (into (short l ∷ O) b.0) L)
      same_from_L b q k =
          ap₂ matches (by_place_in l row c R b.0 lrow k) (ap (λ y. by_place b.1 y L) (agree_inner l⁺ l (long l⁺) b q))

    pub link_fits : matches c e ≡ true → Fits matches (short l ∷ O) (I ++ ((R, r) ∷ [])) → Fits matches (long l⁺ ∷ O) (I ++ ((R, r⁺) ∷ []))
    link_fits t f =
        let lrow : length row ≡ length l = f.full_out (short l) (here refl) in
        let lr : length (into O R) ≡ length r = sym (ap length (into_short l)) ∙ f.full_in (R, r) (in_right I (here refl)) in
        record {
          full_out = λ a m. in_cons m (λ a. length a.to ≡ length a.by)
              (length-append row (R ∷ []) ∙ ap (λ n. n + 1) lrow ∙ sym (length-append l (c ∷ []))) (λ a m. f.full_out a (there m));
          full_in = λ b m. in_both I m (λ b. length (into (long l⁺ ∷ O) b.0) ≡ length b.1)
              (λ b m. ap length (agree_inner l⁺ l (long l⁺) b m) ∙ f.full_in b (in_left ((R, r) ∷ []) m))
              (λ b m. in_one m (λ b. length (into (long l⁺ ∷ O) b.0) ≡ length b.1)
              (ap length (into_long l⁺) ∙ length-append (into O R) (L ∷ []) ∙ ap (λ n. n + 1) lr ∙ sym (length-append r (e ∷ []))));
          apart = λ a b p q. in_cons p (λ a. Apart a b)
              (in_cons q (λ b. Apart (long l⁺) b) (λ j m u v x y z. omega arith)
              (λ b q j m u v x y z. elim (in_split row u) [
                | inl u ↦ f.apart (short l) b (here refl) (there q) j m u v x y z
                | inr u ↦ let w = in_one u (λ k. k ≡ R) refl in let g = (sO b q).1 m v in omega arith
              ]))
              (λ a p. in_cons q (λ b. Apart a b) (λ j m u v x y z. let w = (sO a p).0 in omega arith)
              (λ b q. f.apart a b (there p) (there q)));
          agree = λ a b p q. in_cons p (λ a. Agree matches (into (long l⁺ ∷ O) b.0) a b)
              (in_both I q (λ b. Agree matches (into (long l⁺ ∷ O) b.0) (long l⁺) b)
              (λ b q k.
              let w = nI b q in
              let inrow : b.0 ∈ row = elim (in_split row k) [ inl u ↦ u | inr u ↦ let z = in_one u (λ y. y ≡ R) refl in absurd (omega arith) ] in
              same_from_L lrow lr b q inrow ∙ f.agree (short l) b (here refl) (in_left ((R, r) ∷ []) q) inrow)
              (λ b q. in_one q (λ b. Agree matches (into (long l⁺ ∷ O) b.0) (long l⁺) b) ((agree_last lrow lr).1 t)))
              (λ a p. in_both I q (λ b. Agree matches (into (long l⁺ ∷ O) b.0) a b)
              (λ b q. agree_from matches (into (short l ∷ O) b.0) (into (long l⁺ ∷ O) b.0) a b (sym (agree_inner l⁺ l a b q)) (f.agree a b (there p) (in_left ((R, r) ∷ []) q)))
              (λ b q. in_one q (λ b. Agree matches (into (long l⁺ ∷ O) b.0) a b)
              (λ k. ap (matches (by_place a.by a.to R)) (same_into_R lrow lr a p k) ∙ f.agree a (R, r) (there p) (in_right I (here refl)) k)));
        }

    pub unlink_fits : Fits matches (long l⁺ ∷ O) (I ++ ((R, r⁺) ∷ [])) → (matches c e ≡ true) × Fits matches (short l ∷ O) (I ++ ((R, r) ∷ []))
    unlink_fits f =
        let full : length (row ++ (R ∷ [])) ≡ length l⁺ = f.full_out (long l⁺) (here refl) in
        let filled : length (into O R ++ (L ∷ [])) ≡ length r⁺ = sym (ap length (into_long l⁺)) ∙ f.full_in (R, r⁺) (in_right I (here refl)) in
        let lrow : length row ≡ length l = omega (arith, full, length-append row (R ∷ []), length-append l (c ∷ [])) in
        let lr : length (into O R) ≡ length r = omega (arith, filled, length-append (into O R) (L ∷ []), length-append r (e ∷ [])) in (
          (agree_last lrow lr).0 (f.agree (long l⁺) (R, r⁺) (here refl) (in_right I (here refl))),
          record {
            full_out = λ a m. in_cons m (λ a. length a.to ≡ length a.by) lrow (λ a m. f.full_out a (there m));
            full_in = λ b m. in_both I m (λ b. length (into (short l ∷ O) b.0) ≡ length b.1)
                (λ b m. sym (ap length (agree_inner l⁺ l (long l⁺) b m)) ∙ f.full_in b (in_left ((R, r⁺) ∷ []) m))
                (λ b m. in_one m (λ b. length (into (short l ∷ O) b.0) ≡ length b.1) (ap length (into_short l) ∙ lr));
            apart = λ a b p q. in_cons p (λ a. Apart a b)
                (in_cons q (λ b. Apart (short l) b) (λ j m u v x y z. omega arith)
                (λ b q j m u v x y z. f.apart (long l⁺) b (here refl) (there q) j m (in_left (R ∷ []) u) v x y z))
                (λ a p. in_cons q (λ b. Apart a b) (λ j m u v x y z. let w = (sO a p).0 in omega arith)
                (λ b q. f.apart a b (there p) (there q)));
            agree = λ a b p q. in_cons p (λ a. Agree matches (into (short l ∷ O) b.0) a b)
                (in_both I q (λ b. Agree matches (into (short l ∷ O) b.0) (short l) b)
                (λ b q k. sym (same_from_L lrow lr b q k) ∙ f.agree (long l⁺) b (here refl) (in_left ((R, r⁺) ∷ []) q) (in_left (R ∷ []) k))
                (λ b q. in_one q (λ b. Agree matches (into (short l ∷ O) b.0) (short l) b) (λ k. absurd (not_R k))))
                (λ a p. in_both I q (λ b. Agree matches (into (short l ∷ O) b.0) a b)
                (λ b q. agree_from matches (into (long l⁺ ∷ O) b.0) (into (short l ∷ O) b.0) a b (agree_inner l⁺ l a b q) (f.agree a b (there p) (in_left ((R, r⁺) ∷ []) q)))
                (λ b q. in_one q (λ b. Agree matches (into (short l ∷ O) b.0) a b)
                (λ k. sym (ap (matches (by_place a.by a.to R)) (same_into_R lrow lr a p k)) ∙ f.agree a (R, r⁺) (there p) (in_right I (here refl)) k)));
          },
        )

  -- Such a link takes a last connector at both ends.
  pub ends : (l r : List ℕ) → Fits matches (long l ∷ O) (I ++ ((R, r) ∷ []))
      → (l' : List ℕ) × (c : ℕ) × (r' : List ℕ) × (e : ℕ) × (l ≡ l' ++ (c ∷ [])) × (r ≡ r' ++ (e ∷ []))
  ends l r f =
      let p : length (row ++ (R ∷ [])) ≡ length l = f.full_out (long l) (here refl) in
      let q : length (into O R ++ (L ∷ [])) ≡ length r = sym (ap length (into_long l)) ∙ f.full_in (R, r) (in_right I (here refl)) in
      go (snoc_cases l) (snoc_cases r) (sym (length-append row (R ∷ [])) ∙ p) (sym (length-append (into O R) (L ∷ [])) ∙ q)
    where
      go : (l ≡ []) ⊎ ((ys : List ℕ) × (y : ℕ) × (l ≡ ys ++ (y ∷ []))) → (r ≡ []) ⊎ ((ys : List ℕ) × (y : ℕ) × (r ≡ ys ++ (y ∷ [])))
          → length row + 1 ≡ length l → length (into O R) + 1 ≡ length r
          → (l' : List ℕ) × (c : ℕ) × (r' : List ℕ) × (e : ℕ) × (l ≡ l' ++ (c ∷ [])) × (r ≡ r' ++ (e ∷ []))
      go (inl e) k p q = let z : length l ≡ 0 = ap length e in absurd (omega arith)
      go (inr x) (inl e) p q = let z : length r ≡ 0 = ap length e in absurd (omega arith)
      go (inr x) (inr y) p q = (x.0, x.1, y.0, y.1, x.2, y.2)
