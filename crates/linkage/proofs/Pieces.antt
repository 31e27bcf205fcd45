-- All pieces of a region, made as the inside recursion goes: where its equations add, lists are joined, and where they multiply,
-- pieces are glued.
use Rattle.std.proofs.Common.{◌≡◌, ℕ, zero, suc, ◌<◌, Bool, true, false, cond, eqb, List, [], ◌∷◌, ◌++◌, map, sym, refl, ap, ◌∙◌, subst}
use mathlib.Core.Bool.{false≢true}
use mathlib.Core.Option.{none, some}
use Rattle.linkage.specs.Inside.{Waiting}
use Rattle.linkage.specs.Lists.{◌∈◌, Distinct, back, between, concatMap, empty}
use Rattle.linkage.specs.Linkages.{Linkage}
use Rattle.linkage.specs.Sentences.{Choice, Sentence, choices, lefts, rights}
use Rattle.linkage.proofs.Members.{distinct_concatMap, distinct_map, in_concatMap, in_map, in_none, of_concatMap, of_map}
use Rattle.linkage.proofs.Ranges.{in_between, of_between}
use Rattle.linkage.proofs.Regions.{Piece, glue, link_end, put}

-- A list where a test says yes, and no list elsewhere.
abbrev pub keep : {A : Type 0} → Bool → List A → List A
keep b xs = cond b xs []

pub in_keep : {A : Type 0} {x : A} {b : Bool} {xs : List A} → b ≡ true → x ∈ xs → x ∈ keep b xs
in_keep {x = x} {xs = xs} e m = subst (λ b. x ∈ keep b xs) (sym e) m

pub of_keep : {A : Type 0} {x : A} (b : Bool) (xs : List A) → x ∈ keep b xs → (b ≡ true) × (x ∈ xs)
of_keep true xs m = (refl, m)
of_keep false xs m = absurd (in_none m)

pub distinct_keep : {A : Type 0} (b : Bool) (xs : List A) → Distinct xs → Distinct (keep b xs)
distinct_keep true xs n = n
distinct_keep false xs n = tt

-- Each of some with each of others.
abbrev pub pairs : {A B C : Type 0} → (A → B → C) → List A → List B → List C
pairs k xs ys = concatMap (λ x. map (k x) ys) xs

pub in_pairs : {A B C : Type 0} (k : A → B → C) {a : A} {b : B} {xs : List A} {ys : List B} → a ∈ xs → b ∈ ys → k a b ∈ pairs k xs ys
in_pairs k {a} {ys = ys} p q = in_concatMap (λ x. map (k x) ys) p (in_map (k a) q)

pub of_pairs : {A B C : Type 0} (k : A → B → C) (xs : List A) (ys : List B) {z : C} → z ∈ pairs k xs ys
    → (a : A) × (b : B) × (a ∈ xs) × (b ∈ ys) × (z ≡ k a b)
of_pairs k xs ys m =
    let p = of_concatMap (λ x. map (k x) ys) xs m in
    let q = of_map (k p.0) ys p.2 in
    (p.0, q.0, p.1, q.1, q.2)

pub distinct_pairs : {A B C : Type 0} (k : A → B → C) (xs : List A) (ys : List B)
    → ((a a' : A) (b b' : B) → a ∈ xs → a' ∈ xs → k a b ≡ k a' b' → (a ≡ a') × (b ≡ b')) → Distinct xs → Distinct ys → Distinct (pairs k xs ys)
distinct_pairs k xs ys one n m =
    distinct_concatMap (λ x. map (k x) ys) xs
    (λ a c b p q u v. let g = of_map (k a) ys u in let h = of_map (k c) ys v in (one a c g.0 h.0 p q (sym g.2 ∙ h.2)).0)
    n (λ a p. distinct_map (k a) ys (λ b b' _ _ e. (one a a b b' p p e).1) m)

pub empty_is : {A : Type 0} (xs : List A) → empty xs ≡ true → xs ≡ []
empty_is [] e = refl
empty_is (x ∷ xs) e = absurd (false≢true e)

-- The lists of the positions between L and R and of their options, joined.
module _ (s : Sentence) where
  abbrev pub gather : (L R : ℕ) → (ℕ → Choice → List Piece) → List Piece
  gather L R f = concatMap (λ W. concatMap (f W) (choices s W)) (between L R)

  pub in_gather : (L R : ℕ) (f : ℕ → Choice → List Piece) (W : ℕ) (c : Choice) (x : Piece) → L < W → W < R → c ∈ choices s W → x ∈ f W c → x ∈ gather L R f
  in_gather L R f W c x LW WR i m = in_concatMap (λ W. concatMap (f W) (choices s W)) (in_between L R W LW WR) (in_concatMap (f W) i m)

  pub record Gathered (L R : ℕ) (f : ℕ → Choice → List Piece) (x : Piece) : Type 0 where
    pub W : ℕ
    pub c : Choice
    pub LW : L < W
    pub WR : W < R
    pub option : c ∈ choices s W
    pub from : x ∈ f W c

  pub of_gather : (L R : ℕ) (f : ℕ → Choice → List Piece) (x : Piece) → x ∈ gather L R f → Gathered L R f x
  of_gather L R f x m =
      let h = of_concatMap (λ W. concatMap (f W) (choices s W)) (between L R) m in
      let k = of_concatMap (f h.0) (choices s h.0) h.2 in
      let b = of_between L R h.0 h.1 in
      record { W = h.0; c = k.0; LW = b.0; WR = b.1; option = k.1; from = k.2 }

abbrev pub edge_pieces : (l r : List ℕ) → List Piece
edge_pieces [] [] = ([], []) ∷ []
edge_pieces [] (c ∷ r) = []
edge_pieces (c ∷ l) r = []

module _ (s : Sentence) (rec : (L R : ℕ) (l r : List ℕ) → List Piece) where
  abbrev pub linked_pieces : (W R : ℕ) → Waiting → Waiting → List Piece
  linked_pieces W R none r = []
  linked_pieces W R (some (p, c)) none = []
  linked_pieces W R (some (p, c)) (some (r, d)) = keep (s.matches c d) (map (link_end R) (rec W R p r))

  -- With or without a link between W and R.
  abbrev pub closed_pieces : (W R : ℕ) (p r : List ℕ) → List Piece
  closed_pieces W R p r = rec W R p r ++ linked_pieces W R (back p) (back r)

  abbrev pub opening_with : (A R : ℕ) → Choice → List Linkage
  opening_with A R c = keep (empty (lefts s A c)) (map (put c) (rec A R (rights s A c) []))

  -- The places from A on, which begins a part.
  abbrev pub opening_pieces : (A R : ℕ) → List Linkage
  opening_pieces A R = concatMap (opening_with A R) (choices s A)

  abbrev pub left_pieces : (L R : ℕ) (l : List ℕ) (e : ℕ) (r : List ℕ) (W : ℕ) → Choice → Waiting → List Piece
  left_pieces L R l e r W c none = []
  left_pieces L R l e r W c (some (m, d)) =
      keep (s.matches e d) (pairs (glue c) (map (link_end W) (rec L W l m)) (closed_pieces W R (rights s W c) r))

  abbrev pub left_at : (L R : ℕ) (l : List ℕ) (e : ℕ) (r : List ℕ) (W : ℕ) → Choice → List Piece
  left_at L R l e r W c = left_pieces L R l e r W c (back (lefts s W c))

  abbrev pub right_at : (L R : ℕ) (q : List ℕ × ℕ) (W : ℕ) → Choice → List Piece
  right_at L R q W c = pairs (glue c) (rec L W [] (lefts s W c)) (linked_pieces W R (back (rights s W c)) (some q))

  abbrev pub inner_pieces : (L R : ℕ) (r : List ℕ) → Waiting → Waiting → List Piece
  inner_pieces L R r none none = map (λ ps. ([], ps)) (opening_pieces (suc L) R)
  inner_pieces L R r none (some q) = gather s L R (right_at L R q)
  inner_pieces L R r (some (l, e)) w = gather s L R (left_at L R l e r)

  abbrev pub region_pieces : (L R : ℕ) (l r : List ℕ) → List Piece
  region_pieces L R l r = cond (eqb R (suc L)) (edge_pieces l r) (inner_pieces L R r (back l) (back r))

  -- What a member of each of these lists is made of.
  pub record Linked (W R : ℕ) (p r : Waiting) (y : Piece) : Type 0 where
    pub p' : List ℕ
    pub c : ℕ
    pub r' : List ℕ
    pub d : ℕ
    pub p_is : p ≡ some (p', c)
    pub r_is : r ≡ some (r', d)
    pub match : s.matches c d ≡ true
    pub free : Piece
    pub from : free ∈ rec W R p' r'
    pub is : y ≡ link_end R free

  pub of_linked : (W R : ℕ) (p r : Waiting) (y : Piece) → y ∈ linked_pieces W R p r → Linked W R p r y
  of_linked W R none r y m = absurd (in_none m)
  of_linked W R (some (p, c)) none y m = absurd (in_none m)
  of_linked W R (some (p, c)) (some (r, d)) y m =
      let k = of_keep (s.matches c d) (map (link_end R) (rec W R p r)) m in
      let h = of_map (link_end R) (rec W R p r) k.1 in
      record { p' = p; c = c; r' = r; d = d; p_is = refl; r_is = refl; match = k.0; free = h.0; from = h.1; is = h.2 }

  pub record Opened (A R : ℕ) (ps : Linkage) : Type 0 where
    pub c : Choice
    pub option : c ∈ choices s A
    pub none_left : lefts s A c ≡ []
    pub rest : Piece
    pub from : rest ∈ rec A R (rights s A c) []
    pub is : ps ≡ put c rest

  pub of_opening : (A R : ℕ) (ps : Linkage) → ps ∈ opening_pieces A R → Opened A R ps
  of_opening A R ps m =
      let h = of_concatMap (opening_with A R) (choices s A) m in
      let c = h.0 in
      let k = of_keep (empty (lefts s A c)) (map (put c) (rec A R (rights s A c) [])) h.2 in
      let y = of_map (put c) (rec A R (rights s A c) []) k.1 in
      record { c = c; option = h.1; none_left = empty_is (lefts s A c) k.0; rest = y.0; from = y.1; is = y.2 }

  pub record Lefted (L R : ℕ) (l : List ℕ) (e : ℕ) (r : List ℕ) (W : ℕ) (c : Choice) (w : Waiting) (x : Piece) : Type 0 where
    pub m : List ℕ
    pub d : ℕ
    pub w_is : w ≡ some (m, d)
    pub match : s.matches e d ≡ true
    pub near : Piece
    pub far : Piece
    pub near_from : near ∈ rec L W l m
    pub far_from : far ∈ closed_pieces W R (rights s W c) r
    pub is : x ≡ glue c (link_end W near) far

  pub of_left : (L R : ℕ) (l : List ℕ) (e : ℕ) (r : List ℕ) (W : ℕ) (c : Choice) (w : Waiting) (x : Piece) → x ∈ left_pieces L R l e r W c w → Lefted L R l e r W c w x
  of_left L R l e r W c none x i = absurd (in_none i)
  of_left L R l e r W c (some (m, d)) x i =
      let ys = closed_pieces W R (rights s W c) r in
      let k = of_keep (s.matches e d) (pairs (glue c) (map (link_end W) (rec L W l m)) ys) i in
      let h = of_pairs (glue c) (map (link_end W) (rec L W l m)) ys k.1 in
      let g = of_map (link_end W) (rec L W l m) h.2 in
      record {
        m = m;
        d = d;
        w_is = refl;
        match = k.0;
        near = g.0;
        far = h.1;
        near_from = g.1;
        far_from = h.3;
        is = h.4 ∙ ap (λ z. glue c z h.1) g.2;
      }

-- All pieces of a region of at most f positions, and the linkages that the whole sentence gives.
abbrev pub pieces : Sentence → (f L R : ℕ) (l r : List ℕ) → List Piece
pieces s zero L R l r = []
pieces s (suc f) L R l r = region_pieces s (pieces s f) L R l r
