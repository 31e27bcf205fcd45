-- The sum over the pieces of a region is its inside value, for any weight of pieces that splits as they do.
use Rattle.std.proofs.Common.{◌≡◌, ℕ, zero, suc, Bool, true, false, cond, eqb, ◌⊎◌, List, [], ◌∷◌, ◌++◌, map, sym, refl, ap, ◌∙◌, subst, ap₂, inl, inr}
use mathlib.Core.Option.{none, some}
use Rattle.std.proofs.lemmas.Bool.{eqb-true}
use Rattle.lexicon.specs.Lexicon.{Disjunct, free}
use Rattle.tally.specs.Semiring.{Semiring, Laws}
use Rattle.linkage.specs.Inside.{Waiting, edge, factor, inner, inside, linked, opening, splits, to_left, when}
use Rattle.linkage.specs.Lists.{◌∈◌, here, back, between, concatMap, empty}
use Rattle.linkage.specs.Linkages.{Linkage}
use Rattle.linkage.specs.Parts.{is_bare}
use Rattle.linkage.specs.Sentences.{Choice, Position, Sentence, asked, bare, choices, lefts, position, rights, takes}
use Rattle.linkage.specs.Sums.{sum}
use Rattle.linkage.proofs.Members.{in_right, of_map}
use Rattle.linkage.proofs.Regions.{Open, Piece, Valid, glue, link_end, put}
use Rattle.linkage.proofs.Pieces.{closed_pieces, edge_pieces, gather, inner_pieces, keep, left_at, left_pieces, linked_pieces, of_linked, opening_pieces, opening_with, pairs, pieces, right_at}
use Rattle.linkage.proofs.Sound.{closed_sound, linked_sound, near_sound, sound}
use Rattle.linkage.proofs.Sums.{both_sum, sum_++, sum_concatMap, sum_cong, sum_map, sum_product}

module _ {V : Type 0} (t : Semiring V) (laws : Laws t) where
  sum_keep : {A : Type 0} (g : A → V) (b : Bool) (xs : List A) → sum t g (keep b xs) ≡ when t b (sum t g xs)
  sum_keep g true xs = refl
  sum_keep g false xs = refl

  sum_pairs : {A B C : Type 0} (g : C → V) (k : A → B → C) (u : A → V) (v : B → V) (xs : List A) (ys : List B)
      → ((x : A) (y : B) → x ∈ xs → y ∈ ys → g (k x y) ≡ t.both (u x) (v y)) → sum t g (pairs k xs ys) ≡ t.both (sum t u xs) (sum t v ys)
  sum_pairs g k u v xs ys h =
      sum_concatMap t laws g (λ x. map (k x) ys) xs
      ∙ sum_cong t laws xs (λ x p. sum_map t laws g (k x) ys ∙ sum_cong t laws ys (λ y q. h x y p q))
      ∙ sym (sum_product t laws u v xs ys)

  sum_gather : (s : Sentence) (g : Piece → V) (L R : ℕ) (f : ℕ → Choice → List Piece) (h : ℕ → Choice → V)
      → ((W : ℕ) (c : Choice) → sum t g (f W c) ≡ h W c) → sum t g (gather s L R f) ≡ splits t s L R h
  sum_gather s g L R f h e =
      sum_concatMap t laws g (λ W. concatMap (f W) (choices s W)) (between L R)
      ∙ sum_cong t laws (between L R) (λ W _. sum_concatMap t laws g (f W) (choices s W) ∙ sum_cong t laws (choices s W) (λ c _. e W c))

  -- A weight of the places from A on, of which `a` and the factor of the choice at A can be taken out.
  pub sum_opening : (s : Sentence) (f A R : ℕ) (a : V) (g : Linkage → V) (w : Piece → V)
      → ((c : Choice) (y : Piece) → y ∈ pieces s f A R (rights s A c) [] → g (put c y) ≡ t.both a (t.both (factor t c) (w y)))
      → ((c : Choice) → sum t w (pieces s f A R (rights s A c) []) ≡ inside t s f A R (rights s A c) [])
      → sum t g (opening_pieces s (pieces s f) A R) ≡ t.both a (opening t s (inside t s f) A R)
  sum_opening s f A R a g w split each =
      sum_concatMap t laws g (opening_with s (pieces s f) A R) (choices s A)
      ∙ sum_cong t laws (choices s A) (λ c _. one c (empty (lefts s A c)))
      ∙ sym (both_sum t laws a (λ c. when t (empty (lefts s A c)) (value c)) (choices s A))
    where
      value : Choice → V
      value c = t.both (factor t c) (inside t s f A R (rights s A c) [])

      one : (c : Choice) (b : Bool) → sum t g (keep b (map (put c) (pieces s f A R (rights s A c) []))) ≡ t.both a (when t b (value c))
      one c false = sym (laws.both_nothing a)
      one c true =
          let ys = pieces s f A R (rights s A c) [] in
          sum_map t laws g (put c) ys
          ∙ sum_cong t laws ys (λ y m. split c y m)
          ∙ sym (both_sum t laws a (λ y. t.both (factor t c) (w y)) ys)
          ∙ ap (t.both a) (sym (both_sum t laws (factor t c) w ys) ∙ ap (t.both (factor t c)) (each c))

-- A weight of pieces that splits.
pub record Splits {V : Type 0} (t : Semiring V) (s : Sentence) (w : ℕ → ℕ → Piece → V) : Type 0 where
  pub at_edge : (L : ℕ) → w L (suc L) ([], []) ≡ t.single
  pub at_gap : (L R : ℕ) (c : Choice) (y : Piece) → Open s (suc L) R (rights s (suc L) c) [] y
      → w L R ([], put c y) ≡ t.both t.gap (t.both (factor t c) (w (suc L) R y))
  pub at_link : (L R : ℕ) (x : Piece) → w L R (link_end R x) ≡ w L R x
  pub at_glue : (L W R : ℕ) (l m p r : List ℕ) (c : Choice) (x y : Piece) → Valid s L W l m x → Valid s W R p r y
      → is_bare c ≡ false → (W ∈ x.0) ⊎ (R ∈ y.0) → w L R (glue c x y) ≡ t.both (w L W x) (w W R y)

-- A word that is linked is not bare.
linked_not_bare : (side : Disjunct ℕ → List ℕ) → side free ≡ [] → (p : Position) (c : Choice) (q : List ℕ × ℕ) → back (side (asked p c)) ≡ some q
    → is_bare c ≡ false
linked_not_bare side none_asked p bare q e = let none_back = ap back none_asked in cc
linked_not_bare side none_asked p (takes k) q e = refl

module _ {V : Type 0} (t : Semiring V) (laws : Laws t) (s : Sentence) (w : ℕ → ℕ → Piece → V) (sp : Splits t s w) where
  module _ (f : ℕ) (ih : (L R : ℕ) (l r : List ℕ) → sum t (w L R) (pieces s f L R l r) ≡ inside t s f L R l r) where
    sum_link : (L R : ℕ) (l r : List ℕ) → sum t (w L R) (map (link_end R) (pieces s f L R l r)) ≡ inside t s f L R l r
    sum_link L R l r =
        sum_map t laws (w L R) (link_end R) (pieces s f L R l r)
        ∙ sum_cong t laws (pieces s f L R l r) (λ x _. sp.at_link L R x)
        ∙ ih L R l r

    linked_sum : (W R : ℕ) (p r : Waiting) → sum t (w W R) (linked_pieces s (pieces s f) W R p r) ≡ linked t s (inside t s f) W R p r
    linked_sum W R none r = refl
    linked_sum W R (some (p, c)) none = refl
    linked_sum W R (some (p, c)) (some (r, d)) =
        sum_keep t laws (w W R) (s.matches c d) (map (link_end R) (pieces s f W R p r)) ∙ ap (when t (s.matches c d)) (sum_link W R p r)

    closed_sum : (W R : ℕ) (p r : List ℕ)
        → sum t (w W R) (closed_pieces s (pieces s f) W R p r) ≡ t.either (inside t s f W R p r) (linked t s (inside t s f) W R (back p) (back r))
    closed_sum W R p r =
        sum_++ t laws (w W R) (pieces s f W R p r) (linked_pieces s (pieces s f) W R (back p) (back r))
        ∙ ap₂ t.either (ih W R p r) (linked_sum W R (back p) (back r))

    left_sum : (L R : ℕ) (l : List ℕ) (e : ℕ) (r : List ℕ) (W : ℕ) (c : Choice) (b : Waiting) → back (lefts s W c) ≡ b
        → sum t (w L R) (left_pieces s (pieces s f) L R l e r W c b) ≡ to_left t s (inside t s f) L W R l e (rights s W c) r b
    left_sum L R l e r W c none eb = refl
    left_sum L R l e r W c (some (m, d)) eb = go (s.matches e d) refl
      where
        xs : List Piece
        xs = map (link_end W) (pieces s f L W l m)

        ys : List Piece
        ys = closed_pieces s (pieces s f) W R (rights s W c) r

        v : V
        v = t.either (inside t s f W R (rights s W c) r) (linked t s (inside t s f) W R (back (rights s W c)) (back r))

        one : s.matches e d ≡ true → (x y : Piece) → x ∈ xs → y ∈ ys → w L R (glue c x y) ≡ t.both (w L W x) (w W R y)
        one q x y p k =
            let h = of_map (link_end W) (pieces s f L W l m) p in
            let near = near_sound s f (sound s f) L W l m e d c h.0 eb q h.1 in
            let far = closed_sound s f (sound s f) W R (rights s W c) r y k in
            subst (λ (z : Piece). w L R (glue c z y) ≡ t.both (w L W z) (w W R y)) (sym h.2)
            (sp.at_glue L W R (l ++ (e ∷ [])) (lefts s W c) (rights s W c) r c (link_end W h.0) y near far (linked_not_bare (λ d. d.left) refl (position s W) c (m, d) eb) (inl (in_right h.0.0 (here refl))))

        go : (b : Bool) → s.matches e d ≡ b → sum t (w L R) (keep b (pairs (glue c) xs ys)) ≡ when t b (t.both (inside t s f L W l m) v)
        go false q = refl
        go true q = sum_pairs t laws (w L R) (glue c) (w L W) (w W R) xs ys (one q) ∙ ap₂ t.both (sum_link L W l m) (closed_sum W R (rights s W c) r)

    right_sum : (L R : ℕ) (q : List ℕ × ℕ) (r : List ℕ) → back r ≡ some q → (W : ℕ) (c : Choice)
        → sum t (w L R) (right_at s (pieces s f) L R q W c) ≡ t.both (inside t s f L W [] (lefts s W c)) (linked t s (inside t s f) W R (back (rights s W c)) (some q))
    right_sum L R q r er W c =
        let xs = pieces s f L W [] (lefts s W c) in
        let ys = linked_pieces s (pieces s f) W R (back (rights s W c)) (some q) in
        sum_pairs t laws (w L R) (glue c) (w L W) (w W R) xs ys
        (λ x y p i.
        let k = of_linked s (pieces s f) W R (back (rights s W c)) (back r) y (subst (λ b. y ∈ linked_pieces s (pieces s f) W R (back (rights s W c)) b) (sym er) i) in
        let far : Valid s W R (rights s W c) r y = subst (Valid s W R (rights s W c) r) (sym k.is) (linked_sound s f (sound s f) W R (rights s W c) r y k) in
        sp.at_glue L W R [] (lefts s W c) (rights s W c) r c x y (sound s f L W [] (lefts s W c) x p).valid far (linked_not_bare (λ d. d.right) refl (position s W) c (k.p', k.c) k.p_is)
        (inr (subst (λ (z : Piece). R ∈ z.0) (sym k.is) (in_right k.free.0 (here refl)))))
        ∙ ap₂ t.both (ih L W [] (lefts s W c)) (linked_sum W R (back (rights s W c)) (some q))

    inner_sum : (L R : ℕ) (r : List ℕ) (wl wr : Waiting) → back r ≡ wr → sum t (w L R) (inner_pieces s (pieces s f) L R r wl wr) ≡ inner t s (inside t s f) L R r wl wr
    inner_sum L R r none none er =
        sum_map t laws (w L R) (λ ps. ([], ps)) (opening_pieces s (pieces s f) (suc L) R)
        ∙ sum_opening t laws s f (suc L) R t.gap (λ ps. w L R ([], ps)) (w (suc L) R)
        (λ c y m. sp.at_gap L R c y (sound s f (suc L) R (rights s (suc L) c) [] y m)) (λ c. ih (suc L) R (rights s (suc L) c) [])
    inner_sum L R r none (some q) er = sum_gather t laws s (w L R) L R (right_at s (pieces s f) L R q) _ (right_sum L R q r er)
    inner_sum L R r (some (l, e)) wr er =
        sum_gather t laws s (w L R) L R (left_at s (pieces s f) L R l e r) _ (λ W c. left_sum L R l e r W c (back (lefts s W c)) refl)

  edge_sum : (L R : ℕ) (l r : List ℕ) → R ≡ suc L → sum t (w L R) (edge_pieces l r) ≡ edge t l r
  edge_sum L R [] [] e = laws.either_nothing (w L R ([], [])) ∙ ap (λ k. w L k ([], [])) e ∙ sp.at_edge L
  edge_sum L R [] (y ∷ r) e = refl
  edge_sum L R (x ∷ l) r e = refl

  pub pieces_sum : (f L R : ℕ) (l r : List ℕ) → sum t (w L R) (pieces s f L R l r) ≡ inside t s f L R l r
  pieces_sum zero L R l r = refl
  pieces_sum (suc f) L R l r = go (eqb R (suc L)) refl (inner_sum f (pieces_sum f) L R r (back l) (back r) refl)
    where
      go : (b : Bool) → eqb R (suc L) ≡ b → sum t (w L R) (inner_pieces s (pieces s f) L R r (back l) (back r)) ≡ inner t s (inside t s f) L R r (back l) (back r)
          → sum t (w L R) (cond b (edge_pieces l r) (inner_pieces s (pieces s f) L R r (back l) (back r))) ≡ cond b (edge t l r) (inner t s (inside t s f) L R r (back l) (back r))
      go true e k = edge_sum L R l r (eqb-true R (suc L) e)
      go false e k = k
