-- No piece is made twice.
use Rattle.std.proofs.Common.{◌≡◌, ℕ, zero, suc, ◌+◌, ◌-◌, ◌<◌, ◌≤◌, cond, not, eqb, List, [], ◌∷◌, ◌++◌, map, length, take, drop, sym, refl, ap, ◌∙◌, subst, ap₂, add-zero, add-suc, suc-add, arith}
use mathlib.Core.List.{append_cancel_right}
use mathlib.Core.Option.{none, some}
use Rattle.std.proofs.Math.Seq.{drop-append_seam, take-append_seam}
use Rattle.std.proofs.lemmas.Bool.{cond_both}
use Rattle.linkage.specs.Inside.{Waiting}
use Rattle.linkage.specs.Lists.{◌∈◌, here, Distinct, back, between, concatMap, empty, has, range}
use Rattle.linkage.specs.Linkages.{Linkage, Place}
use Rattle.linkage.specs.Sentences.{Choice, Sentence, bare, choices, lefts, position, rights, takes, unstruck}
use Rattle.linkage.proofs.Members.{distinct_++, distinct_concatMap, distinct_filter, distinct_map, has_not, in_has, in_none, in_right, of_concatMap, of_map}
use Rattle.linkage.proofs.Ranges.{back_snoc, distinct_between, distinct_range, of_between}
use Rattle.linkage.proofs.Regions.{Piece, glue, link_end, put}
use Rattle.linkage.proofs.Rows.{Rows, rising_in}
use Rattle.linkage.proofs.Pieces.{closed_pieces, distinct_keep, distinct_pairs, edge_pieces, gather, inner_pieces, left_at, left_pieces, linked_pieces, of_keep, of_left, of_linked, of_pairs, opening_pieces, opening_with, pairs, pieces, right_at}
use Rattle.linkage.proofs.Sound.{sound}

pub choices_distinct : (s : Sentence) (i : ℕ) → Distinct (choices s i)
choices_distinct s i =
    let p = position s i in
    let n = length p.disjuncts in (
      λ m. let h = of_map takes (unstruck p) m in not_bare h.0 h.2,
      distinct_map takes (unstruck p) (λ a b _ _ e. same_number a b e) (distinct_filter (λ k. not (p.struck k)) (range 0 n) (distinct_range 0 n)),
    )
  where
    not_bare : (k : ℕ) → bare ≡ takes k → ⊥
    not_bare k e = let z : ◌≡◌ {A = ℕ} 0 1 = cc in omega arith

    same_number : (a b : ℕ) → takes a ≡ takes b → a ≡ b
    same_number a b e = cc

-- What is put, glued and linked can be told again.
unput : Linkage → Piece
unput [] = ([], [])
unput (p ∷ ps) = (p.after, ps)

first_choice : Linkage → Choice
first_choice [] = bare
first_choice (p ∷ ps) = p.choice

pub pair_eq : {A B : Type 0} {a b : A} {c d : B} → a ≡ b → c ≡ d → ◌≡◌ {A = A × B} (a, c) (b, d)
pair_eq {A} {B} p q = ap₂ {C = A × B} (λ x y. (x, y)) p q

pub put_one : (c c' : Choice) (x y : Piece) → put c x ≡ put c' y → (c ≡ c') × (x ≡ y)
unfolding unput first_choice
put_one c c' x y e = (ap first_choice e, ap unput e)

append_one : {A : Type 0} (us us' vs vs' : List A) → length us ≡ length us' → us ++ vs ≡ us' ++ vs' → (us ≡ us') × (vs ≡ vs')
append_one us us' vs vs' h e = (
  sym (take-append_seam us vs) ∙ ap₂ take h e ∙ take-append_seam us' vs',
  sym (drop-append_seam us vs) ∙ ap₂ drop h e ∙ drop-append_seam us' vs',
)

glue_one : (c c' : Choice) (x x' y y' : Piece) → length x.1 ≡ length x'.1 → glue c x y ≡ glue c' x' y' → (x ≡ x') × (y ≡ y') × (c ≡ c')
glue_one c c' x x' y y' h e =
    let a = append_one x.1 x'.1 (put c y) (put c' y') h (ap (λ (z : Piece). z.1) e) in
    let b = put_one c c' y y' a.1 in
    (pair_eq (ap (λ (z : Piece). z.0) e) a.0, b.1, b.0)

link_one : (R : ℕ) (x y : Piece) → link_end R x ≡ link_end R y → x ≡ y
link_one R x y e = pair_eq (append_cancel_right x.0 y.0 (R ∷ []) (ap (λ (z : Piece). z.0) e)) (ap (λ (z : Piece). z.1) e)

last_or : Waiting → ℕ
last_or none = 0
last_or (some (xs, x)) = x

last_one : (xs ys : List ℕ) (x y : ℕ) → xs ++ (x ∷ []) ≡ ys ++ (y ∷ []) → x ≡ y
unfolding last_or
last_one xs ys x y e = ap last_or (sym (back_snoc xs x) ∙ ap back e ∙ back_snoc ys y)

-- Where the first of some places stands that links to R.
first_to : ℕ → ℕ → Linkage → ℕ
first_to R i [] = i
first_to R i (p ∷ ps) = cond (has R p.after) i (first_to R (suc i) ps)

first_to_is : (n R i : ℕ) (us : Linkage) (p : Place) (vs : Linkage) → Rows n i us → n ≤ R → R ∈ p.after → first_to R i (us ++ (p ∷ vs)) ≡ i + length us
unfolding first_to
first_to_is n R i [] p vs r h m = ap (λ b. cond b i (first_to R (suc i) vs)) (in_has m) ∙ sym (add-zero i)
first_to_is n R i (u ∷ us) p vs r h m =
    ap (λ b. cond b i (first_to R (suc i) (us ++ (p ∷ vs)))) (has_not R u.after (λ k. let q = rising_in i n r.0 k in omega arith))
    ∙ first_to_is n R (suc i) us p vs r.1 h m
    ∙ (suc-add i (length us) ∙ sym (add-suc i (length us)))

abbrev pub Once : Sentence → ℕ → Type 0
Once s f = (L R : ℕ) (l r : List ℕ) → Distinct (pieces s f L R l r)

-- The lists of all splits are distinct, where each is, where a piece tells its W, and its choice at W.
gather_once : (s : Sentence) (L R : ℕ) (f : ℕ → Choice → List Piece)
    → ((W : ℕ) (c : Choice) → L < W → W < R → Distinct (f W c))
    → ((W W' : ℕ) (c c' : Choice) (x : Piece) → L < W → W < R → L < W' → W' < R → x ∈ f W c → x ∈ f W' c' → W ≡ W')
    → ((W : ℕ) (c c' : Choice) (x : Piece) → L < W → W < R → x ∈ f W c → x ∈ f W c' → c ≡ c')
    → Distinct (gather s L R f)
gather_once s L R f each same-W same-c =
    distinct_concatMap (λ W. concatMap (f W) (choices s W)) (between L R)
    (λ W W' x i j p q.
    let b = of_between L R W i in let b' = of_between L R W' j in
    let g = of_concatMap (f W) (choices s W) p in let h = of_concatMap (f W') (choices s W') q in
    same-W W W' g.0 h.0 x b.0 b.1 b'.0 b'.1 g.2 h.2)
    (distinct_between L R)
    (λ W i. let b = of_between L R W i in
    distinct_concatMap (f W) (choices s W) (λ c c' x _ _ p q. same-c W c c' x b.0 b.1 p q) (choices_distinct s W) (λ c _. each W c b.0 b.1))

module _ (s : Sentence) (f : ℕ) (ih : Once s f) where
  linked_once : (W R : ℕ) (p r : Waiting) → Distinct (linked_pieces s (pieces s f) W R p r)
  linked_once W R none r = tt
  linked_once W R (some (p, c)) none = tt
  linked_once W R (some (p, c)) (some (r, d)) =
      distinct_keep (s.matches c d) (map (link_end R) (pieces s f W R p r))
      (distinct_map (link_end R) (pieces s f W R p r) (λ a b _ _ q. link_one R a b q) (ih W R p r))

  -- A piece that is linked to R tells it by its row.
  row_has : (W R : ℕ) (p r : Waiting) (y : Piece) → y ∈ linked_pieces s (pieces s f) W R p r → R ∈ y.0
  row_has W R p r y m =
      let k = of_linked s (pieces s f) W R p r y m in subst (λ (z : Piece). R ∈ z.0) (sym k.is) (in_right k.free.0 (here refl))

  closed_once : (W R : ℕ) (p r : List ℕ) → Distinct (closed_pieces s (pieces s f) W R p r)
  closed_once W R p r =
      distinct_++ (pieces s f W R p r) (linked_pieces s (pieces s f) W R (back p) (back r)) (ih W R p r) (linked_once W R (back p) (back r))
      (λ y a b. (sound s f W R p r y a).free (row_has W R (back p) (back r) y b))

  -- Pieces of one region are equally long.
  inner_len : (L W : ℕ) (l m : List ℕ) (x : Piece) → x ∈ pieces s f L W l m → length x.1 ≡ W - suc L
  inner_len L W l m x k = let e : suc L + length x.1 ≡ W = (sound s f L W l m x k).valid.len in omega arith

  pub opening_once : (A R : ℕ) → Distinct (opening_pieces s (pieces s f) A R)
  opening_once A R =
      distinct_concatMap (opening_with s (pieces s f) A R) (choices s A)
      (λ c d x _ _ p q. let g = from c x p in let h = from d x q in (put_one c d g.0 h.0 (sym g.1 ∙ h.1)).0)
      (choices_distinct s A)
      (λ c _. distinct_keep (empty (lefts s A c)) (map (put c) (pieces s f A R (rights s A c) []))
      (distinct_map (put c) (pieces s f A R (rights s A c) []) (λ a b _ _ e. (put_one c c a b e).1) (ih A R (rights s A c) [])))
    where
      from : (c : Choice) (x : Linkage) → x ∈ opening_with s (pieces s f) A R c → (y : Piece) × (x ≡ put c y)
      from c x m =
          let k = of_keep (empty (lefts s A c)) (map (put c) (pieces s f A R (rights s A c) [])) m in
          let h = of_map (put c) (pieces s f A R (rights s A c) []) k.1 in
          (h.0, h.2)

  -- L's farthest link goes to W.
  module _ (L R : ℕ) (l : List ℕ) (e : ℕ) (r : List ℕ) where
    left_one : (W : ℕ) (c : Choice) (w : Waiting) → Distinct (left_pieces s (pieces s f) L R l e r W c w)
    left_one W c none = tt
    left_one W c (some (m, d)) =
        let ys = closed_pieces s (pieces s f) W R (rights s W c) r in
        let xs = map (link_end W) (pieces s f L W l m) in
        let long : (a : Piece) → a ∈ xs → length a.1 ≡ W - suc L = λ a p.
        let g = of_map (link_end W) (pieces s f L W l m) p in ap (λ (z : Piece). length z.1) g.2 ∙ inner_len L W l m g.0 g.1 in
        distinct_keep (s.matches e d) (pairs (glue c) xs ys)
        (distinct_pairs (glue c) xs ys (λ a a' b b' p q k. let i = glue_one c c a a' b b' (long a p ∙ sym (long a' q)) k in (i.0, i.1))
        (distinct_map (link_end W) (pieces s f L W l m) (λ a b _ _ q. link_one W a b q) (ih L W l m)) (closed_once W R (rights s W c) r))

    left_once : Distinct (gather s L R (left_at s (pieces s f) L R l e r))
    left_once = gather_once s L R (left_at s (pieces s f) L R l e r) (λ W c _ _. left_one W c (back (lefts s W c)))
        (λ W W' c c' x _ _ _ _ p q.
        let a = of_left s (pieces s f) L R l e r W c (back (lefts s W c)) x p in
        let b = of_left s (pieces s f) L R l e r W' c' (back (lefts s W' c')) x q in
        last_one a.near.0 b.near.0 W W' (ap (λ (z : Piece). z.0) (sym a.is ∙ b.is)))
        (λ W c c' x _ _ p q.
        let a = of_left s (pieces s f) L R l e r W c (back (lefts s W c)) x p in
        let b = of_left s (pieces s f) L R l e r W c' (back (lefts s W c')) x q in
        (glue_one c c' (link_end W a.near) (link_end W b.near) a.far b.far
        (inner_len L W l a.m a.near a.near_from ∙ sym (inner_len L W l b.m b.near b.near_from)) (sym a.is ∙ b.is)).2)

  -- W is the first that links to R.
  module _ (L R : ℕ) (q : List ℕ × ℕ) where
    record Righted (W : ℕ) (c : Choice) (x : Piece) : Type 0 where
      near : Piece
      far : Piece
      is : x ≡ glue c near far
      len : length near.1 ≡ W - suc L
      first : first_to R (suc L) x.1 ≡ W

    of_right : (W : ℕ) (c : Choice) (x : Piece) → W < R → x ∈ right_at s (pieces s f) L R q W c → Righted W c x
    of_right W c x WR m =
        let h = of_pairs (glue c) (pieces s f L W [] (lefts s W c)) (linked_pieces s (pieces s f) W R (back (rights s W c)) (some q)) m in
        let a = h.0 in let y = h.1 in
        let v = (sound s f L W [] (lefts s W c) a h.2).valid in
        let first : first_to R (suc L) (a.1 ++ put c y) ≡ suc L + length a.1 =
        first_to_is (suc W) R (suc L) a.1 (record { choice = c; after = y.0 }) y.1 v.rows WR (row_has W R (back (rights s W c)) (some q) y h.3) in
        record {
          near = a;
          far = y;
          is = h.4;
          len = inner_len L W [] (lefts s W c) a h.2;
          first = ap (λ (z : Piece). first_to R (suc L) z.1) h.4 ∙ first ∙ v.len;
        }

    right_once : Distinct (gather s L R (right_at s (pieces s f) L R q))
    right_once = gather_once s L R (right_at s (pieces s f) L R q)
        (λ W c _ _. distinct_pairs (glue c) (pieces s f L W [] (lefts s W c)) (linked_pieces s (pieces s f) W R (back (rights s W c)) (some q))
        (λ a a' b b' p q k. let i = glue_one c c a a' b b' (inner_len L W [] (lefts s W c) a p ∙ sym (inner_len L W [] (lefts s W c) a' q)) k in (i.0, i.1))
        (ih L W [] (lefts s W c)) (linked_once W R (back (rights s W c)) (some q)))
        (λ W W' c c' x _ WR _ WR' p q. sym (of_right W c x WR p).first ∙ (of_right W' c' x WR' q).first)
        (λ W c c' x _ WR p q.
        let a = of_right W c x WR p in let b = of_right W c' x WR q in
        (glue_one c c' a.near b.near a.far b.far (a.len ∙ sym b.len) (sym a.is ∙ b.is)).2)

  inner_once : (L R : ℕ) (r : List ℕ) (wl wr : Waiting) → Distinct (inner_pieces s (pieces s f) L R r wl wr)
  inner_once L R r none none =
      distinct_map (λ ps. ([], ps)) (opening_pieces s (pieces s f) (suc L) R) (λ a b _ _ e. ap (λ (z : Piece). z.1) e) (opening_once (suc L) R)
  inner_once L R r none (some q) = right_once L R q
  inner_once L R r (some (l, e)) wr = left_once L R l e r

  edge_once : (l r : List ℕ) → Distinct (edge_pieces l r)
  edge_once [] [] = (λ m. in_none m, tt)
  edge_once [] (y ∷ r) = tt
  edge_once (x ∷ l) r = tt

pub once : (s : Sentence) (f : ℕ) → Once s f
once s zero L R l r = tt
once s (suc f) L R l r =
    cond_both (eqb R (suc L)) (edge_pieces l r) (inner_pieces s (pieces s f) L R r (back l) (back r)) Distinct
    (λ _. edge_once s f (once s f) l r) (λ _. inner_once s f (once s f) L R r (back l) (back r))
