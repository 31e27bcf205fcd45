-- A sentence of n positions has at most 2 n - 3 links, and none where n is 1: a piece with m places has at most 2 m, and one
-- fewer where it has a place and R asks for nothing.
use Rattle.std.proofs.Common.{◌≡◌, ℕ, zero, suc, ◌+◌, ◌-◌, ◌*◌, ◌<◌, ◌≤◌, eqb, ◌⊎◌, List, [], ◌∷◌, ◌++◌, map, length, sym, refl, ap, ◌∙◌, subst, inl, inr, arith, length-append}
use mathlib.Core.Option.{none, some}
use Rattle.std.proofs.lemmas.Bool.{cond_both}
use Rattle.linkage.specs.Inside.{Waiting}
use Rattle.linkage.specs.Lists.{◌∈◌, back}
use Rattle.linkage.specs.Linkages.{Linkage, linkages, links, links_from}
use Rattle.linkage.specs.Sentences.{Choice, Sentence, lefts, rights, size}
use Rattle.linkage.proofs.Members.{in_none, in_one, in_split, of_map}
use Rattle.linkage.proofs.Joins.{Wire}
use Rattle.linkage.proofs.Regions.{Piece, glue, link_end, put}
use Rattle.linkage.proofs.Pieces.{closed_pieces, edge_pieces, inner_pieces, left_at, linked_pieces, of_gather, of_left, of_linked, of_opening, of_pairs, opening_pieces, pieces, right_at}
use Rattle.linkage.proofs.Sound.{sound}
use Rattle.linkage.proofs.Weights.{wires, wires_glue}
use Rattle.linkage.proofs.Whole.{partial_made}

abbrev count : ℕ → Piece → ℕ
count L x = length (wires L x)

count_link : (L R : ℕ) (x : Piece) → count L (link_end R x) ≡ suc (count L x)
count_link L R x = go x.0 (links_from (suc L) x.1)
  where
    go : (xs : List ℕ) (es : List Wire) → length (map (λ j. (L, j)) (xs ++ (R ∷ [])) ++ es) ≡ suc (length (map (λ j. (L, j)) xs ++ es))
    go [] es = refl
    go (y ∷ xs) es = ap suc (go xs es)

count_glue : (L W : ℕ) (c : Choice) (x y : Piece) → suc L + length x.1 ≡ W → count L (glue c x y) ≡ count L x + count W y
count_glue L W c x y e = ap length (wires_glue L W c x y e) ∙ length-append (wires L x) (wires W y)

-- What is spared where nothing waits on the right.
abbrev spare : Waiting → ℕ
spare none = 1
spare (some q) = 0

abbrev Few : Sentence → ℕ → Type 0
Few s f = (L R : ℕ) (l r : List ℕ) (x : Piece) → x ∈ pieces s f L R l r → count L x ≤ 2 * length x.1

module _ (s : Sentence) (f : ℕ) (ih : Few s f) where
  linked_few : (W R : ℕ) (p r : Waiting) (y : Piece) → y ∈ linked_pieces s (pieces s f) W R p r → count W y + spare r ≤ 2 * length y.1 + 1
  linked_few W R p r y m =
      let k = of_linked s (pieces s f) W R p r y m in
      let a = ih W R k.p' k.r' k.free k.from in
      let e = count_link W R k.free in
      let none-spared : spare r ≡ 0 = ap spare k.r_is in
      let bound : count W (link_end R k.free) + spare r ≤ 2 * length k.free.1 + 1 = omega arith in
      subst (λ (z : Piece). count W z + spare r ≤ 2 * length z.1 + 1) (sym k.is) bound

  closed_few : (W R : ℕ) (p r : List ℕ) (y : Piece) → y ∈ closed_pieces s (pieces s f) W R p r → count W y + spare (back r) ≤ 2 * length y.1 + 1
  closed_few W R p r y m = elim (in_split (pieces s f W R p r) m) [
    | inl k ↦ (let a = ih W R p r y k in let b = low (back r) in omega arith)
    | inr k ↦ linked_few W R (back p) (back r) y k
  ]
    where
      low : (w : Waiting) → spare w ≤ 1
      low none = omega arith
      low (some q) = omega arith

  glued : (L W : ℕ) (c : Choice) (x y : Piece) (e : ℕ) → suc L + length x.1 ≡ W → count L x ≤ 2 * length x.1 + 1 → count W y + e ≤ 2 * length y.1 + 1
      → count L (glue c x y) + e ≤ 2 * length (glue c x y).1
  glued L W c x y e lx a b =
      let u = count_glue L W c x y lx in
      let v : length (x.1 ++ put c y) ≡ length x.1 + suc (length y.1) = length-append x.1 (put c y) in
      omega arith

  inner_few : (L R : ℕ) (r : List ℕ) (wl wr : Waiting) → back r ≡ wr → (x : Piece) → x ∈ inner_pieces s (pieces s f) L R r wl wr
      → count L x + spare wr ≤ 2 * length x.1
  inner_few L R r none none er x m =
      let a = of_map (λ ps. ([], ps)) (opening_pieces s (pieces s f) (suc L) R) m in
      let h = of_opening s (pieces s f) (suc L) R a.0 a.1 in
      let is : x ≡ glue h.c ([], []) h.rest = a.2 ∙ ap (λ (ps : Linkage). ([], ps)) h.is in
      let b = ih (suc L) R (rights s (suc L) h.c) [] h.rest h.from in
      subst (λ (z : Piece). count L z + 1 ≤ 2 * length z.1) (sym is) (glued L (suc L) h.c ([], []) h.rest 1 (omega arith) (omega arith) (omega arith))
  inner_few L R r none (some q) er x m =
      let g = of_gather s L R (right_at s (pieces s f) L R q) x m in
      let W = g.W in
      let h = of_pairs (glue g.c) (pieces s f L W [] (lefts s W g.c)) (linked_pieces s (pieces s f) W R (back (rights s W g.c)) (some q)) g.from in
      let a = ih L W [] (lefts s W g.c) h.0 h.2 in
      subst (λ (z : Piece). count L z + 0 ≤ 2 * length z.1) (sym h.4)
      (glued L W g.c h.0 h.1 0 (sound s f L W [] (lefts s W g.c) h.0 h.2).valid.len (omega arith)
      (linked_few W R (back (rights s W g.c)) (some q) h.1 h.3))
  inner_few L R r (some (l, e)) wr er x m =
      let g = of_gather s L R (left_at s (pieces s f) L R l e r) x m in
      let W = g.W in
      let k = of_left s (pieces s f) L R l e r W g.c (back (lefts s W g.c)) x g.from in
      let a = ih L W l k.m k.near k.near_from in
      let b = count_link L W k.near in
      let far = subst (λ w. count W k.far + spare w ≤ 2 * length k.far.1 + 1) er (closed_few W R (rights s W g.c) r k.far k.far_from) in
      subst (λ (z : Piece). count L z + spare wr ≤ 2 * length z.1) (sym k.is)
      (glued L W g.c (link_end W k.near) k.far (spare wr) (sound s f L W l k.m k.near k.near_from).valid.len (omega arith) far)

  edge_few : (l r : List ℕ) (x : Piece) → x ∈ edge_pieces l r → x ≡ ([], [])
  edge_few [] [] x m = in_one m (λ z. z ≡ ([], [])) refl
  edge_few [] (y ∷ r) x m = absurd (in_none m)
  edge_few (y ∷ l) r x m = absurd (in_none m)

  -- A region is empty, or has one link fewer where nothing waits on the right.
  region_few : (L R : ℕ) (l r : List ℕ) (x : Piece) → x ∈ pieces s (suc f) L R l r → (x ≡ ([], [])) ⊎ (count L x + spare (back r) ≤ 2 * length x.1)
  region_few L R l r x m =
      cond_both (eqb R (suc L)) (edge_pieces l r) (inner_pieces s (pieces s f) L R r (back l) (back r))
      (λ xs. x ∈ xs → (x ≡ ([], [])) ⊎ (count L x + spare (back r) ≤ 2 * length x.1))
      (λ _ k. inl (edge_few l r x k)) (λ _ k. inr (inner_few L R r (back l) (back r) refl x k)) m

all_few : (s : Sentence) (f : ℕ) → Few s f
all_few s zero L R l r x m = absurd (in_none m)
all_few s (suc f) L R l r x m = elim (region_few s f (all_few s f) L R l r x m) [
  | inl e ↦ subst (λ (z : Piece). count L z ≤ 2 * length z.1) (sym e) (omega arith)
  | inr h ↦ omega arith
]

pub few_links : (s : Sentence) → 0 < size s → (x : Linkage) → x ∈ linkages s → length (links x) ≤ 2 * size s - 3
few_links s some_word x m =
    let h = of_opening s (pieces s (size s)) 0 (size s) x (partial_made s some_word x m) in
    let len : 1 + length h.rest.1 ≡ size s = (sound s (size s) 0 (size s) (rights s 0 h.c) [] h.rest h.from).valid.len in
    subst (λ z. length (links z) ≤ 2 * size s - 3) (sym h.is) (go (size s) h.c h.rest h.from len)
  where
    go : (n : ℕ) (c : Choice) (y : Piece) → y ∈ pieces s n 0 (size s) (rights s 0 c) [] → 1 + length y.1 ≡ n → count 0 y ≤ 2 * n - 3
    go zero c y i e = absurd (in_none i)
    go (suc f) c y i e = elim (region_few s f (all_few s f) 0 (size s) (rights s 0 c) [] y i) [
      | inl q ↦ subst (λ (z : Piece). count 0 z ≤ 2 * suc f - 3) (sym q) (omega arith)
      | inr q ↦ omega arith
    ]
