-- The inside recursion gives, for a whole sentence, the sum over all its partial linkages; and so does every table that meets
-- the region equations.
use Rattle.std.proofs.Common.{◌≡◌, ℕ, zero, suc, ◌+◌, ◌<◌, ◌≤◌, Bool, true, false, cond, eqb, ◌⊎◌, List, [], ◌∷◌, length, sym, refl, ap, ◌∙◌, subst, ap₂, inl, inr, arith}
use Rattle.std.proofs.lemmas.List.{nil_from_length}
use mathlib.Core.Option.{none, some}
use Rattle.std.proofs.lemmas.Bool.{eqb-false}
use Rattle.tally.specs.Semiring.{Semiring, Laws}
use Rattle.linkage.specs.Inside.{Solves, Table, Waiting, edge, factor, inner, inside, linked, region, splits, to_left, top, when, whole}
use Rattle.linkage.specs.Lists.{◌∈◌, here, there, back, between, empty}
use Rattle.linkage.specs.Linkages.{Linkage, Partial, linkages}
use Rattle.linkage.specs.Parts.{bare_words, heads, null_links}
use Rattle.linkage.specs.Sentences.{Choice, Sentence, choices, lefts, rights, size}
use Rattle.linkage.specs.Sums.{power, total, weight}
use Rattle.linkage.proofs.Members.{cons_of, in_both, in_concatMap, in_cons, in_left, in_map, in_one}
use Rattle.linkage.proofs.Ranges.{of_between}
use Rattle.linkage.proofs.Fits.{Fits, Need, Side, into_none}
use Rattle.linkage.proofs.Rows.{Rows, needs, outs_span, rising_in, rising_up, rows_below, rows_up}
use Rattle.linkage.proofs.Regions.{Open, Piece, none_to, put, sides, wants}
use Rattle.linkage.proofs.Pieces.{in_keep, of_opening, opening_pieces, opening_with, pieces}
use Rattle.linkage.proofs.Sound.{sound}
use Rattle.linkage.proofs.Once.{once, opening_once}
use Rattle.linkage.proofs.Complete.{complete}
use Rattle.linkage.proofs.PieceSums.{pieces_sum, sum_opening}
use Rattle.linkage.proofs.Joins.{loose, loose_whole}
use Rattle.linkage.proofs.Weights.{factor_out, piece_splits, weigh_piece, wires, wires_strictly}
use Rattle.linkage.proofs.Tested.{fits_rules, rules_fits}
use Rattle.linkage.proofs.Listed.{chosen_of, listed, listed_once, partial_from, rows_of}
use Rattle.linkage.proofs.Sums.{single_both, sum_cong, sum_same}

-- Needs that ask for nothing, of positions that nothing links to, may come and go.
Idle : List Side → Need → Type 0
Idle O b = (b.1 ≡ []) × ((a : Side) → a ∈ O → b.0 ∈ a.to → ⊥)

fits_idle : (matches : ℕ → ℕ → Bool) (O : List Side) (I J : List Need) → Fits matches O I → ((b : Need) → b ∈ J → (b ∈ I) ⊎ Idle O b) → Fits matches O J
unfolding Idle
fits_idle matches O I J f h = record {
  full_out = f.full_out;
  full_in = λ b m. elim (h b m) [ inl k ↦ f.full_in b k | inr k ↦ ap length (into_none O b.0 k.1) ∙ sym (ap length k.0) ];
  apart = f.apart;
  agree = λ a b p q u. elim (h b q) [ inl k ↦ f.agree a b p k u | inr k ↦ absurd (k.1 a p u) ];
}

module _ (s : Sentence) (some_word : 0 < size s) where
  abbrev n : ℕ
  n = size s

  -- A linkage is a piece between its first position and the end, with the choice at the first.
  module _ (c : Choice) (y : Piece) where
    abbrev O : List Side
    O = sides s 0 (rights s 0 c) y

    idle_first : (k : ℕ) → Rows k 0 (put c y) → lefts s 0 c ≡ [] → Idle O (0, lefts s 0 c)
    unfolding Idle
    idle_first k rows e = (e, λ a m i. let h = outs_span s k 0 (put c y) rows a m in let q = rising_in a.pos k h.2 i in omega arith)

    open_partial : c ∈ choices s 0 → lefts s 0 c ≡ [] → Open s 0 n (rights s 0 c) [] y → Partial s (put c y)
    unfolding Idle
    open_partial i e o =
        let v = o.valid in
        let len : 1 + length y.1 ≡ n = v.len in
        let below : (a : Side) → a ∈ O → (j : ℕ) → j ∈ a.to → j < n = λ a m j k.
        let h = outs_span s (suc n) 0 (put c y) (v.row, v.rows) a m in
        let q = rising_in a.pos (suc n) h.2 k in
        let not-n : j ≡ n → ⊥ = λ e. none_to s 0 n (rights s 0 c) y v a m (subst (λ z. z ∈ a.to) e k) in
        omega arith in
        let rows : Rows n 0 (put c y) = rows_below s (suc n) n 0 (put c y) below (v.row, v.rows) in
        let fit : Fits s.matches O (needs s 0 (put c y)) =
        fits_idle s.matches O (wants s 0 n [] y) (needs s 0 (put c y)) v.fits
        (λ b m. in_cons m (λ (b : Need). (b ∈ wants s 0 n [] y) ⊎ Idle O b) (inr (idle_first n rows e)) (λ b m. inl (in_left ((n, []) ∷ []) m))) in
        partial_from s (put c y) (omega arith) (i, v.chosen) rows
        (fits_rules s (put c y) (omega arith) rows fit)

    partial_open : Partial s (put c y) → (lefts s 0 c ≡ []) × Open s 0 n (rights s 0 c) [] y
    unfolding Idle
    partial_open p =
        let rows = rows_of s (put c y) p in
        let f = rules_fits s (put c y) p.places p.rules in
        let e : lefts s 0 c ≡ [] = nil_from_length (lefts s 0 c) (sym (f.full_in (0, lefts s 0 c) (here refl)) ∙ ap length (into_none O 0 (λ a m i.
        let h = outs_span s n 0 (put c y) rows a m in let q = rising_in a.pos n h.2 i in omega arith))) in
        let len : suc (length y.1) ≡ n = p.places in
        let fit : Fits s.matches O (wants s 0 n [] y) =
        fits_idle s.matches O (needs s 0 (put c y)) (wants s 0 n [] y) f
        (λ b m. in_both (needs s 1 y.1) m (λ (b : Need). (b ∈ needs s 0 (put c y)) ⊎ Idle O b) (λ b m. inl (there m))
        (λ b m. in_one m (λ (b : Need). (b ∈ needs s 0 (put c y)) ⊎ Idle O b)
        (inr (refl, λ a m i. let h = outs_span s n 0 (put c y) rows a m in let q = rising_in a.pos n h.2 i in omega arith)))) in (
          e,
          record {
            valid = record {
              len = omega arith;
              row = rising_up 0 n (suc n) y.0 (omega arith) rows.0;
              rows = rows_up n (suc n) 1 y.1 (omega arith) rows.1;
              chosen = (chosen_of s (put c y) p).1;
              fits = fit;
            };
            free = λ k. let q = rising_in 0 n rows.0 k in omega arith;
          },
        )

  abbrev made : List Linkage
  made = opening_pieces s (pieces s n) 0 n

  made_partial : (x : Linkage) → x ∈ made → x ∈ linkages s
  made_partial x m =
      let h = of_opening s (pieces s n) 0 n x m in
      subst (λ z. z ∈ linkages s) (sym h.is)
      ((listed s (put h.c h.rest)).1 (open_partial h.c h.rest h.option h.none_left (sound s n 0 n (rights s 0 h.c) [] h.rest h.from)))

  pub partial_made : (x : Linkage) → x ∈ linkages s → x ∈ made
  partial_made x m =
      let p = (listed s x).0 m in
      let k = cons_of x (λ e. let len = p.places in omega arith) in
      let c = k.0.choice in
      let y : Piece = (k.0.after, k.1) in
      let q : Partial s (put c y) = subst (Partial s) k.2 p in
      let o = partial_open c y q in
      subst (λ z. z ∈ made) (sym k.2)
      (in_concatMap (opening_with s (pieces s n) 0 n) (chosen_of s (put c y) q).0
      (in_keep (ap empty o.0) (in_map (put c) (complete s n 0 n (rights s 0 c) [] y (omega arith) o.1))))

  module _ {V : Type 0} (t : Semiring V) (laws : Laws t) where
    weight_put : (c : Choice) (y : Piece) → Open s 0 n (rights s 0 c) [] y → weight t (put c y) ≡ t.both (factor t c) (weigh_piece t laws 0 n y)
    weight_put c y o =
        let len : 1 + length y.1 ≡ n = o.valid.len in
        let e : suc (length y.1) ≡ n = omega arith in
        let p : length (heads (wires 0 y) (suc (length y.1))) ≡ suc (loose (wires 0 y) 0 n) =
        ap (λ k. length (heads (wires 0 y) k)) e ∙ loose_whole (wires 0 y) n some_word (wires_strictly s 0 n (rights s 0 c) y o.valid) in
        let q : null_links (put c y) ≡ loose (wires 0 y) 0 n = omega arith in
        ap (λ k. t.both (power t t.gap k) (power t t.bare (bare_words (put c y)))) q ∙ factor_out t laws c y (power t t.gap (loose (wires 0 y) 0 n))

    pub whole_total : whole t s ≡ total t s
    whole_total =
        sym (single_both t laws (whole t s))
        ∙ sym (sum_opening t laws s n 0 n t.single (weight t) (weigh_piece t laws 0 n)
        (λ c y m. weight_put c y (sound s n 0 n (rights s 0 c) [] y m) ∙ sym (single_both t laws (t.both (factor t c) (weigh_piece t laws 0 n y))))
        (λ c. pieces_sum t laws s (weigh_piece t laws) (piece_splits t laws s) n 0 n (rights s 0 c) []))
        ∙ sum_same t laws (weight t) made (linkages s) (opening_once s n (once s n) 0 n) (listed_once s) made_partial partial_made

-- Tables that agree on smaller regions give the same for a region.
module _ {V : Type 0} (t : Semiring V) (laws : Laws t) (s : Sentence) where
  module _ (u v : Table V) (L R : ℕ) (h : suc L < R)
      (same : (A B : ℕ) (l r : List ℕ) → L ≤ A → A < B → B ≤ R → B + L < R + A → u A B l r ≡ v A B l r) where
    linked_same : (W : ℕ) (p r : Waiting) → L < W → W < R → linked t s u W R p r ≡ linked t s v W R p r
    linked_same W none r a b = refl
    linked_same W (some (p, c)) none a b = refl
    linked_same W (some (p, c)) (some (r, d)) a b = ap (when t (s.matches c d)) (same W R p r (omega arith) b (omega arith) (omega arith))

    left_same : (W : ℕ) (l : List ℕ) (e : ℕ) (p r : List ℕ) (m : Waiting) → L < W → W < R → to_left t s u L W R l e p r m ≡ to_left t s v L W R l e p r m
    left_same W l e p r none a b = refl
    left_same W l e p r (some (m, d)) a b =
        ap (when t (s.matches e d)) (ap₂ t.both (same L W l m (omega arith) a (omega arith) (omega arith))
        (ap₂ t.either (same W R p r (omega arith) b (omega arith) (omega arith)) (linked_same W (back p) (back r) a b)))

    splits_same : (f g : ℕ → Choice → V) → ((W : ℕ) (c : Choice) → L < W → W < R → f W c ≡ g W c) → splits t s L R f ≡ splits t s L R g
    splits_same f g e =
        sum_cong t laws (between L R) (λ W m. let b = of_between L R W m in sum_cong t laws (choices s W) (λ c _. e W c b.0 b.1))

    inner_same : (r : List ℕ) (wl wr : Waiting) → inner t s u L R r wl wr ≡ inner t s v L R r wl wr
    inner_same r none none = ap (t.both t.gap) (sum_cong t laws (choices s (suc L)) (λ c _.
        ap (λ z. when t (empty (lefts s (suc L) c)) (t.both (factor t c) z)) (same (suc L) R (rights s (suc L) c) [] (omega arith) h (omega arith) (omega arith))))
    inner_same r none (some q) = splits_same _ _ (λ W c a b.
        ap₂ t.both (same L W [] (lefts s W c) (omega arith) a (omega arith) (omega arith)) (linked_same W (back (rights s W c)) (some q) a b))
    inner_same r (some (l, e)) wr = splits_same _ _ (λ W c a b. left_same W l e (rights s W c) r (back (lefts s W c)) a b)

  region_same : (u v : Table V) (L R : ℕ) (l r : List ℕ) → L < R
      → ((A B : ℕ) (l r : List ℕ) → L ≤ A → A < B → B ≤ R → B + L < R + A → u A B l r ≡ v A B l r) → region t s u L R l r ≡ region t s v L R l r
  region_same u v L R l r h same = go (eqb R (suc L)) refl
    where
      go : (b : Bool) → eqb R (suc L) ≡ b → cond b (edge t l r) (inner t s u L R r (back l) (back r)) ≡ cond b (edge t l r) (inner t s v L R r (back l) (back r))
      go true e = refl
      go false e = let d = eqb-false R (suc L) e in inner_same u v L R (omega arith) same r (back l) (back r)

  -- A table that meets the equations has the inside values, whatever the bound on the positions.
  pub solved : (v : Table V) → Solves t s v → (f L R : ℕ) (l r : List ℕ) → L < R → R ≤ size s → R ≤ L + f → v L R l r ≡ inside t s f L R l r
  solved v solves zero L R l r a b c = absurd (omega arith)
  solved v solves (suc f) L R l r a b c =
      solves L R l r a b ∙ region_same v (inside t s f) L R l r a (λ A B l r p q x y. solved v solves f A B l r q (omega arith) (omega arith))

  pub table_total : 0 < size s → (v : Table V) → Solves t s v → top t s v ≡ total t s
  table_total h v solves =
      sum_cong t laws (choices s 0) (λ c _.
      ap (λ z. when t (empty (lefts s 0 c)) (t.both (factor t c) z)) (solved v solves (size s) 0 (size s) (rights s 0 c) [] h (omega arith) (omega arith)))
      ∙ whole_total s h t laws
