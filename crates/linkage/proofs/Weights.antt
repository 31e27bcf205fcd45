-- The weight of a piece splits as pieces do: a gap for each part between its ends that holds together with neither, and a bare
-- for each bare word.
use Rattle.std.proofs.Common.{◌≡◌, ℕ, zero, suc, ◌+◌, ◌-◌, ◌<◌, ◌≤◌, false, cond, ◌⊎◌, List, [], ◌∷◌, ◌++◌, map, length, get_or, sym, refl, ap, ◌∙◌, subst, ap₂, inl, inr, append_assoc, add-zero, arith, length-append}
use Rattle.tally.specs.Semiring.{Semiring, Laws}
use Rattle.linkage.specs.Inside.{factor}
use Rattle.linkage.specs.Lists.{◌∈◌, here, there, filter, range}
use Rattle.linkage.specs.Linkages.{Linkage, Place, Rising, links_from, unlinked}
use Rattle.linkage.specs.Parts.{bare_words, is_bare, leads}
use Rattle.linkage.specs.Sentences.{Choice, Sentence, bare, rights, takes}
use Rattle.linkage.specs.Sums.{power}
use Rattle.linkage.proofs.Members.{filter_++, in_both, in_left, in_map, in_none, in_one, in_right, in_split, of_map}
use Rattle.linkage.proofs.Fits.{side}
use Rattle.linkage.proofs.Rows.{Rows, behind, each_at, in_along, rising_in}
use Rattle.linkage.proofs.Regions.{Piece, Valid, glue, link_end, none_to, put}
use Rattle.linkage.proofs.PieceSums.{Splits}
use Rattle.linkage.proofs.Joins.{Same, Strictly, Wire, Within, loose, loose_gap, loose_glue, loose_same, same_wire}
use Rattle.linkage.proofs.Sums.{both_swap, power_+, single_both}

-- Links, by the places that they start from.
pub links_++ : (i : ℕ) (ps qs : Linkage) → links_from i (ps ++ qs) ≡ links_from i ps ++ links_from (i + length ps) qs
links_++ i [] qs = ap (λ k. links_from k qs) (sym (add-zero i))
links_++ i (p ∷ ps) qs =
    ap (λ l. map (λ j. (i, j)) p.after ++ l) (links_++ (suc i) ps qs ∙ ap (λ k. links_from (suc i) ps ++ links_from k qs) (behind i (length ps)))
    ∙ sym (append_assoc (map (λ j. (i, j)) p.after) (links_from (suc i) ps) (links_from (i + suc (length ps)) qs))

pub in_links : (i k : ℕ) (ps : Linkage) (j : ℕ) → k < length ps → j ∈ (get_or ps k unlinked).after → (i + k, j) ∈ links_from i ps
in_links i k [] j h m = absurd (omega arith)
in_links i zero (p ∷ ps) j h m =
    in_left (links_from (suc i) ps) (subst (λ n. ◌∈◌ {A = Wire} (n, j) (map (λ j. (i, j)) p.after)) (sym (add-zero i)) (in_map (λ j. (i, j)) m))
in_links i (suc k) (p ∷ ps) j h m =
    in_right (map (λ j. (i, j)) p.after) (subst (λ n. ◌∈◌ {A = Wire} (n, j) (links_from (suc i) ps)) (behind i k) (in_links (suc i) k ps j (omega arith) m))

pub record Linking (i : ℕ) (ps : Linkage) (e : Wire) : Type 0 where
  pub k : ℕ
  pub there_is : k < length ps
  pub from : e.0 ≡ i + k
  pub to : e.1 ∈ (get_or ps k unlinked).after

pub of_links : (i : ℕ) (ps : Linkage) (e : Wire) → e ∈ links_from i ps → Linking i ps e
of_links i [] e m = absurd (in_none m)
of_links i (p ∷ ps) e m = go (in_split (map (λ j. (i, j)) p.after) m) (of_links (suc i) ps e)
  where
    go : (e ∈ map (λ j. (i, j)) p.after) ⊎ (e ∈ links_from (suc i) ps) → (e ∈ links_from (suc i) ps → Linking (suc i) ps e) → Linking i (p ∷ ps) e
    go (inl h) f =
        let r = of_map (λ j. (i, j)) p.after h in
        record {
          k = 0;
          there_is = omega arith;
          from = ap (λ (z : Wire). z.0) r.2 ∙ sym (add-zero i);
          to = subst (λ (z : Wire). z.1 ∈ p.after) (sym r.2) r.1;
        }
    go (inr h) f =
        let r = f h in
        let l = r.there_is in
        record { k = suc r.k; there_is = omega arith; from = r.from ∙ behind i r.k; to = r.to }

-- The links of a piece. The choice at L does not matter.
abbrev pub wires : ℕ → Piece → List Wire
wires L x = links_from L (put bare x)

-- Where a link of a piece goes: from L on, upward, to R at most.
wire_span : (n L : ℕ) (x : Piece) → Rows n L (put bare x) → (e : Wire) → e ∈ wires L x → (L ≤ e.0) × (e.0 < e.1) × (e.1 < n)
wire_span n L x rows e m =
    let k = of_links L (put bare x) e m in
    let from = k.from in
    let r = rising_in (L + k.k) n (each_at (λ i p. Rising i n p.after) L k.k (put bare x) rows k.there_is) k.to in
    (omega arith, omega arith, r.1)

wires_within : (s : Sentence) (L R : ℕ) (l r : List ℕ) (x : Piece) → Valid s L R l r x → Within (wires L x) L R
wires_within s L R l r x v e m = let h = wire_span (suc R) L x (v.row, v.rows) e m in omega arith

-- Where R asks for nothing, no link goes to R.
pub wires_strictly : (s : Sentence) (L R : ℕ) (l : List ℕ) (x : Piece) → Valid s L R l [] x → Strictly (wires L x) L R
wires_strictly s L R l x v e m =
    let h = wire_span (suc R) L x (v.row, v.rows) e m in
    let k = of_links L (put bare x) e m in
    let not_R : e.1 ≡ R → ⊥ = λ q. no_side k.k k.there_is (subst (λ z. z ∈ (get_or (put bare x) k.k unlinked).after) q k.to) in
    omega arith
  where
    no_side : (k : ℕ) → k < suc (length x.1) → R ∈ (get_or (put bare x) k unlinked).after → ⊥
    no_side zero lt i = none_to s L R l x v (side L x.0 l) (here refl) i
    no_side (suc k) lt i =
        let p = get_or x.1 k unlinked in
        none_to s L R l x v (side (suc L + k) p.after (rights s (suc L + k) p.choice)) (there (in_along _ (suc L) k x.1 (omega arith))) i

pub wires_glue : (L W : ℕ) (c : Choice) (x y : Piece) → suc L + length x.1 ≡ W → wires L (glue c x y) ≡ wires L x ++ wires W y
wires_glue L W c x y lx =
    ap (λ l. map (λ j. (L, j)) x.0 ++ l) (links_++ (suc L) x.1 (put c y) ∙ ap (λ k. links_from (suc L) x.1 ++ links_from k (put c y)) lx)
    ∙ sym (append_assoc (map (λ j. (L, j)) x.0) (links_from (suc L) x.1) (wires W y))

row_wire : (L : ℕ) (x : Piece) (j : ℕ) → j ∈ x.0 → (L, j) ∈ wires L x
row_wire L x j m = in_left (links_from (suc L) x.1) (in_map (λ j. (L, j)) m)

-- A link between the ends joins nothing that does not count as joined.
loose_link : (L R : ℕ) (x : Piece) → loose (wires L (link_end R x)) L R ≡ loose (wires L x) L R
loose_link L R x = loose_same (wires L (link_end R x)) (wires L x) L R
    (λ e m. in_both (map (λ j. (L, j)) (x.0 ++ (R ∷ []))) m (λ e. e ∈ ((L, R) ∷ wires L x))
    (λ e m. let h = of_map (λ j. (L, j)) (x.0 ++ (R ∷ [])) m in
    subst (λ z. z ∈ ((L, R) ∷ wires L x)) (sym h.2) (elim (in_split x.0 h.1) [
      | inl k ↦ there (row_wire L x h.0 k)
      | inr k ↦ here (in_one k (λ j. ◌≡◌ {A = Wire} (L, j) (L, R)) refl)
    ]))
    (λ e m. there (in_right (map (λ j. (L, j)) x.0) m)))
    (λ e m. there (in_both (map (λ j. (L, j)) x.0) m (λ e. e ∈ wires L (link_end R x))
    (λ e m. let h = of_map (λ j. (L, j)) x.0 m in
    subst (λ z. z ∈ wires L (link_end R x)) (sym h.2) (row_wire L (link_end R x) h.0 (in_left (R ∷ []) h.1)))
    (λ e m. in_right (map (λ j. (L, j)) (x.0 ++ (R ∷ []))) m)))

bare_++ : (ps qs : Linkage) → bare_words (ps ++ qs) ≡ bare_words ps + bare_words qs
bare_++ ps qs =
    let f = λ (p : Place). is_bare p.choice in
    ap length (filter_++ f ps qs) ∙ length-append (filter f ps) (filter f qs)

module _ {V : Type 0} (t : Semiring V) (laws : Laws t) where
  abbrev pub weigh_piece : (L R : ℕ) → Piece → V
  weigh_piece L R x = t.both (power t t.gap (loose (wires L x) L R)) (power t t.bare (bare_words x.1))

  -- The factor of a choice comes out of the weight.
  pub factor_out : (c : Choice) (y : Piece) (g : V)
      → t.both g (power t t.bare (bare_words (put c y))) ≡ t.both (factor t c) (t.both g (power t t.bare (bare_words y.1)))
  factor_out bare y g =
      let b = power t t.bare (bare_words y.1) in
      sym (laws.both_assoc g t.bare b) ∙ ap (λ z. t.both z b) (laws.both_comm g t.bare) ∙ laws.both_assoc t.bare g b
  factor_out (takes k) y g = sym (single_both t laws (t.both g (power t t.bare (bare_words y.1))))

  pub piece_splits : (s : Sentence) → Splits t s weigh_piece
  piece_splits s = record {
    at_edge = λ L.
        let e : suc L - suc L ≡ 0 = omega arith in
        ap (λ n. t.both (power t t.gap (length (filter (leads ((L, suc L) ∷ []) L) (range (suc L) n)))) t.single) e ∙ laws.both_single t.single;
    at_gap = λ L R c y o.
        let len : suc (suc L) + length y.1 ≡ R = o.valid.len in
        let loosened = loose (wires (suc L) y) (suc L) R in
        let g : loose (wires (suc L) y) L R ≡ suc loosened = loose_gap (wires (suc L) y) L R (omega arith) (wires_strictly s (suc L) R (rights s (suc L) c) y o.valid) in
        ap (λ n. t.both (power t t.gap n) (power t t.bare (bare_words (put c y)))) g
        ∙ laws.both_assoc t.gap (power t t.gap loosened) (power t t.bare (bare_words (put c y)))
        ∙ ap (t.both t.gap) (factor_out c y (power t t.gap loosened));
    at_link = λ L R x. ap (λ n. t.both (power t t.gap n) (power t t.bare (bare_words x.1))) (loose_link L R x);
    at_glue = λ L W R l m p r c x y v w nb linked.
        let LW : L < W = (let e = v.len in omega arith) in
        let WR : W < R = (let e = w.len in omega arith) in
        let near = loose (wires L x) L W in
        let far = loose (wires W y) W R in
        let g : loose (wires L (glue c x y)) L R ≡ near + far =
        ap (λ es. loose es L R) (wires_glue L W c x y v.len)
        ∙ loose_glue (wires L x) (wires W y) L W R LW WR (wires_within s L W l m x v) (wires_within s W R p r y w) (joined L W R x y linked) in
        let b : bare_words (x.1 ++ put c y) ≡ bare_words x.1 + bare_words y.1 =
        bare_++ x.1 (put c y) ∙ ap (λ n. bare_words x.1 + n) (not_counted c y nb) in
        ap₂ (λ m n. t.both (power t t.gap m) (power t t.bare n)) g b
        ∙ ap₂ t.both (power_+ t laws t.gap near far) (power_+ t laws t.bare (bare_words x.1) (bare_words y.1))
        ∙ both_swap t laws (power t t.gap near) (power t t.gap far) (power t t.bare (bare_words x.1)) (power t t.bare (bare_words y.1));
  }
    where
      not_counted : (c : Choice) (y : Piece) → is_bare c ≡ false → bare_words (put c y) ≡ bare_words y.1
      not_counted c y e = ap (λ b. length (cond b (record { choice = c; after = y.0 } ∷ filter (λ (p : Place). is_bare p.choice) y.1) (filter (λ (p : Place). is_bare p.choice) y.1))) e

      joined : (L W R : ℕ) (x y : Piece) → (W ∈ x.0) ⊎ (R ∈ y.0) → Same ((L, R) ∷ (wires L x ++ wires W y)) L W
      joined L W R x y (inl m) = same_wire {es = (L, R) ∷ (wires L x ++ wires W y)} (there (in_left (wires W y) (row_wire L x W m)))
      joined L W R x y (inr m) =
          let es = (L, R) ∷ (wires L x ++ wires W y) in
          same_wire {es = es} (here refl) ∙ sym (same_wire {es = es} (there (in_right (wires L x) (row_wire W y R m))))
