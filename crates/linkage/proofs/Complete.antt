-- Each valid piece whose ends are not linked is made.
use Rattle.std.proofs.Common.{◌≡◌, ℕ, zero, suc, ◌+◌, ◌-◌, ◌<◌, ◌≤◌, Bool, true, false, eqb, ◌⊎◌, List, [], ◌∷◌, ◌++◌, map, length, get_or, take, drop, sym, refl, ap, ◌∙◌, subst, subst₂, inl, inr, arith, length-append}
use Rattle.std.proofs.Math.Seq.{split_at}
use Rattle.std.proofs.lemmas.List.{length-take-le, nil_from_length}
use mathlib.Core.Option.{none, some}
use mathlib.Core.Path.{subst₃}
use Rattle.std.proofs.lemmas.Bool.{both_ways, cases_lt, cond_both, eqb-false, eqb-true}
use Rattle.linkage.specs.Inside.{Waiting}
use Rattle.linkage.specs.Lists.{◌∈◌, here, there, back, empty, has}
use Rattle.linkage.specs.Linkages.{Linkage, Place, Rising, unlinked}
use Rattle.linkage.specs.Sentences.{Choice, Sentence, choices, lefts, rights}
use Rattle.linkage.proofs.Members.{cons_of, has_in, in_concatMap, in_cons, in_has, in_left, in_map, in_none, in_one, in_right, in_split}
use Rattle.linkage.proofs.Ranges.{back_none, back_snoc, back_some, snoc_cases}
use Rattle.linkage.proofs.Fits.{Side, into_none, side}
use Rattle.linkage.proofs.Rows.{Rows, along_++, each_left, needs, outs, outs_span, rising_front, rising_in, rising_last}
use Rattle.linkage.proofs.Regions.{Open, Piece, Valid, glue, link_end, none_to, put, sides, unglue, unlink}
use Rattle.linkage.proofs.Pieces.{closed_pieces, edge_pieces, in_gather, in_keep, in_pairs, inner_pieces, left_at, left_pieces, linked_pieces, opening_with, pieces, right_at}
use Rattle.linkage.proofs.Once.{pair_eq}

abbrev pub Complete : Sentence → ℕ → Type 0
Complete s f = (L R : ℕ) (l r : List ℕ) (x : Piece) → R ≤ L + f → Open s L R l r x → x ∈ pieces s f L R l r

-- Nothing of some places links to R; else there is a first place that does.
abbrev Free : Sentence → (R i : ℕ) → Linkage → Type 0
Free s R i ps = (a : Side) → a ∈ outs s i ps → R ∈ a.to → ⊥

record First (s : Sentence) (R i : ℕ) (ps : Linkage) : Type 0 where
  us : Linkage
  p : Place
  vs : Linkage
  is : ps ≡ us ++ (p ∷ vs)
  links_to : R ∈ p.after
  free : Free s R i us

first_or_free : (s : Sentence) (R i : ℕ) (ps : Linkage) → First s R i ps ⊎ Free s R i ps
first_or_free s R i [] = inr (λ a m k. in_none m)
first_or_free s R i (p ∷ ps) = go (has R p.after) refl (first_or_free s R (suc i) ps)
  where
    not_p : has R p.after ≡ false → R ∈ p.after → ⊥
    not_p e k = both_ways (has R p.after) e (in_has k)

    go : (b : Bool) → has R p.after ≡ b → First s R (suc i) ps ⊎ Free s R (suc i) ps → First s R i (p ∷ ps) ⊎ Free s R i (p ∷ ps)
    go true e k = inl (record { us = []; p = p; vs = ps; is = refl; links_to = has_in R p.after e; free = λ a m u. in_none m })
    go false e (inl h) = inl (record {
      us = p ∷ h.us;
      p = h.p;
      vs = h.vs;
      is = ap (λ l. p ∷ l) h.is;
      links_to = h.links_to;
      free = λ a m u. in_cons m (λ (a : Side). R ∈ a.to → ⊥) (not_p e) h.free u;
    })
    go false e (inr h) = inr (λ a m u. in_cons m (λ (a : Side). R ∈ a.to → ⊥) (not_p e) h u)

-- Where the first of some places stand.
front_pos : (s : Sentence) (n L : ℕ) (us vs : Linkage) → Rows n (suc L) (us ++ vs) → (a : Side) → a ∈ outs s (suc L) us
    → (L < a.pos) × (a.pos < suc L + length us)
front_pos s n L us vs rows a m = let sp = outs_span s n (suc L) us (each_left _ (suc L) us vs rows) a m in (sp.0, sp.1)

-- The right sides of a piece that is glued at W.
module _ (s : Sentence) (L W : ℕ) (c : Choice) (us : Linkage) (y : Piece) (len : suc L + length us ≡ W) where
  outs_glued : outs s (suc L) (us ++ put c y) ≡ outs s (suc L) us ++ outs s W (put c y)
  outs_glued = along_++ _ (suc L) us (put c y) ∙ ap (λ k. outs s (suc L) us ++ outs s k (put c y)) len

  side_at : side W y.0 (rights s W c) ∈ outs s (suc L) (us ++ put c y)
  side_at = subst (λ o. side W y.0 (rights s W c) ∈ o) (sym outs_glued) (in_right (outs s (suc L) us) (here refl))

  side_left : (a : Side) → a ∈ outs s (suc L) us → a ∈ outs s (suc L) (us ++ put c y)
  side_left a m = subst (λ o. a ∈ o) (sym outs_glued) (in_left (outs s W (put c y)) m)

module _ (s : Sentence) (f : ℕ) (ih : Complete s f) where
  linked_complete : (W R : ℕ) (p r : List ℕ) (y : Piece) → R ≤ W + f → Valid s W R p r (link_end R y)
      → link_end R y ∈ linked_pieces s (pieces s f) W R (back p) (back r)
  linked_complete W R p r y h v =
      let u = unlink s W R y v.len v.rows p r v in
      let bp : back p ≡ some (u.l', u.c) = ap back u.left_is ∙ back_snoc u.l' u.c in
      let br : back r ≡ some (u.r', u.e) = ap back u.right_is ∙ back_snoc u.r' u.e in
      subst₂ (λ a b. link_end R y ∈ linked_pieces s (pieces s f) W R a b) (sym bp) (sym br)
      (in_keep u.match (in_map (link_end R) (ih W R u.l' u.r' y h u.rest)))

  -- A row that has R has it last.
  ends_at : (W R : ℕ) (y : Piece) → Rising W (suc R) y.0 → R ∈ y.0 → (z : Piece) × (y ≡ link_end R z)
  ends_at W R y row m = let k = rising_last W R y.0 row m in ((k.0, y.1), ap (λ (z : List ℕ). (z, y.1)) k.1)

  closed_complete : (W R : ℕ) (p r : List ℕ) (y : Piece) → R ≤ W + f → Valid s W R p r y → y ∈ closed_pieces s (pieces s f) W R p r
  closed_complete W R p r y h v = go (has R y.0) refl
    where
      go : (b : Bool) → has R y.0 ≡ b → y ∈ closed_pieces s (pieces s f) W R p r
      go true e =
          let k = ends_at W R y v.row (has_in R y.0 e) in
          in_right (pieces s f W R p r) (subst (λ z. z ∈ linked_pieces s (pieces s f) W R (back p) (back r)) (sym k.1)
          (linked_complete W R p r k.0 h (subst (Valid s W R p r) k.1 v)))
      go false e =
          in_left (linked_pieces s (pieces s f) W R (back p) (back r))
          (ih W R p r y h (record { valid = v; free = λ m. both_ways (has R y.0) e (in_has m) }))

  -- Nothing waits.
  gap_complete : (L R : ℕ) (p : Place) (ps : Linkage) → R ≤ L + suc f → Open s L R [] [] ([], p ∷ ps)
      → ([], p ∷ ps) ∈ inner_pieces s (pieces s f) L R [] none none
  gap_complete L R p ps h o =
      let c = p.choice in
      let y : Piece = (p.after, ps) in
      let u = unglue s L (suc L) R [] [] c ([], []) y (omega arith) o.valid (λ j m. absurd (in_none m)) (λ a m j k. absurd (in_none m)) in
      let e : lefts s (suc L) c ≡ [] = nil_from_length (lefts s (suc L) c) (sym (u.0.fits.full_in (suc L, lefts s (suc L) c) (here refl))) in
      let w : Open s (suc L) R (rights s (suc L) c) [] y = record {
        valid = u.1;
        free = λ m. none_to s (suc L) R (rights s (suc L) c) y u.1 (side (suc L) p.after (rights s (suc L) c)) (here refl) m;
      } in
      in_map (λ qs. ([], qs)) (in_concatMap (opening_with s (pieces s f) (suc L) R) u.2
      (in_keep (ap empty e) (in_map (put c) (ih (suc L) R (rights s (suc L) c) [] y (omega arith) w))))

  -- L waits for nothing, and W is the first that links to R.
  right_complete : (L R : ℕ) (r : List ℕ) (q : List ℕ × ℕ) (us : Linkage) (p : Place) (vs : Linkage) → R ≤ L + suc f → back r ≡ some q
      → R ∈ p.after → Free s R (suc L) us → Open s L R [] r ([], us ++ (p ∷ vs)) → ([], us ++ (p ∷ vs)) ∈ inner_pieces s (pieces s f) L R r none (some q)
  right_complete L R r q us p vs h er hR fr o =
      let c = p.choice in
      let y : Piece = (p.after, vs) in
      let W = suc L + length us in
      let len : suc L + length (us ++ (p ∷ vs)) ≡ R = o.valid.len in
      let la : length (us ++ (p ∷ vs)) ≡ length us + suc (length vs) = length-append us (p ∷ vs) in
      let WR : W < R = omega arith in
      let below : (a : Side) → a ∈ outs s (suc L) us → (j : ℕ) → j ∈ a.to → j ≤ W = λ a m j k. elim (cases_lt W j) [
        | inl g ↦
            let i = side_left s L W c us y refl a m in
            let sp = outs_span s (suc R) (suc L) (us ++ (p ∷ vs)) o.valid.rows a i in
            let aW : a.pos < W = (front_pos s (suc R) L us (p ∷ vs) o.valid.rows a m).1 in
            let jR : (a.pos < j) × (j < suc R) = rising_in a.pos (suc R) sp.2 k in
            let nR : j ≡ R → ⊥ = λ e. fr a m (subst (λ z. z ∈ a.to) e k) in
            absurd (o.valid.fits.apart a (side W p.after (rights s W c)) (there i) (there (side_at s L W c us y refl)) j R k hR aW g (omega arith))
        | inr g ↦ g
      ] in
      let u = unglue s L W R [] r c ([], us) y refl o.valid (λ j m. absurd (in_none m)) below in
      let k = ends_at W R y u.1.row hR in
      let near : ([], us) ∈ pieces s f L W [] (lefts s W c) = ih L W [] (lefts s W c) ([], us) (omega arith) (record { valid = u.0; free = λ m. in_none m }) in
      let far : y ∈ linked_pieces s (pieces s f) W R (back (rights s W c)) (some q) =
      subst₂ (λ z b. z ∈ linked_pieces s (pieces s f) W R (back (rights s W c)) b) (sym k.1) er
      (linked_complete W R (rights s W c) r k.0 (omega arith) (subst (Valid s W R (rights s W c) r) k.1 u.1)) in
      in_gather s L R (right_at s (pieces s f) L R q) W c (glue c ([], us) y) (omega arith) WR u.2 (in_pairs (glue c) near far)

  left_in : (L W R : ℕ) (l : List ℕ) (e : ℕ) (l₀ : List ℕ) (e₀ : ℕ) (r : List ℕ) (c : Choice) (wr w : Waiting) (z : Piece)
      → ◌≡◌ {A = Waiting} (some (l, e)) (some (l₀, e₀)) → back (lefts s W c) ≡ w → L < W → W < R → c ∈ choices s W
      → z ∈ left_pieces s (pieces s f) L R l e r W c w → z ∈ inner_pieces s (pieces s f) L R r (some (l₀, e₀)) wr
  left_in L W R l e l₀ e₀ r c wr w z same bm LW WR i m =
      let pair_is : ◌≡◌ {A = List ℕ × ℕ} (l, e) (l₀, e₀) = cc in
      in_gather s L R (left_at s (pieces s f) L R l₀ e₀ r) W c z LW WR i
      (subst₂ (λ (a : List ℕ × ℕ) d. z ∈ left_pieces s (pieces s f) L R a.0 a.1 r W c d) pair_is (sym bm) m)

  -- W is the farthest that L links to.
  left_complete : (L W R : ℕ) (l r : List ℕ) (b : List ℕ × ℕ) (wr : Waiting) (row : List ℕ) (us : Linkage) (p : Place) (vs : Linkage)
      → R ≤ L + suc f → back l ≡ some b → suc L + length us ≡ W → Open s L R l r (row ++ (W ∷ []), us ++ (p ∷ vs))
      → (row ++ (W ∷ []), us ++ (p ∷ vs)) ∈ inner_pieces s (pieces s f) L R r (some b) wr
  left_complete L W R l r (l₀, e₀) wr row us p vs h el lu o =
      let c = p.choice in
      let y : Piece = (p.after, vs) in
      let x : Piece = (row, us) in
      let len : suc L + length (us ++ (p ∷ vs)) ≡ R = o.valid.len in
      let la : length (us ++ (p ∷ vs)) ≡ length us + suc (length vs) = length-append us (p ∷ vs) in
      let LW : L < W = omega arith in
      let WR : W < R = omega arith in
      let front = rising_front L (suc R) W row o.valid.row in
      let row_below : (j : ℕ) → j ∈ (row ++ (W ∷ [])) → j ≤ W = λ j m. elim (in_split row m) [
        | inl k ↦ (let q = rising_in L W front.0 k in omega arith)
        | inr k ↦ (let z : j ≡ W = in_one k (λ z. z ≡ W) refl in omega arith)
      ] in
      let below : (a : Side) → a ∈ outs s (suc L) us → (j : ℕ) → j ∈ a.to → j ≤ W = λ a m j k. elim (cases_lt W j) [
        | inl g ↦
            let sp = front_pos s (suc R) L us (p ∷ vs) o.valid.rows a m in
            let aW : a.pos < W = (let z = sp.1 in omega arith) in
            absurd (o.valid.fits.apart (side L (row ++ (W ∷ [])) l) a (here refl) (there (side_left s L W c us y lu a m)) W j (in_right row (here refl)) k sp.0 aW g)
        | inr g ↦ g
      ] in
      let u = unglue s L W R l r c (link_end W x) y lu o.valid row_below below in
      let n = unlink s L W x u.0.len u.0.rows l (lefts s W c) u.0 in
      let bl : back (n.l' ++ (n.c ∷ [])) ≡ some (l₀, e₀) = sym (ap back n.left_is) ∙ el in
      let bm : back (lefts s W c) ≡ some (n.r', n.e) = ap back n.right_is ∙ back_snoc n.r' n.e in
      let near : link_end W x ∈ map (link_end W) (pieces s f L W n.l' n.r') = in_map (link_end W) (ih L W n.l' n.r' x (omega arith) n.rest) in
      let far = closed_complete W R (rights s W c) r y (omega arith) u.1 in
      let made : glue c (link_end W x) y ∈ left_pieces s (pieces s f) L R n.l' n.c r W c (some (n.r', n.e)) = in_keep n.match (in_pairs (glue c) near far) in
      left_in L W R n.l' n.c l₀ e₀ r c wr (some (n.r', n.e)) (glue c (link_end W x) y) (sym (back_snoc n.l' n.c) ∙ bl) bm LW WR u.2 made

  inner_complete : (L R : ℕ) (l r : List ℕ) (wl wr : Waiting) (x : Piece) → R ≤ L + suc f → (R ≡ suc L → ⊥) → back l ≡ wl → back r ≡ wr
      → Open s L R l r x → x ∈ inner_pieces s (pieces s f) L R r wl wr
  inner_complete L R l r none none x h d el er o =
      let len : suc L + length x.1 ≡ R = o.valid.len in
      let z : length x.0 ≡ 0 = o.valid.fits.full_out (side L x.0 l) (here refl) ∙ ap length (back_none l el) in
      let k = cons_of x.1 (λ e. d (omega arith)) in
      let q : x ≡ ([], k.0 ∷ k.1) = pair_eq (nil_from_length x.0 z) k.2 in
      subst (λ y. y ∈ inner_pieces s (pieces s f) L R [] none none) (sym q)
      (gap_complete L R k.0 k.1 h (subst₃ (λ a b y. Open s L R a b y) (back_none l el) (back_none r er) q o))
  inner_complete L R l r none (some q) x h d el er o =
      let z : length x.0 ≡ 0 = o.valid.fits.full_out (side L x.0 l) (here refl) ∙ ap length (back_none l el) in
      go (first_or_free s R (suc L) x.1) (nil_from_length x.0 z)
    where
      go : First s R (suc L) x.1 ⊎ Free s R (suc L) x.1 → x.0 ≡ [] → x ∈ inner_pieces s (pieces s f) L R r none (some q)
      go (inl k) e =
          let g : x ≡ ([], k.us ++ (k.p ∷ k.vs)) = pair_eq e k.is in
          subst (λ y. y ∈ inner_pieces s (pieces s f) L R r none (some q)) (sym g)
          (right_complete L R r q k.us k.p k.vs h er k.links_to k.free (subst₂ (λ a y. Open s L R a r y) (back_none l el) g o))
      go (inr k) e =
          let none_in = into_none (sides s L l x) R (λ a m u. in_cons m (λ (a : Side). R ∈ a.to → ⊥) o.free k u) in
          let lr : length r ≡ 0 = sym (o.valid.fits.full_in (R, r) (in_right (needs s (suc L) x.1) (here refl))) ∙ ap length none_in in
          let len : length r ≡ length q.0 + 1 = ap length (back_some r q.0 q.1 er) ∙ length-append q.0 (q.1 ∷ []) in
          absurd (omega arith)
  inner_complete L R l r (some b) wr x h d el er o =
      let ll : length l ≡ length b.0 + 1 = ap length (back_some l b.0 b.1 el) ∙ length-append b.0 (b.1 ∷ []) in
      let lrow : length x.0 ≡ length l = o.valid.fits.full_out (side L x.0 l) (here refl) in
      go (snoc_cases x.0) (omega arith)
    where
      go : (x.0 ≡ []) ⊎ ((ys : List ℕ) × (y : ℕ) × (x.0 ≡ ys ++ (y ∷ []))) → (length x.0 ≡ 0 → ⊥) → x ∈ inner_pieces s (pieces s f) L R r (some b) wr
      go (inl e) n = absurd (n (ap length e))
      go (inr k) n =
          let W = k.1 in
          let front = rising_front L (suc R) W k.0 (subst (Rising L (suc R)) k.2 o.valid.row) in
          let LW : L < W = front.1 in
          let WR : W < suc R = front.2 in
          let WnR : W ≡ R → ⊥ = λ e. o.free (subst₂ (λ u v. u ∈ v) e (sym k.2) (in_right k.0 (here refl))) in
          let len : suc L + length x.1 ≡ R = o.valid.len in
          let m = W - suc L in
          let us = take m x.1 in
          let p = get_or x.1 m unlinked in
          let vs = drop (suc m) x.1 in
          let lu : suc L + length us ≡ W = omega (arith, length-take-le m x.1 (omega arith)) in
          let g : x ≡ (k.0 ++ (W ∷ []), us ++ (p ∷ vs)) = pair_eq k.2 (split_at x.1 m unlinked (omega arith)) in
          subst (λ y. y ∈ inner_pieces s (pieces s f) L R r (some b) wr) (sym g)
          (left_complete L W R l r b wr k.0 us p vs h el lu (subst (Open s L R l r) g o))

  edge_complete : (L R : ℕ) (l r : List ℕ) (x : Piece) → R ≡ suc L → Open s L R l r x → x ∈ edge_pieces l r
  edge_complete L R l r x e o =
      let len : suc L + length x.1 ≡ R = o.valid.len in
      let e₁ : x.1 ≡ [] = nil_from_length x.1 (omega arith) in
      let e₀ : x.0 ≡ [] = no_room x.0 o.valid.row o.free in
      let el : l ≡ [] = nil_from_length l (sym (o.valid.fits.full_out (side L x.0 l) (here refl)) ∙ ap length e₀) in
      let none_in = into_none (sides s L l x) R (λ a m. in_cons m (λ (a : Side). R ∈ a.to → ⊥) o.free (λ a m. absurd (in_none (subst (λ z. a ∈ outs s (suc L) z) e₁ m)))) in
      let er : r ≡ [] = nil_from_length r (sym (o.valid.fits.full_in (R, r) (in_right (needs s (suc L) x.1) (here refl))) ∙ ap length none_in) in
      subst₂ (λ a b. x ∈ edge_pieces a b) (sym el) (sym er) (here (pair_eq e₀ e₁))
    where
      no_room : (xs : List ℕ) → Rising L (suc R) xs → (R ∈ xs → ⊥) → xs ≡ []
      no_room [] a b = refl
      no_room (y ∷ xs) a b = let u = a.0 in let v = a.1 in let w : y ≡ R → ⊥ = λ q. b (here (sym q)) in absurd (omega arith)

pub complete : (s : Sentence) (f : ℕ) → Complete s f
complete s zero L R l r x h o = let len : suc L + length x.1 ≡ R = o.valid.len in absurd (omega arith)
complete s (suc f) L R l r x h o =
    cond_both (eqb R (suc L)) (edge_pieces l r) (inner_pieces s (pieces s f) L R r (back l) (back r)) (λ xs. x ∈ xs)
    (λ e. edge_complete s f (complete s f) L R l r x (eqb-true R (suc L) e) o)
    (λ e. inner_complete s f (complete s f) L R l r (back l) (back r) x h (eqb-false R (suc L) e) refl refl o)
