-- A piece of a linkage: what lies between two positions L and R, with the connectors of L and R that wait for it. Shown is how
-- valid pieces are glued at a position W between, how they come apart there, and what a link between L and R changes.
use Rattle.std.proofs.Common.{◌≡◌, ℕ, suc, ◌+◌, ◌<◌, ◌≤◌, true, List, [], ◌∷◌, ◌++◌, length, sym, refl, ap, ◌∙◌, subst, subst₂, append_assoc, arith, length-append}
use Rattle.std.proofs.lemmas.List.{nil_from_length}
use Rattle.linkage.specs.Lists.{◌∈◌, here}
use Rattle.linkage.specs.Linkages.{Linkage, Rising}
use Rattle.linkage.specs.Sentences.{Choice, Sentence, choices, lefts, rights}
use Rattle.linkage.proofs.Members.{in_both, in_cons, in_none, in_one, in_right}
use Rattle.linkage.proofs.Fits.{Fits, Need, Reach, Side, Span, ends, glue_fits, in_into, into, left_fits, link_fits, right_fits, side, unlink_fits}
use Rattle.linkage.proofs.Rows.{Chosen, Rows, along_++, each_++, each_left, each_right, needs, needs_span, outs, outs_span, rising_below, rising_front, rising_in, rising_snoc, rising_up, rows_below, rows_up}

-- The row of L, and the places behind it.
abbrev pub Piece : Type 0
Piece = List ℕ × Linkage

-- A piece with the choice of L is the places from L on.
abbrev pub put : Choice → Piece → Linkage
put c x = record { choice = c; after = x.0 } ∷ x.1

-- A link from L to R.
abbrev pub link_end : ℕ → Piece → Piece
link_end R x = (x.0 ++ (R ∷ []), x.1)

-- Two pieces that meet at a place with choice c.
abbrev pub glue : Choice → Piece → Piece → Piece
glue c x y = (x.0, x.1 ++ put c y)

-- The sides of a piece, and its needs, those of R the last.
abbrev pub sides : Sentence → ℕ → List ℕ → Piece → List Side
sides s L l x = side L x.0 l ∷ outs s (suc L) x.1

abbrev pub wants : Sentence → (L R : ℕ) → List ℕ → Piece → List Need
wants s L R r x = needs s (suc L) x.1 ++ ((R, r) ∷ [])

pub record Valid (s : Sentence) (L R : ℕ) (l r : List ℕ) (x : Piece) : Type 0 where
  pub len : suc L + length x.1 ≡ R
  pub row : Rising L (suc R) x.0
  pub rows : Rows (suc R) (suc L) x.1
  pub chosen : Chosen s (suc L) x.1
  pub fits : Fits s.matches (sides s L l x) (wants s L R r x)

-- A valid piece whose ends are not linked.
pub record Open (s : Sentence) (L R : ℕ) (l r : List ℕ) (x : Piece) : Type 0 where
  pub valid : Valid s L R l r x
  pub free : R ∈ x.0 → ⊥

-- Where R asks for nothing, nothing links to it.
pub none_to : (s : Sentence) (L R : ℕ) (l : List ℕ) (x : Piece) → Valid s L R l [] x → (a : Side) → a ∈ sides s L l x → R ∈ a.to → ⊥
none_to s L R l x v a m k =
    let e : length (into (sides s L l x) R) ≡ 0 = v.fits.full_in (R, []) (in_right (needs s (suc L) x.1) (here refl)) in
    in_none (subst (λ z. a.pos ∈ z) (nil_from_length (into (sides s L l x) R) e) (in_into m k))

-- The sides of a piece reach to R at most, and its needs are behind L.
sides_span : (s : Sentence) (L R : ℕ) (l : List ℕ) (x : Piece) → Rising L (suc R) x.0 → Rows (suc R) (suc L) x.1 → Span (sides s L l x) L R
sides_span s L R l x a b o m = in_cons m (λ o. (L ≤ o.pos) × ((j : ℕ) → j ∈ o.to → (o.pos < j) × (j ≤ R)))
    (omega arith, λ j k. let q = rising_in L (suc R) a k in omega arith)
    (λ o m. let h = outs_span s (suc R) (suc L) x.1 b o m in let u = h.0 in
    (omega arith, λ j k. let q = rising_in o.pos (suc R) h.2 k in omega arith))

wants_reach : (s : Sentence) (L R : ℕ) (r : List ℕ) (x : Piece) → suc L + length x.1 ≡ R → Reach (wants s L R r x) L R
wants_reach s L R r x lx b i = in_both (needs s (suc L) x.1) i (λ b. (L < b.0) × (b.0 ≤ R))
    (λ b i. let h = needs_span s (suc L) x.1 b i in let u = h.0 in let v = h.1 in (omega arith, omega arith))
    (λ b i. in_one i (λ b. (L < b.0) × (b.0 ≤ R)) (omega arith, omega arith))

module _ (s : Sentence) (L W R : ℕ) (l r : List ℕ) (c : Choice) (x y : Piece) (lx : suc L + length x.1 ≡ W) where
  abbrev p : List ℕ
  p = rights s W c

  abbrev m : List ℕ
  m = lefts s W c

  pub sides_glue : sides s L l (glue c x y) ≡ sides s L l x ++ sides s W p y
  sides_glue =
      ap (λ o. side L x.0 l ∷ o)
      (along_++ _ (suc L) x.1 (put c y) ∙ ap (λ k. outs s (suc L) x.1 ++ outs s k (put c y)) lx)

  wants_glue : wants s L R r (glue c x y) ≡ wants s L W m x ++ wants s W R r y
  wants_glue =
      ap (λ o. o ++ ((R, r) ∷ [])) (along_++ _ (suc L) x.1 (put c y) ∙ ap (λ k. needs s (suc L) x.1 ++ needs s k (put c y)) lx)
      ∙ append_assoc (needs s (suc L) x.1) (needs s W (put c y)) ((R, r) ∷ [])
      ∙ sym (append_assoc (needs s (suc L) x.1) ((W, m) ∷ []) (wants s W R r y))

  pub glue_valid : Valid s L W l m x → Valid s W R p r y → c ∈ choices s W → Open s L R l r (glue c x y)
  glue_valid v w i =
      let ly = w.len in
      let WR : suc W ≤ suc R = omega arith in
      record {
        valid = record {
          len = ap (λ n. suc L + n) (length-append x.1 (put c y)) ∙ omega arith;
          row = rising_up L (suc W) (suc R) x.0 WR v.row;
          rows = each_++ _ (suc L) x.1 (put c y) (rows_up (suc W) (suc R) (suc L) x.1 WR v.rows)
              (subst (λ k. Rows (suc R) k (put c y)) (sym lx) (w.row, w.rows));
          chosen = each_++ _ (suc L) x.1 (put c y) v.chosen (subst (λ k. Chosen s k (put c y)) (sym lx) (i, w.chosen));
          fits = subst₂ (Fits s.matches) (sym sides_glue) (sym wants_glue)
              (glue_fits s.matches (sides s L l x) (sides s W p y) (wants s L W m x) (wants s W R r y) L W R
              (sides_span s L W l x v.row v.rows) (sides_span s W R p y w.row w.rows)
              (wants_reach s L W m x lx) (wants_reach s W R r y ly) v.fits w.fits);
        };
        free = λ k. let h = rising_in L (suc W) v.row k in omega arith;
      }

  -- And the other way, where nothing before W reaches past it.
  pub unglue : Valid s L R l r (glue c x y) → ((j : ℕ) → j ∈ x.0 → j ≤ W)
      → ((a : Side) → a ∈ outs s (suc L) x.1 → (j : ℕ) → j ∈ a.to → j ≤ W)
      → Valid s L W l m x × Valid s W R p r y × (c ∈ choices s W)
  unglue v below below' =
      let len : suc L + length (x.1 ++ put c y) ≡ R = v.len in
      let lxy : length (x.1 ++ put c y) ≡ length x.1 + suc (length y.1) = length-append x.1 (put c y) in
      let ly : suc W + length y.1 ≡ R = omega arith in
      let rx : Rising L (suc W) x.0 = rising_below L (suc R) (suc W) x.0 (λ j k. let q = below j k in omega arith) v.row in
      let rsx : Rows (suc W) (suc L) x.1 =
      rows_below s (suc R) (suc W) (suc L) x.1 (λ a i j k. let q = below' a i j k in omega arith) (each_left _ (suc L) x.1 (put c y) v.rows) in
      let rest : Rows (suc R) W (put c y) = subst (λ k. Rows (suc R) k (put c y)) lx (each_right _ (suc L) x.1 (put c y) v.rows) in
      let cho : Chosen s W (put c y) = subst (λ k. Chosen s k (put c y)) lx (each_right _ (suc L) x.1 (put c y) v.chosen) in
      let fit : Fits s.matches (sides s L l x ++ sides s W p y) (wants s L W m x ++ wants s W R r y) =
      subst₂ (Fits s.matches) sides_glue wants_glue v.fits in (
        record {
          len = lx;
          row = rx;
          rows = rsx;
          chosen = each_left _ (suc L) x.1 (put c y) v.chosen;
          fits = left_fits s.matches (sides s L l x) (sides s W p y) (wants s L W m x) (wants s W R r y) L W R
              (sides_span s L W l x rx rsx) (sides_span s W R p y rest.0 rest.1) (wants_reach s L W m x lx) (wants_reach s W R r y ly) fit;
        },
        record {
          len = ly;
          row = rest.0;
          rows = rest.1;
          chosen = cho.1;
          fits = right_fits s.matches (sides s L l x) (sides s W p y) (wants s L W m x) (wants s W R r y) L W R
              (sides_span s L W l x rx rsx) (sides_span s W R p y rest.0 rest.1) (wants_reach s L W m x lx) (wants_reach s W R r y ly) fit;
        },
        cho.0,
      )

-- What taking off the link between L and R leaves.
pub record Unlinked (s : Sentence) (L R : ℕ) (l r : List ℕ) (x : Piece) : Type 0 where
  pub l' : List ℕ
  pub c : ℕ
  pub r' : List ℕ
  pub e : ℕ
  pub left_is : l ≡ l' ++ (c ∷ [])
  pub right_is : r ≡ r' ++ (e ∷ [])
  pub match : s.matches c e ≡ true
  pub rest : Open s L R l' r' x

module _ (s : Sentence) (L R : ℕ) (x : Piece) (lx : suc L + length x.1 ≡ R) (rows : Rows (suc R) (suc L) x.1) where
  inner_outs : (a : Side) → a ∈ outs s (suc L) x.1 → (L < a.pos) × ((j : ℕ) → j ∈ a.to → j ≤ R)
  inner_outs a m =
      let h = outs_span s (suc R) (suc L) x.1 rows a m in
      (h.0, λ j k. let q = rising_in a.pos (suc R) h.2 k in omega arith)

  inner_needs : (b : Need) → b ∈ needs s (suc L) x.1 → b.0 < R
  inner_needs b m = let h = needs_span s (suc L) x.1 b m in let v = h.1 in omega arith

  pub link_valid : (l r : List ℕ) (c e : ℕ) → s.matches c e ≡ true → Open s L R l r x → Valid s L R (l ++ (c ∷ [])) (r ++ (e ∷ [])) (link_end R x)
  link_valid l r c e t o =
      let v = o.valid in
      let LR : L < R = omega arith in
      let row : Rising L R x.0 = rising_below L (suc R) R x.0 (λ j k.
      let h = rising_in L (suc R) v.row k in let d : j ≡ R → ⊥ = λ q. o.free (subst (λ z. z ∈ x.0) q k) in omega arith) v.row in
      record {
        len = lx;
        row = rising_snoc L R x.0 LR row;
        rows = rows;
        chosen = v.chosen;
        fits = link_fits s.matches (outs s (suc L) x.1) (needs s (suc L) x.1) L R x.0 LR (λ j k. rising_in L R row k) inner_outs inner_needs
            l r c e t v.fits;
      }

  pub unlink : (l r : List ℕ) → Valid s L R l r (link_end R x) → Unlinked s L R l r x
  unlink l r v =
      let LR : L < R = omega arith in
      let row : Rising L R x.0 = (rising_front L (suc R) R x.0 v.row).0 in
      let O = outs s (suc L) x.1 in
      let I = needs s (suc L) x.1 in
      let n = ends s.matches O I L R x.0 LR (λ j k. rising_in L R row k) inner_outs inner_needs l r v.fits in
      let fit : Fits s.matches (side L (x.0 ++ (R ∷ [])) (n.0 ++ (n.1 ∷ [])) ∷ O) (I ++ ((R, n.2 ++ (n.3 ∷ [])) ∷ [])) =
      subst₂ (λ p q. Fits s.matches (side L (x.0 ++ (R ∷ [])) p ∷ O) (I ++ ((R, q) ∷ []))) n.4 n.5 v.fits in
      let u = unlink_fits s.matches O I L R x.0 LR (λ j k. rising_in L R row k) inner_outs inner_needs n.0 n.2 n.1 n.3 fit in
      record {
        l' = n.0;
        c = n.1;
        r' = n.2;
        e = n.3;
        left_is = n.4;
        right_is = n.5;
        match = u.0;
        rest = record {
          valid = record { len = lx; row = rising_up L R (suc R) x.0 (omega arith) row; rows = rows; chosen = v.chosen; fits = u.1 };
          free = λ k. let h = rising_in L R row k in omega arith;
        };
      }
