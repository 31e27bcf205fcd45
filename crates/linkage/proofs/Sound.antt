-- Each piece that is made is valid, and its ends are not linked.
use Rattle.std.proofs.Common.{◌≡◌, ℕ, zero, suc, true, eqb, List, [], ◌∷◌, ◌++◌, length, sym, refl, ap, ◌∙◌, subst, subst₂, inl, inr, arith}
use mathlib.Core.Option.{none, some}
use Rattle.std.proofs.lemmas.Bool.{cond_both, eqb-true}
use Rattle.linkage.specs.Inside.{Waiting}
use Rattle.linkage.specs.Lists.{◌∈◌, back}
use Rattle.linkage.specs.Linkages.{Linkage}
use Rattle.linkage.specs.Sentences.{Choice, Sentence, choices, lefts, rights}
use Rattle.linkage.proofs.Members.{in_none, in_one, in_split, of_map}
use Rattle.linkage.proofs.Ranges.{back_none, back_some}
use Rattle.linkage.proofs.Regions.{Open, Piece, Valid, glue, glue_valid, link_end, link_valid, put}
use Rattle.linkage.proofs.Pieces.{Linked, closed_pieces, edge_pieces, inner_pieces, left_at, linked_pieces, of_gather, of_left, of_linked, of_opening, of_pairs, opening_pieces, pieces, right_at}

-- A region with nothing in it.
edge_open : (s : Sentence) (L : ℕ) → Open s L (suc L) [] [] ([], [])
edge_open s L = record {
  valid = record {
    len = omega arith;
    row = tt;
    rows = tt;
    chosen = tt;
    fits = record {
      full_out = λ a m. in_one m (λ a. length a.to ≡ length a.by) refl;
      full_in = λ b m. in_one m (λ b. length {A = ℕ} [] ≡ length b.1) refl;
      apart = λ a b p q j m u. absurd (in_one p (λ a. j ∈ a.to → ⊥) (λ k. in_none k) u);
      agree = λ a b p q k. absurd (in_one p (λ a. b.0 ∈ a.to → ⊥) (λ k. in_none k) k);
    };
  };
  free = λ m. in_none m;
}

-- A position that begins a part, before which nothing waits.
alone_open : (s : Sentence) (L R : ℕ) (c : Choice) (y : Piece) → c ∈ choices s (suc L) → lefts s (suc L) c ≡ []
    → Valid s (suc L) R (rights s (suc L) c) [] y → Open s L R [] [] ([], put c y)
alone_open s L R c y i e v =
    let before : Valid s L (suc L) [] (lefts s (suc L) c) ([], []) = subst (λ q. Valid s L (suc L) [] q ([], [])) (sym e) (edge_open s L).valid in
    glue_valid s L (suc L) R [] [] c ([], []) y (omega arith) before v i

abbrev pub Sound : Sentence → ℕ → Type 0
Sound s f = (L R : ℕ) (l r : List ℕ) (x : Piece) → x ∈ pieces s f L R l r → Open s L R l r x

module _ (s : Sentence) (f : ℕ) (ih : Sound s f) where
  pub linked_sound : (W R : ℕ) (p r : List ℕ) (y : Piece) → (k : Linked s (pieces s f) W R (back p) (back r) y) → Valid s W R p r (link_end R k.free)
  linked_sound W R p r y k =
      let o = ih W R k.p' k.r' k.free k.from in
      subst₂ (λ a b. Valid s W R a b (link_end R k.free)) (sym (back_some p k.p' k.c k.p_is)) (sym (back_some r k.r' k.d k.r_is))
      (link_valid s W R k.free o.valid.len o.valid.rows k.p' k.r' k.c k.d k.match o)

  pub closed_sound : (W R : ℕ) (p r : List ℕ) (y : Piece) → y ∈ closed_pieces s (pieces s f) W R p r → Valid s W R p r y
  closed_sound W R p r y m = elim (in_split (pieces s f W R p r) m) [
    | inl k ↦ (ih W R p r y k).valid
    | inr k ↦ let h = of_linked s (pieces s f) W R (back p) (back r) y k in subst (Valid s W R p r) (sym h.is) (linked_sound W R p r y h)
  ]

  -- The near piece of a split at W, with the link from L to W.
  pub near_sound : (L W : ℕ) (l m : List ℕ) (e d : ℕ) (c : Choice) (x : Piece) → back (lefts s W c) ≡ some (m, d) → s.matches e d ≡ true
      → x ∈ pieces s f L W l m → Valid s L W (l ++ (e ∷ [])) (lefts s W c) (link_end W x)
  near_sound L W l m e d c x w t i =
      let o = ih L W l m x i in
      subst (λ q. Valid s L W (l ++ (e ∷ [])) q (link_end W x)) (sym (back_some (lefts s W c) m d w))
      (link_valid s L W x o.valid.len o.valid.rows l m e d t o)

  inner_sound : (L R : ℕ) (l r : List ℕ) (wl wr : Waiting) → back l ≡ wl → back r ≡ wr → (x : Piece) → x ∈ inner_pieces s (pieces s f) L R r wl wr → Open s L R l r x
  inner_sound L R l r none none el er x m =
      let a = of_map (λ ps. ([], ps)) (opening_pieces s (pieces s f) (suc L) R) m in
      let h = of_opening s (pieces s f) (suc L) R a.0 a.1 in
      let o = ih (suc L) R (rights s (suc L) h.c) [] h.rest h.from in
      let is : x ≡ ([], put h.c h.rest) = a.2 ∙ ap (λ (ps : Linkage). ([], ps)) h.is in
      subst₂ (λ a b. Open s L R a b x) (sym (back_none l el)) (sym (back_none r er))
      (subst (Open s L R [] []) (sym is) (alone_open s L R h.c h.rest h.option h.none_left o.valid))
  inner_sound L R l r none (some q) el er x m =
      let g = of_gather s L R (right_at s (pieces s f) L R q) x m in
      let W = g.W in
      let h = of_pairs (glue g.c) (pieces s f L W [] (lefts s W g.c)) (linked_pieces s (pieces s f) W R (back (rights s W g.c)) (some q)) g.from in
      let o = ih L W [] (lefts s W g.c) h.0 h.2 in
      let k = of_linked s (pieces s f) W R (back (rights s W g.c)) (back r) h.1
      (subst (λ w. h.1 ∈ linked_pieces s (pieces s f) W R (back (rights s W g.c)) w) (sym er) h.3) in
      let v : Valid s W R (rights s W g.c) r h.1 = subst (Valid s W R (rights s W g.c) r) (sym k.is) (linked_sound W R (rights s W g.c) r h.1 k) in
      subst₂ (λ a z. Open s L R a r z) (sym (back_none l el)) (sym h.4)
      (glue_valid s L W R [] r g.c h.0 h.1 o.valid.len o.valid v g.option)
  inner_sound L R l r (some (l', e)) wr el er x m =
      let g = of_gather s L R (left_at s (pieces s f) L R l' e r) x m in
      let W = g.W in
      let k = of_left s (pieces s f) L R l' e r W g.c (back (lefts s W g.c)) x g.from in
      let near = near_sound L W l' k.m e k.d g.c k.near k.w_is k.match k.near_from in
      let far = closed_sound W R (rights s W g.c) r k.far k.far_from in
      subst₂ (λ a z. Open s L R a r z) (sym (back_some l l' e el)) (sym k.is)
      (glue_valid s L W R (l' ++ (e ∷ [])) r g.c (link_end W k.near) k.far near.len near far g.option)

  edge_sound : (L R : ℕ) (l r : List ℕ) → R ≡ suc L → (x : Piece) → x ∈ edge_pieces l r → Open s L R l r x
  edge_sound L R [] [] e x m = subst₂ (λ k z. Open s L k [] [] z) (sym e) (in_one m (λ z. ([], []) ≡ z) refl) (edge_open s L)
  edge_sound L R [] (y ∷ r) e x m = absurd (in_none m)
  edge_sound L R (y ∷ l) r e x m = absurd (in_none m)

pub sound : (s : Sentence) (f : ℕ) → Sound s f
sound s zero L R l r x m = absurd (in_none m)
sound s (suc f) L R l r x m =
    cond_both (eqb R (suc L)) (edge_pieces l r) (inner_pieces s (pieces s f) L R r (back l) (back r)) (λ xs. x ∈ xs → Open s L R l r x)
    (λ e k. edge_sound s f (sound s f) L R l r (eqb-true R (suc L) e) x k)
    (λ e k. inner_sound s f (sound s f) L R l r (back l) (back r) refl refl x k) m
