-- When labels hold what links join: where each has its own and there are no links, and after one link more.
use Rattle.std.proofs.Common.{◌≡◌, ℕ, ◌-◌, ◌<◌, cond, eqb, List, [], ◌∷◌, ◌++◌, length, map, get_or, sym, ap, ◌∙◌, subst, arith}
use Rattle.std.proofs.lemmas.List.{get_or-map, length-map}
use Rattle.arrayvec.proofs.ArrayVecLemmas.{items-with_items}
use Rattle.arrayvec.specs.ArrayVec.{with_items}
use Rattle.linkage.specs.Parts.{heads}
use Rattle.linkage.proofs.Joins.{Wire, labels_tell}
use Rattle.filing.specs.Joinings.{Holds}
use Rattle.filing.specs.declared.joins.Joins.{Joins}
use Rattle.filing.proofs.Merged.{heads_apart, parts_idle, parts_merged, says_idle, says_merged}

abbrev labelled : List ℕ → ℕ → Joins
labelled xs p = record { labels = record { items = xs }; parts = p }

pub holds_none : (xs : List ℕ) (n : ℕ) → length xs ≡ n → ((u : ℕ) → u < n → get_or xs u 0 ≡ u) → Holds [] (labelled xs n)
holds_none xs n l own = record {
  labels = λ u v h k. (
    λ e. (labels_tell [] u v).0 (sym (own u (omega arith)) ∙ e ∙ own v (omega arith)),
    λ j. own u (omega arith) ∙ (labels_tell [] u v).1 j ∙ sym (own v (omega arith)),
  );
  parts = sym (heads_apart (length xs) ∙ l);
}

module _ (j : Joins) (e : Wire) (es : List Wire) (in-a : e.0 < length j.labels.items) (in_b : e.1 < length j.labels.items) (h : Holds es j) where
  abbrev n : ℕ
  n = length j.labels.items

  abbrev f : ℕ → ℕ
  f u = get_or j.labels.items u 0

  -- Where the ends have one label already.
  pub holds_idle : f e.1 ≡ f e.0 → Holds (es ++ (e ∷ [])) j
  holds_idle q = record {
    labels = says_idle n e es f in-a in_b h.labels q;
    parts = h.parts ∙ sym (parts_idle n e es f in-a in_b h.labels q);
  }

  -- Where the label of the one end is put in the place of the other's.
  pub holds_merged : (f e.1 ≡ f e.0 → ⊥) → (xs : List ℕ) (p : ℕ) → xs ≡ map (λ l. cond (eqb l (f e.1)) (f e.0) l) j.labels.items → p ≡ j.parts - 1 →
      Holds (es ++ (e ∷ [])) (record { labels = with_items j.labels xs; parts = p })
  holds_merged d xs p q r =
      subst (λ ys. Holds (es ++ (e ∷ [])) (labelled ys p)) (sym (items-with_items j.labels xs long)) (record {
        labels = λ u v k l.
            says_merged n e es f in-a in_b h.labels (λ i. get_or xs i 0) at u v (subst (λ m. u < m) long k) (subst (λ m. v < m) long l);
        parts =
            let fewer = parts_merged n e es f in-a in_b h.labels d in
            let was = h.parts in
            let one_less : p ≡ length (heads (es ++ (e ∷ [])) n) = r ∙ omega arith in
            one_less ∙ ap (λ m. length (heads (es ++ (e ∷ [])) m)) (sym long);
      })
    where
      long : length xs ≡ n
      long = ap length q ∙ length-map j.labels.items (λ l. cond (eqb l (f e.1)) (f e.0) l)

      at : (u : ℕ) → u < n → get_or xs u 0 ≡ cond (eqb (f u) (f e.1)) (f e.0) (f u)
      at u k = ap (λ ys. get_or ys u 0) q ∙ get_or-map (λ l. cond (eqb l (f e.1)) (f e.0) l) j.labels.items u 0 0 k
