-- Names match when their capitals are equal and their letters agree place by place.
use Rattle.std.proofs.Common.{◌≡◌, ℕ, zero, suc, ◌+◌, ◌-◌, true, ◌||◌, eqb, List, [], ◌∷◌, length, get_or, Decides, sym, refl, ap, ◌∙◌, subst, inl, inr, ⊎_elim, arith}
use Rattle.std.proofs.lemmas.List.{get_or-drop, length-take-le}
use Rattle.std.proofs.lemmas.Bool.{and_from, and_parts, eq-eqb, eqb-true, or_cases, or_left, or_right}
use Rattle.std.specs.List.{prefix_len}
use Rattle.std.proofs.lemmas.List.Sums.{prefix_len-le-length}
use Rattle.formula.specs.Cuts.{capital}
use Rattle.formula.specs.Tokens.{Name}
use Rattle.written.specs.Matching.{Agree, Matching, agree, capitals, ending, endings_match, names_match, same}
use Rattle.written.proofs.Known.{eq_same, same_eq}

-- Letters that agree.
agree_said : (x y : ℕ) → agree x y ≡ true → Agree x y
agree_said x y h =
    ⊎_elim (λ e. inl (eqb-true x y e))
    (λ r. inr (⊎_elim (λ e. inl (eqb-true x 42 e)) (λ e. inr (eqb-true y 42 e)) (or_cases (eqb x 42) (eqb y 42) r)))
    (or_cases (eqb x y) (eqb x 42 || eqb y 42) h)

said_agree : (x y : ℕ) → Agree x y → agree x y ≡ true
said_agree x y h =
    ⊎_elim (λ e. or_left (eqb x y) (eqb x 42 || eqb y 42) (eq-eqb x y e))
    (λ r. or_right (eqb x y) (eqb x 42 || eqb y 42)
    (⊎_elim (λ e. or_left (eqb x 42) (eqb y 42) (eq-eqb x 42 e)) (λ e. or_right (eqb x 42) (eqb y 42) (eq-eqb y 42 e)) r)) h

endings_said : (xs ys : List ℕ) → endings_match xs ys ≡ true → (j : ℕ) → Agree (get_or xs j 42) (get_or ys j 42)
unfolding endings_match
endings_said [] ys h j = inr (inl refl)
endings_said (x ∷ xs) [] h j = inr (inr refl)
endings_said (x ∷ xs) (y ∷ ys) h zero = agree_said x y (and_parts (agree x y) (endings_match xs ys) h).0
endings_said (x ∷ xs) (y ∷ ys) h (suc j) = endings_said xs ys (and_parts (agree x y) (endings_match xs ys) h).1 j

said_endings : (xs ys : List ℕ) → ((j : ℕ) → Agree (get_or xs j 42) (get_or ys j 42)) → endings_match xs ys ≡ true
unfolding endings_match
said_endings [] ys h = refl
said_endings (x ∷ xs) [] h = refl
said_endings (x ∷ xs) (y ∷ ys) h =
    and_from (agree x y) (endings_match xs ys) (said_agree x y (h 0)) (said_endings xs ys (λ j. h (suc j)))

module _ (a b : Name) where
  same_count : capitals a ≡ capitals b → prefix_len capital a ≡ prefix_len capital b
  same_count e =
      let n = ap length e in
      let la = length-take-le (prefix_len capital a) a (prefix_len-le-length capital a) in
      let lb = length-take-le (prefix_len capital b) b (prefix_len-le-length capital b) in
      omega arith

  said : names_match a b ≡ true → Matching a b
  said h =
      let (p, q) = and_parts (same (capitals a) (capitals b)) (endings_match (ending a) (ending b)) h in
      let e = same_eq (capitals a) (capitals b) p in
      let m = prefix_len capital a in
      let n = prefix_len capital b in
      let mn = same_count e in (
        e,
        λ i l.
            let ia : m + (i - m) ≡ i = omega arith in
            let ib : n + (i - m) ≡ i = omega arith in
            let x = get_or-drop m a (i - m) 42 ∙ ap (λ k. get_or a k 42) ia in
            let y = get_or-drop n b (i - m) 42 ∙ ap (λ k. get_or b k 42) ib in
            subst (λ u. Agree u (get_or b i 42)) x
            (subst (Agree (get_or (ending a) (i - m) 42)) y (endings_said (ending a) (ending b) q (i - m))),
      )

  unsaid : Matching a b → names_match a b ≡ true
  unsaid (e, h) =
      let m = prefix_len capital a in
      let n = prefix_len capital b in
      let mn = same_count e in
      and_from (same (capitals a) (capitals b)) (endings_match (ending a) (ending b)) (eq_same (capitals a) (capitals b) e)
      (said_endings (ending a) (ending b)
      (λ j.
      let nj : n + j ≡ m + j = omega arith in
      let x = get_or-drop m a j 42 in
      let y = get_or-drop n b j 42 ∙ ap (λ k. get_or b k 42) nj in
      subst (λ u. Agree u (get_or (ending b) j 42)) (sym x) (subst (Agree (get_or a (m + j) 42)) (sym y) (h (m + j) (omega arith)))))

  pub matching_known : Decides (names_match a b) (Matching a b)
  matching_known = (said, unsaid)
