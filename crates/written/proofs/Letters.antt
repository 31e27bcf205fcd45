-- Tests of names by their letters: the capitals that a name begins with, capitals that are the same, and endings that agree.
use Rattle.std.proofs.Common.{◌≡◌, ℕ, ◌+◌, Bool, cond, ◌&&◌, eqb, List, [], ◌∷◌, map, length, take, drop, refl, sym, ap, ap₂, ◌∙◌, arith}
use lib.Pointwise.{pointwise}
use Rattle.std.specs.List.{list_all, prefix_len, zip}
use Rattle.std.proofs.lemmas.List.{drop-map, take-map}
use Rattle.formula.specs.Cuts.{capital}
use Rattle.written.specs.Matching.{agree, endings_match, names_match, same}

module _ {L : Type 0} (code : L → ℕ) where
  pub prefix_coded : (p : ℕ → Bool) (xs : List L) → prefix_len (λ x. p (code x)) xs ≡ prefix_len p (map code xs)
  prefix_coded p [] = refl
  prefix_coded p (x ∷ xs) = ap (λ n. cond (p (code x)) (1 + n) 0) (prefix_coded p xs)

  pub pointwise_same : (eq : L → L → Bool) → ((x y : L) → eq x y ≡ eqb (code x) (code y)) → (xs ys : List L) →
      pointwise eq xs ys ≡ same (map code xs) (map code ys)
  unfolding same
  pointwise_same eq h [] [] = refl
  pointwise_same eq h [] (y ∷ ys) = refl
  pointwise_same eq h (x ∷ xs) [] = refl
  pointwise_same eq h (x ∷ xs) (y ∷ ys) = ap₂ ◌&&◌ (h x y) (pointwise_same eq h xs ys)

  pub endings_zipped : (xs ys : List L) → list_all (λ (p : L × L). agree (code p.0) (code p.1)) (zip xs ys) ≡ endings_match (map code xs) (map code ys)
  unfolding endings_match
  endings_zipped [] ys = refl
  endings_zipped (x ∷ xs) [] = refl
  endings_zipped (x ∷ xs) (y ∷ ys) = ap (λ t. agree (code x) (code y) && t) (endings_zipped xs ys)

  -- Names match by what they begin with and what follows.
  module _ (eq : L → L → Bool) (told : (x y : L) → eq x y ≡ eqb (code x) (code y)) (xs ys : List L) (m n : ℕ)
      (p : m ≡ prefix_len capital (map code xs)) (q : n ≡ prefix_len capital (map code ys)) where
    pub by_parts : names_match (map code xs) (map code ys)
        ≡ (pointwise eq (take m xs) (take n ys) && endings_match (map code (drop m xs)) (map code (drop n ys)))
    by_parts =
        let front : same (take m (map code xs)) (take n (map code ys)) ≡ pointwise eq (take m xs) (take n ys) =
        ap₂ same (take-map code m xs) (take-map code n ys) ∙ sym (pointwise_same eq told (take m xs) (take n ys)) in
        let back : endings_match (drop m (map code xs)) (drop n (map code ys)) ≡ endings_match (map code (drop m xs)) (map code (drop n ys)) =
        ap₂ endings_match (drop-map code m xs) (drop-map code n ys) in
        ap₂ (λ i j. same (take i (map code xs)) (take j (map code ys)) && endings_match (drop i (map code xs)) (drop j (map code ys))) (sym p) (sym q)
        ∙ ap₂ ◌&&◌ front back

-- Rows are the same where they are as long and the same place by place.
pub same_zipped : (xs ys : List ℕ) → length xs ≡ length ys → list_all (λ (p : ℕ × ℕ). eqb p.0 p.1) (zip xs ys) ≡ same xs ys
unfolding same
same_zipped [] [] h = refl
same_zipped [] (y ∷ ys) h = absurd (omega arith)
same_zipped (x ∷ xs) [] h = absurd (omega arith)
same_zipped (x ∷ xs) (y ∷ ys) h = ap (λ t. eqb x y && t) (same_zipped xs ys (omega arith))

pub bytes_same : (xs ys : List ℕ) → pointwise eqb xs ys ≡ same xs ys
unfolding same
bytes_same [] [] = refl
bytes_same [] (y ∷ ys) = refl
bytes_same (x ∷ xs) [] = refl
bytes_same (x ∷ xs) (y ∷ ys) = ap (λ t. eqb x y && t) (bytes_same xs ys)
