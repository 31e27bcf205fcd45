-- What is cut from what is left of a formula, by what stands at its front.
use Rattle.std.proofs.Common.{◌≡◌, ℕ, suc, pred, ◌+◌, ◌<◌, ◌≤◌, Bool, cond, eqb, List, [], ◌∷◌, length, get_or, drop, Ok, Err, Result, sym, ap, ◌∙◌, subst, inl, inr, add-zero, arith, length-append, ne_eqb}
use Rattle.std.proofs.lemmas.Bool.{cases_Bool, eqb-false}
use Rattle.std.specs.List.{prefix_len}
use Rattle.refusal.specs.declared.Refusal.{Refusal}
use Rattle.refusal.specs.declared.fault.LineFault.{LineFault}
use Rattle.refusal.specs.Faults.{carried, fault}
use Rattle.formula.specs.declared.token.Token.{Token}
use Rattle.formula.specs.Cuts.{cut_after, ends, fails, token, placed, token_at, said_there}
use Rattle.formula.specs.Tokens.{Word, said, spelled}
use Rattle.formula.proofs.Lays.{cut_skip, token_front, spelled_some}

abbrev pub is_space : ℕ → Bool
is_space b = eqb b 32

-- Spaces mean nothing.
pub spaces : (p : ℕ) (xs : List ℕ) →
    cut_after 0 p xs ≡ cut_after 0 (p + prefix_len is_space xs) (drop (prefix_len is_space xs) xs)
unfolding cut_after
spaces p [] = rw add-zero
spaces p (b ∷ bs) =
    let n = prefix_len is_space bs in
    let s : suc p + n ≡ p + (1 + n) = omega arith in
    let o : suc n ≡ 1 + n = omega arith in
    let d : drop n bs ≡ drop (1 + n) (b ∷ bs) = ap (λ k. drop k (b ∷ bs)) o in
    elim (cases_Bool (eqb b 32)) [
      | inl e ↦ rw e (spaces (suc p) bs ∙ ap (λ q. cut_after 0 q (drop n bs)) s ∙ ap (cut_after 0 (p + (1 + n))) d)
      | inr e ↦ ap (λ q. cut_after 0 q (b ∷ bs)) (sym (add-zero p))
          ∙ ap (λ k. cut_after 0 (p + k) (drop k (b ∷ bs))) (sym (ap (λ t. cond t (1 + n) 0) e))
    ]

pub no_space : (xs : List ℕ) → 0 < length (drop (prefix_len is_space xs) xs) → get_or (drop (prefix_len is_space xs) xs) 0 0 ≡ 32 → ⊥
no_space [] h e = omega arith
no_space (b ∷ bs) h e =
    let n = prefix_len is_space bs in
    let o : suc n ≡ 1 + n = omega arith in
    let d : drop n bs ≡ drop (1 + n) (b ∷ bs) = ap (λ k. drop k (b ∷ bs)) o in
    elim (cases_Bool (eqb b 32)) [
      | inl t ↦ no_space bs (subst (λ xs. 0 < length xs) (sym d) (rw t at h)) (subst (λ xs. get_or xs 0 0 ≡ 32) (sym d) (rw t at e))
      | inr t ↦ eqb-false b 32 t (rw t at e)
    ]

pub ended : (p : ℕ) (xs : List ℕ) → length xs ≡ 0 → cut_after 0 p xs ≡ ends (p + length xs)
unfolding cut_after
ended p [] h = rw add-zero
ended p (b ∷ bs) h = absurd (omega arith)

-- Where no space stands at the front, a token does or none does.
module _ (p : ℕ) where
  front : (b : ℕ) (bs : List ℕ) → (b ≡ 32 → ⊥) →
      cut_after 0 p (b ∷ bs) ≡ placed p (token_at b bs) (λ w. cut_after (pred (length (spelled w))) (suc p) bs)
  unfolding cut_after
  front b bs n = rw (ne_eqb b 32 n)

  no_token : (xs : List ℕ) (r : Refusal) → 0 < length xs → (get_or xs 0 0 ≡ 32 → ⊥) →
      token_at (get_or xs 0 0) (drop 1 xs) ≡ Err r → cut_after 0 p xs ≡ fails p r
  no_token [] r h n e = absurd (omega arith)
  no_token (b ∷ bs) r h n e = front b bs n ∙ ap (λ t. placed p t (λ w. cut_after (pred (length (spelled w))) (suc p) bs)) e

  a_token : (xs : List ℕ) (w : Word) → 0 < length xs → (get_or xs 0 0 ≡ 32 → ⊥) →
      token_at (get_or xs 0 0) (drop 1 xs) ≡ Ok w →
      (length (spelled w) ≤ length xs)
      × (cut_after 0 p xs ≡ token p w (cut_after 0 (p + length (spelled w)) (drop (length (spelled w)) xs)))
  a_token [] w h n e = absurd (omega arith)
  a_token (b ∷ bs) w h n e =
      let some = spelled_some w in
      let (rest, q) = token_front b bs w e in
      let m : ℕ = pred (length (spelled w)) in
      let k = ap length q ∙ length-append (spelled w) rest in
      let fits : m ≤ length bs = omega arith in
      let at : suc p + m ≡ p + length (spelled w) = omega arith in
      let s : suc m ≡ length (spelled w) = omega arith in (
        omega arith,
        front b bs n ∙ ap (λ t. placed p t (λ w. cut_after (pred (length (spelled w))) (suc p) bs)) e
            ∙ ap (token p w) (cut_skip m (suc p) bs fits ∙ ap (λ a. cut_after 0 a (drop m bs)) at
            ∙ ap (λ j. cut_after 0 (p + length (spelled w)) (drop j (b ∷ bs))) s),
      )

  -- The same of what was found there, once it has its place.
  module _ (xs : List ℕ) (some : 0 < length xs) (stops : get_or xs 0 0 ≡ 32 → ⊥) where
    pub fault_there : (t : Result Token Refusal) (f : LineFault) → token_at (get_or xs 0 0) (drop 1 xs) ≡ said_there t →
        Err f ≡ carried (fault p) t → cut_after 0 p xs ≡ fails f.place f.refusal
    fault_there (Ok k) f s e = let z : ◌≡◌ {A = ℕ} 0 1 = cc in absurd (omega arith)
    fault_there (Err r) f s e = let g : fault p r ≡ f = cc in no_token xs r some stops s ∙ ap (λ (g : LineFault). fails g.place g.refusal) g

    pub token_there : (t : Result Token Refusal) (k : Token) → token_at (get_or xs 0 0) (drop 1 xs) ≡ said_there t →
        Ok k ≡ carried (fault p) t →
        (length (spelled (said k)) ≤ length xs)
        × (cut_after 0 p xs ≡ token p (said k) (cut_after 0 (p + length (spelled (said k))) (drop (length (spelled (said k))) xs)))
    token_there (Ok l) k s e = let g : l ≡ k = cc in a_token xs (said k) some stops (s ∙ ap (λ (m : Token). Ok (said m)) g)
    token_there (Err r) k s e = let z : ◌≡◌ {A = ℕ} 0 1 = cc in absurd (omega arith)
