-- What is cut into tokens, with the spaces between, is the bytes, each once and in order.
--
-- A token that is found at the front of bytes is spelled there. So the cut, which after the token's first byte skips as
-- many as are left of its spelling, goes on with what follows the token. By induction over the bytes, for any skip, the
-- cut is laid along what is left of them after the skip.
use Rattle.std.proofs.Common.{◌≡◌, ℕ, zero, suc, pred, ◌+◌, ◌<◌, ◌≤◌, ◌&&◌, eqb, ltb, ◌⊎◌, List, [], ◌∷◌, ◌++◌, length, get_or, take, drop, replicate, Ok, Err, Result, sym, refl, ap, ◌∙◌, subst, subst₂, inl, inr, append_assoc, not-suc-le-zero, add-zero, arith, length-append}
use lib.ListN.{get_or-eq_default}
use lib.Seq.{split_at}
use Rattle.std.proofs.lemmas.List.{drop_at}
use Rattle.std.proofs.lemmas.Bool.{cond_both, cases_lt, and_parts, eqb-true, eqb-false}
use Rattle.refusal.specs.declared.Refusal.{Refusal}
use Rattle.formula.specs.declared.token.Join.TheVariants.{And, Or}
use Rattle.formula.specs.declared.token.Bracket.TheVariants.{Round, Brace}
use Rattle.formula.specs.Tokens.{Name, Word, mark, open_with, close_with, connector, spelled}
use Rattle.formula.specs.Cuts.{capital, name_length, signed, token_at, Cut, ends, fails, token, placed, cut, cut_after}
use Rattle.formula.specs.Cuts.{Laid, at_end, next, no_token}

pub cut_skip : (k p : ℕ) (bs : List ℕ) → k ≤ length bs → cut_after k p bs ≡ cut_after 0 (p + k) (drop k bs)
unfolding cut_after
cut_skip zero p bs h = rw add-zero
cut_skip (suc k) p [] h = absurd (not-suc-le-zero h)
cut_skip (suc k) p (b ∷ bs) h =
    let e : suc p + k ≡ p + suc k = omega arith in
    cut_skip k (suc p) bs (omega arith) ∙ ap (λ q. cut_after 0 q (drop k bs)) e

-- If a token is given, it is spelled at the front.
abbrev Front : List ℕ → Result Word Refusal → Type 0
Front bs (Ok w) = (rest : List ℕ) × (bs ≡ spelled w ++ rest)
Front bs (Err r) = Unit {0}

signed_front : (n : Name) (b : ℕ) (bs rest : List ℕ) → bs ≡ n ++ (b ∷ rest) → Front bs (signed n b)
signed_front n b bs rest e =
    cond_both (eqb b 43) _ _ (Front bs) (λ t. (rest, at 43 (eqb-true b 43 t))) λ _.
    cond_both (eqb b 45) _ _ (Front bs) (λ t. (rest, at 45 (eqb-true b 45 t))) λ _. tt
  where
    at : (c : ℕ) → b ≡ c → bs ≡ (n ++ (c ∷ [])) ++ rest
    at c u = e ∙ ap (λ x. n ++ (x ∷ rest)) u ∙ sym (append_assoc n (c ∷ []) rest)

name_front : (n : ℕ) (bs : List ℕ) → Front bs (signed (take n bs) (get_or bs n 0))
name_front n bs = go (cases_lt n (length bs))
  where
    go : (n < length bs) ⊎ (length bs ≤ n) → Front bs (signed (take n bs) (get_or bs n 0))
    go (inl h) = signed_front (take n bs) (get_or bs n 0) bs (drop (suc n) bs) (split_at bs n 0 h)
    go (inr h) = rw (get_or-eq_default bs 0 h) tt

or_front : (b : ℕ) (bs : List ℕ) → b ≡ 111 → get_or bs 0 0 ≡ 114 → Front (b ∷ bs) (Ok (mark Or))
or_front b [] e u = absurd (omega arith)
or_front b (c ∷ bs) e u = (bs, cc)

found : (b : ℕ) (bs : List ℕ) → Front (b ∷ bs) (token_at b bs)
found b bs =
    cond_both (capital b) _ _ P
    (λ _. cond_both (ltb 8 n) _ _ P (λ _. tt) λ _. name_front n (b ∷ bs)) λ _.
    cond_both (eqb b 38) _ _ P (λ t. (bs, same (eqb-true b 38 t))) λ _.
    cond_both (eqb b 111 && eqb (get_or bs 0 0) 114) _ _ P
    (λ t. let h = and_parts (eqb b 111) (eqb (get_or bs 0 0) 114) t in
    or_front b bs (eqb-true b 111 h.0) (eqb-true (get_or bs 0 0) 114 h.1)) λ _.
    cond_both (eqb b 40) _ _ P (λ t. (bs, same (eqb-true b 40 t))) λ _.
    cond_both (eqb b 123) _ _ P (λ t. (bs, same (eqb-true b 123 t))) λ _.
    cond_both (eqb b 41) _ _ P (λ t. (bs, same (eqb-true b 41 t))) λ _.
    cond_both (eqb b 125) _ _ P (λ t. (bs, same (eqb-true b 125 t))) λ _. tt
  where
    n : ℕ
    n = name_length (b ∷ bs)

    P : Result Word Refusal → Type 0
    P = Front (b ∷ bs)

    same : {c : ℕ} → b ≡ c → b ∷ bs ≡ c ∷ bs
    same e = ap (λ x. x ∷ bs) e

pub token_front : (b : ℕ) (bs : List ℕ) (w : Word) → token_at b bs ≡ Ok w →
    (rest : List ℕ) × (b ∷ bs ≡ spelled w ++ rest)
token_front b bs w e = subst (Front (b ∷ bs)) e (found b bs)

pub spelled_some : (w : Word) → 1 ≤ length (spelled w)
spelled_some (mark And) = omega arith
spelled_some (mark Or) = omega arith
spelled_some (open_with Round) = omega arith
spelled_some (open_with Brace) = omega arith
spelled_some (close_with Round) = omega arith
spelled_some (close_with Brace) = omega arith
spelled_some (connector s n) = simp length-append (omega arith)

space : {bs : List ℕ} {q : ℕ} {c : Cut} (p : ℕ) → Laid bs q c → q ≡ suc p → Laid (32 ∷ bs) p c
space p (at_end k q) e =
    let u : p + suc k ≡ q + k = omega arith in
    subst (λ m. Laid (replicate (suc k) 32) p (ends m)) u (at_end (suc k) p)
space p (next k q w bs c l) e =
    let u : p + suc k ≡ q + k = omega arith in
    subst (λ m. Laid (replicate (suc k) 32 ++ (spelled w ++ bs)) p (token m w c)) u
    (next (suc k) p w bs c (subst (λ m. Laid bs (m + length (spelled w)) c) (sym u) l))
space p (no_token k q b bs r n t) e =
    let u : p + suc k ≡ q + k = omega arith in
    subst (λ m. Laid (replicate (suc k) 32 ++ (b ∷ bs)) p (fails m r)) u (no_token (suc k) p b bs r n t)

-- The cut after a byte, whatever is skipped, being laid, so is the cut from that byte on.
module _ (p b : ℕ) (bs : List ℕ)
    (later : (k : ℕ) → k ≤ length bs → Laid (drop k bs) (suc p + k) (cut_after k (suc p) bs)) where
  laid_token : (b ≡ 32 → ⊥) → (o : Result Word Refusal) → token_at b bs ≡ o →
      Laid (b ∷ bs) p (placed p o (λ w. cut_after (pred (length (spelled w))) (suc p) bs))
  laid_token n (Err r) e = rw add-zero at (no_token 0 p b bs r n e)
  laid_token n (Ok w) e =
      let (rest, q) = token_front b bs w e in
      let m : ℕ = pred (length (spelled w)) in
      let c : Cut = cut_after m (suc p) bs in
      let s : suc m ≡ length (spelled w) = omega (arith, spelled_some w) in
      let d : drop m bs ≡ rest = ap (λ l. drop (suc m) l) q ∙ drop_at (spelled w) rest (suc m) (sym s) in
      let t : suc p + m ≡ p + 0 + length (spelled w) = omega arith in
      let l : Laid (drop m bs) (suc p + m) c = later m (omega (arith, ap length q, length-append (spelled w) rest)) in
      let x : Laid rest (p + 0 + length (spelled w)) c = subst₂ (λ r a. Laid r a c) d t l in
      subst₂ (λ r a. Laid r p (token a w c)) (sym q) (add-zero p) (next 0 p w rest c x)

  laid_byte : Laid (b ∷ bs) p (cut_after 0 p (b ∷ bs))
  unfolding cut_after
  laid_byte =
      cond_both (eqb b 32) _ _ (Laid (b ∷ bs) p)
      (λ y. rw (eqb-true b 32 y) (space p (later 0 (omega arith)) (omega arith)))
      (λ n. laid_token (eqb-false b 32 n) (token_at b bs) refl)

laid_after : (k p : ℕ) (bs : List ℕ) → k ≤ length bs → Laid (drop k bs) (p + k) (cut_after k p bs)
unfolding cut_after
laid_after zero p [] h = rw add-zero (rw add-zero at (at_end 0 p))
laid_after (suc k) p [] h = absurd (not-suc-le-zero h)
laid_after zero p (b ∷ bs) h = rw add-zero (laid_byte p b bs (λ k. laid_after k (suc p) bs))
laid_after (suc k) p (b ∷ bs) h =
    let e : suc p + k ≡ p + suc k = omega arith in
    subst (λ q. Laid (drop k bs) q (cut_after k (suc p) bs)) e (laid_after k (suc p) bs (omega arith))

pub laid : (bytes : List ℕ) → Laid bytes 0 (cut bytes)
laid bytes = laid_after 0 0 bytes (omega arith)
