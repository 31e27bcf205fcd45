-- A page that is written to: a cell behind the front leaves the rows, and a row before the others leaves the front.
use Rattle.std.proofs.Common.{◌≡◌, ℕ, zero, suc, ◌+◌, ◌-◌, ◌*◌, ◌<◌, ◌≤◌, min, ◌≢◌, List, [], ◌∷◌, ◌++◌, length, get_or, take, set, sym, ap, ◌∙◌, ap₂, append-nil, arith, length-set}
use Rattle.std.proofs.lemmas.List.{take_more_set, take-set-le, get_or-set_same, get_or-set_other}
use Rattle.written.specs.Pages.{limit, row_place, row_at, store, taken, extended}
use Rattle.written.specs.Store.{counted}
use Rattle.written.proofs.Renamed.{counted_same}

pub counted_push : {A : Type 0} (f : ℕ → A) (k n m : ℕ) → k + n ≡ m → counted f k (suc n) ≡ counted f k n ++ (f m ∷ [])
unfolding counted
counted_push f k zero m e = let q : k ≡ m = omega arith in ap (λ j. f j ∷ []) q
counted_push f k (suc n) m e = ap (◌∷◌ (f k)) (counted_push f (suc k) n m (omega arith))

-- The rows of a table that is changed only before them.
rows_kept : (T U : List ℕ) (words : ℕ) → length U ≡ length T → 4 * words ≤ limit T →
    ((j : ℕ) → limit T - 4 * words ≤ j → get_or U j 0 ≡ get_or T j 0) → counted (row_at U) 0 words ≡ counted (row_at T) 0 words
rows_kept T U words n room same =
    counted_same (row_at U) (row_at T) 0 words
    (λ w l h.
    let e : row_place U w ≡ row_place T w = ap (λ m. min m 65535 - 4 * (w + 1)) n in
    let read : (i : ℕ) → get_or U (row_place U w + i) 0 ≡ get_or T (row_place T w + i) 0 =
    λ i. ap (λ p. get_or U (p + i) 0) e ∙ same (row_place T w + i) (omega arith)
    in let here = ap (λ p. get_or U p 0) e ∙ same (row_place T w) (omega arith) in
    λ i. record { word = here i; length_of = read 1 i; block = read 2 i })

module _ (T : List ℕ) (used words : ℕ) where
  pub cell_store : (c : ℕ) → taken used words < limit T →
      store (set T used c) (used + 1) words ≡ extended (store T used words) (c ∷ []) []
  cell_store c h =
      let front = take_more_set T used c (omega arith) in
      let rows = rows_kept T (set T used c) words (length-set T used c) (omega arith)
      (λ j l. get_or-set_other T used j c 0 (λ e. omega arith)) ∙ sym (append-nil (counted (row_at T) 0 words))
      in λ i. record { front = front i; rows = rows i }

  -- The row of the next word, whose cells begin at a place.
  module _ (p a b c : ℕ) (at : p ≡ limit T - 4 * (words + 1)) (room : taken used words + 4 ≤ limit T) where
    U1 : List ℕ
    U1 = set T p a

    U2 : List ℕ
    U2 = set U1 (p + 1) b

    U3 : List ℕ
    U3 = set U2 (p + 2) c

    U : List ℕ
    U = set U3 (p + 3) 0

    same_length : length U ≡ length T
    unfolding U U1 U2 U3
    same_length = simp length-set

    other : (j : ℕ) → j ≢ p → j ≢ p + 1 → j ≢ p + 2 → j ≢ p + 3 → get_or U j 0 ≡ get_or T j 0
    unfolding U U1 U2 U3
    other j n0 n1 n2 n3 =
        get_or-set_other U3 (p + 3) j 0 0 n3
        ∙ (get_or-set_other U2 (p + 2) j c 0 n2 ∙ (get_or-set_other U1 (p + 1) j b 0 n1 ∙ get_or-set_other T p j a 0 n0))

    read0 : get_or U p 0 ≡ a
    unfolding U U1 U2 U3
    read0 =
        get_or-set_other U3 (p + 3) p 0 0 (λ e. omega arith)
        ∙ (get_or-set_other U2 (p + 2) p c 0 (λ e. omega arith)
        ∙ (get_or-set_other U1 (p + 1) p b 0 (λ e. omega arith) ∙ get_or-set_same T p a 0 (omega arith)))

    read1 : get_or U (p + 1) 0 ≡ b
    unfolding U U1 U2 U3
    read1 =
        get_or-set_other U3 (p + 3) (p + 1) 0 0 (λ e. omega arith)
        ∙ (get_or-set_other U2 (p + 2) (p + 1) c 0 (λ e. omega arith)
        ∙ get_or-set_same U1 (p + 1) b 0 (simp length-set (omega arith)))

    read2 : get_or U (p + 2) 0 ≡ c
    unfolding U U1 U2 U3
    read2 =
        get_or-set_other U3 (p + 3) (p + 2) 0 0 (λ e. omega arith)
        ∙ get_or-set_same U2 (p + 2) c 0 (simp length-set (omega arith))

    front_kept : take used U ≡ take used T
    unfolding U U1 U2 U3
    front_kept =
        take-set-le used U3 (p + 3) 0 (omega arith)
        ∙ (take-set-le used U2 (p + 2) c (omega arith)
        ∙ (take-set-le used U1 (p + 1) b (omega arith) ∙ take-set-le used T p a (omega arith)))

    new_row : row_at U words ≡ record { word = a; length_of = b; block = c }
    new_row =
        let e : row_place U words ≡ p = ap (λ m. min m 65535 - 4 * (words + 1)) same_length ∙ sym at in
        let r0 = ap (λ q. get_or U q 0) e ∙ read0 in
        let r1 = ap (λ q. get_or U (q + 1) 0) e ∙ read1 in
        let r2 = ap (λ q. get_or U (q + 2) 0) e ∙ read2 in
        λ i. record { word = r0 i; length_of = r1 i; block = r2 i }

    rows_more : counted (row_at U) 0 (words + 1) ≡ counted (row_at T) 0 words ++ (record { word = a; length_of = b; block = c } ∷ [])
    rows_more =
        let e : words + 1 ≡ suc words = omega arith in
        let kept = rows_kept T U words same_length (omega arith)
        (λ j l. other j (λ e. omega arith) (λ e. omega arith) (λ e. omega arith) (λ e. omega arith))
        in ap (counted (row_at U) 0) e
        ∙ (counted_push (row_at U) 0 words words (omega arith) ∙ ap₂ (λ xs r. xs ++ (r ∷ [])) kept new_row)

    pub row_store : store (set (set (set (set T p a) (p + 1) b) (p + 2) c) (p + 3) 0) used (words + 1)
        ≡ extended (store T used words) [] (record { word = a; length_of = b; block = c } ∷ [])
    unfolding U U1 U2 U3
    row_store = let front = front_kept ∙ sym (append-nil (take used T)) in λ i. record { front = front i; rows = rows_more i }
