-- Rows of bytes are the same when they are equal, and names that were not known are told from those that were.
use Rattle.std.proofs.Common.{◌≡◌, ℕ, true, false, eqb, List, [], ◌∷◌, ◌++◌, sym, refl, ◌∙◌, subst, ap₂, ⊎_elim, append_assoc, append-nil}
use Rattle.std.specs.List.{AllByRecursion}
use Rattle.std.proofs.lemmas.Bool.{true≢false, false≢true, eqb-true, eq-eqb, and_from, and_parts, or_from, or_parts, or_left, or_right, or_cases, cases_Bool, cond_both}
use Rattle.formula.specs.Tokens.{Name}
use Rattle.written.specs.Matching.{same}
use Rattle.written.specs.Model.{among, fresh}

pub same_itself : (a : List ℕ) → same a a ≡ true
unfolding same
same_itself [] = refl
same_itself (x ∷ xs) = and_from (eqb x x) (same xs xs) (eq-eqb x x refl) (same_itself xs)

pub same_eq : (a b : List ℕ) → same a b ≡ true → a ≡ b
unfolding same
same_eq [] [] h = refl
same_eq [] (y ∷ ys) h = absurd (false≢true h)
same_eq (x ∷ xs) [] h = absurd (false≢true h)
same_eq (x ∷ xs) (y ∷ ys) h =
    let (e, r) = and_parts (eqb x y) (same xs ys) h in
    ap₂ ◌∷◌ (eqb-true x y e) (same_eq xs ys r)

pub eq_same : (a b : List ℕ) → a ≡ b → same a b ≡ true
eq_same a b e = subst (λ x. same a x ≡ true) e (same_itself a)

pub among_left : (n : Name) (xs ys : List Name) → among n xs ≡ true → among n (xs ++ ys) ≡ true
unfolding among
among_left n [] ys h = absurd (false≢true h)
among_left n (x ∷ xs) ys h =
    ⊎_elim (or_left (same n x) (among n (xs ++ ys))) (λ r. or_right (same n x) (among n (xs ++ ys)) (among_left n xs ys r))
    (or_cases (same n x) (among n xs) h)

pub among_right : (n : Name) (xs ys : List Name) → among n ys ≡ true → among n (xs ++ ys) ≡ true
unfolding among
among_right n [] ys h = h
among_right n (x ∷ xs) ys h = or_right (same n x) (among n (xs ++ ys)) (among_right n xs ys h)

pub among_one : (n : Name) → among n (n ∷ []) ≡ true
unfolding among
among_one n = or_left (same n n) false (same_itself n)

-- Names of which none stands twice.
abbrev pub Distinct : List Name → Type 0
Distinct [] = Unit {0}
Distinct (n ∷ ns) = (among n ns ≡ false) × Distinct ns

-- A name that is not in a list is not in it either when another is added.
among_push : (n m : Name) (xs : List Name) → among n xs ≡ false → (m ≡ n → ⊥) → among n (xs ++ (m ∷ [])) ≡ false
unfolding among
among_push n m [] h o =
    or_from (same n m) false (⊎_elim (λ e. absurd (o (sym (same_eq n m e)))) (λ e. e) (cases_Bool (same n m))) refl
among_push n m (x ∷ xs) h o =
    let (e, r) = or_parts (same n x) (among n xs) h in
    or_from (same n x) (among n (xs ++ (m ∷ []))) e (among_push n m xs r o)

distinct_push : (ns : List Name) (m : Name) → Distinct ns → among m ns ≡ false → Distinct (ns ++ (m ∷ []))
unfolding among
distinct_push [] m d h = (refl, tt)
distinct_push (n ∷ ns) m (a, d) h =
    let (e, r) = or_parts (same m n) (among m ns) h in
    (among_push n m ns a (λ q. true≢false (sym (eq_same m n q) ∙ e)), distinct_push ns m d r)

pub fresh_distinct : (known ms : List Name) → Distinct known → Distinct (known ++ fresh known ms)
unfolding fresh
fresh_distinct known [] d = subst Distinct (sym (append-nil known)) d
fresh_distinct known (m ∷ ms) d =
    cond_both (among m known) (fresh known ms) (m ∷ fresh (known ++ (m ∷ [])) ms) (λ xs. Distinct (known ++ xs))
    (λ _. fresh_distinct known ms d)
    (λ e. subst Distinct (append_assoc known (m ∷ []) (fresh (known ++ (m ∷ [])) ms))
    (fresh_distinct (known ++ (m ∷ [])) ms (distinct_push known m d e)))

-- Every name mentioned is then known.
pub fresh_among : (known ms : List Name) → AllByRecursion (λ m. among m (known ++ fresh known ms) ≡ true) ms
unfolding fresh
fresh_among known [] = tt
fresh_among known (m ∷ ms) =
    cond_both (among m known) (fresh known ms) (m ∷ fresh (known ++ (m ∷ [])) ms)
    (λ xs. AllByRecursion (λ n. among n (known ++ xs) ≡ true) (m ∷ ms))
    (λ e. (among_left m known (fresh known ms) e, fresh_among known ms))
    (λ e. subst (λ xs. AllByRecursion (λ n. among n xs ≡ true) (m ∷ ms)) (append_assoc known (m ∷ []) (fresh (known ++ (m ∷ [])) ms)) (
      among_left m (known ++ (m ∷ [])) (fresh (known ++ (m ∷ [])) ms) (among_right m known (m ∷ []) (among_one m)),
      fresh_among (known ++ (m ∷ [])) ms,
    ))

pub fresh_all : (P : Name → Type 0) (known ms : List Name) → AllByRecursion P ms → AllByRecursion P (fresh known ms)
unfolding fresh
fresh_all P known [] h = tt
fresh_all P known (m ∷ ms) (p, h) =
    cond_both (among m known) (fresh known ms) (m ∷ fresh (known ++ (m ∷ [])) ms) (AllByRecursion P)
    (λ _. fresh_all P known ms h) (λ _. (p, fresh_all P (known ++ (m ∷ [])) ms h))
