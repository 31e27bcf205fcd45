-- The names of a front: those of an extended front, the names that new cells bring, and looking a name up by its number
-- and a number by its name.
use Rattle.std.proofs.Common.{◌≡◌, ℕ, zero, suc, ◌+◌, ◌<◌, ◌≤◌, Bool, true, false, cond, eqb, List, [], ◌∷◌, ◌++◌, map, length, get_or, Some, None, sym, refl, ap, ◌∙◌, ap₂, ⊎_elim, arith, length-append}
use lib.Seq.{take-length}
use Rattle.std.specs.List.{AllByRecursion}
use Rattle.std.proofs.lemmas.Bool.{true≢false, false≢true, eqb-true, eq-eqb, ne_eqb, or_left, or_right, or_cases, cases_Bool, cond_both, cond-true, cond-false}
use Rattle.formula.specs.Tokens.{Name}
use Rattle.written.specs.Matching.{same}
use Rattle.written.specs.Model.{Named, among, number_of, name_of}
use Rattle.written.specs.Store.{cell, cells, MARK, name_at, names_from, name_cells, all_name_cells, WholeName}
use Rattle.written.proofs.Fronts.{cell_kept, cells_kept}
use Rattle.written.proofs.Known.{same_eq, eq_same, Distinct}

-- Cells none of which is a mark.
abbrev pub Plain : List ℕ → Type 0
Plain xs = AllByRecursion (λ x. x < MARK) xs

-- Behind every mark lie its length and so many cells.
abbrev pub Sound : List ℕ → Type 0
Sound [] = Unit {0}
Sound (c ∷ cs) = (c ≡ MARK → 1 + get_or cs 0 0 ≤ length cs) × Sound cs

cell_tail : (c : ℕ) (cs : List ℕ) (p k : ℕ) → cell (c ∷ cs) (suc p + k) ≡ cell cs (p + k)
cell_tail c cs p k = let e : suc p + k ≡ suc (p + k) = omega arith in ap (cell (c ∷ cs)) e

name_tail : (c : ℕ) (cs : List ℕ) (p : ℕ) → name_at (c ∷ cs) (suc p) ≡ name_at cs p
name_tail c cs p =
    let e : suc p + 2 ≡ suc (p + 2) = omega arith in
    ap₂ (cells (c ∷ cs)) e (cell_tail c cs p 1)

pub sound_whole : (F : List ℕ) → Sound F → (p : ℕ) → cell F p ≡ MARK → WholeName F p
sound_whole [] s p e = absurd (omega arith)
sound_whole (c ∷ cs) (h, s) zero e = let l = h e in (omega arith, e, omega arith)
sound_whole (c ∷ cs) (h, s) (suc p) e =
    let (l, m, n) = sound_whole cs s p e in
    let t = cell_tail c cs p 1 in
    (omega arith, e, omega arith)

pub whole_sound : (F : List ℕ) → ((p : ℕ) → cell F p ≡ MARK → WholeName F p) → Sound F
whole_sound [] w = tt
whole_sound (c ∷ cs) w = (
  λ e. let h = (w 0 e).2 in omega arith,
  whole_sound cs (λ p e.
      let (l, m, n) = w (suc p) e in
      let t = cell_tail c cs p 1 in
      (omega arith, e, omega arith)),
)

pub sound_append : (F G : List ℕ) → Sound F → Sound G → Sound (F ++ G)
sound_append [] G s t = t
sound_append (c ∷ cs) G (h, s) t = (
  λ e.
      let l = h e in
      let k = cell_kept cs G 0 (omega arith) in
      let n = length-append cs G in
      omega arith,
  sound_append cs G s t,
)

pub sound_plain : (xs : List ℕ) → Plain xs → Sound xs
sound_plain [] p = tt
sound_plain (x ∷ xs) (l, p) = (λ e. absurd (omega arith), sound_plain xs p)

-- The names of a front and of what follows it.
cons_append : (t : Bool) (m n : Named) (xs ys zs : List Named) → (t ≡ true → m ≡ n) → xs ≡ ys ++ zs →
    cond t (m ∷ xs) xs ≡ cond t (n ∷ ys) ys ++ zs
cons_append true m n xs ys zs h e = ap₂ ◌∷◌ (h refl) e
cons_append false m n xs ys zs h e = e

pub names_append : (q : ℕ) (F G : List ℕ) → Sound F → names_from q (F ++ G) ≡ names_from q F ++ names_from (q + length F) G
unfolding names_from
names_append q [] G s = let e : q ≡ q + 0 = omega arith in ap (λ k. names_from k G) e
names_append q (c ∷ cs) G (h, s) =
    let e : suc q + length cs ≡ q + suc (length cs) = omega arith in
    cons_append (eqb c MARK) (record { name = name_at (c ∷ (cs ++ G)) 0; number = q })
    (record { name = name_at (c ∷ cs) 0; number = q })
    (names_from (suc q) (cs ++ G)) (names_from (suc q) cs) (names_from (q + suc (length cs)) G)
    (λ t.
    let l = h (eqb-true c MARK t) in
    let n : name_at (c ∷ (cs ++ G)) 0 ≡ name_at (c ∷ cs) 0 =
    ap (cells (cs ++ G) 1) (cell_kept cs G 0 (omega arith)) ∙ cells_kept cs G 1 (get_or cs 0 0) l
    in λ i. record { name = n i; number = q })
    (names_append (suc q) cs G s ∙ ap (λ k. names_from (suc q) cs ++ names_from k G) e)

pub names_none : (q : ℕ) (xs : List ℕ) → Plain xs → names_from q xs ≡ []
unfolding names_from
names_none q [] p = refl
names_none q (x ∷ xs) (l, p) =
    cond-false (eqb x MARK) (record { name = name_at (x ∷ xs) 0; number = q } ∷ names_from (suc q) xs) (names_from (suc q) xs)
    (ne_eqb x MARK (λ e. omega arith))
    ∙ names_none (suc q) xs p

-- A name that can be held: its length and its bytes are no marks.
abbrev pub NamedOk : Name → Type 0
NamedOk n = (length n ≤ 8) × ((j : ℕ) → get_or n j 0 < 256)

pub plain_below : (xs : List ℕ) → ((j : ℕ) → get_or xs j 0 < 256) → Plain xs
plain_below [] h = tt
plain_below (x ∷ xs) h = let l : x < 256 = h 0 in (omega arith, plain_below xs (λ j. h (suc j)))

plain_name : (n : Name) → NamedOk n → Plain (length n ∷ n)
plain_name n (l, b) = (omega arith, plain_below n b)

sound_name : (n : Name) → NamedOk n → Sound (name_cells n)
sound_name n ok = (λ e. omega arith, sound_plain (length n ∷ n) (plain_name n ok))

pub sound_names : (ns : List Name) → AllByRecursion NamedOk ns → Sound (all_name_cells ns)
unfolding all_name_cells
sound_names [] h = tt
sound_names (n ∷ ns) (ok, h) = sound_append (name_cells n) (all_name_cells ns) (sound_name n ok) (sound_names ns h)

-- Names with the places at which they are written one behind another.
abbrev pub placed : ℕ → List Name → List Named
placed q [] = []
placed q (n ∷ ns) = record { name = n; number = q } ∷ placed (q + suc (suc (length n))) ns

pub placed_names : (q : ℕ) (ns : List Name) → map (λ (m : Named). m.name) (placed q ns) ≡ ns
placed_names q [] = refl
placed_names q (n ∷ ns) = ap (◌∷◌ n) (placed_names (q + suc (suc (length n))) ns)

names_one : (q : ℕ) (n : Name) → NamedOk n → names_from q (name_cells n) ≡ record { name = n; number = q } ∷ []
unfolding names_from
names_one q n ok =
    ap₂ ◌∷◌ (λ i. record { name = take-length n i; number = q }) (names_none (suc q) (length n ∷ n) (plain_name n ok))

pub names_placed : (q : ℕ) (ns : List Name) → AllByRecursion NamedOk ns → names_from q (all_name_cells ns) ≡ placed q ns
unfolding names_from all_name_cells
names_placed q [] h = refl
names_placed q (n ∷ ns) (ok, h) =
    names_append q (name_cells n) (all_name_cells ns) (sound_name n ok)
    ∙ ap₂ ◌++◌ (names_one q n ok) (names_placed (q + suc (suc (length n))) ns h)

-- Looking a name up by its number. No name has a number below the place at which the cells begin.
name_below : (q : ℕ) (F : List ℕ) (k : ℕ) → k < q → name_of (names_from q F) k ≡ None
unfolding names_from name_of
name_below q [] k h = refl
name_below q (c ∷ cs) k h =
    cond_both (eqb c MARK) (record { name = name_at (c ∷ cs) 0; number = q } ∷ names_from (suc q) cs) (names_from (suc q) cs)
    (λ ms. name_of ms k ≡ None)
    (λ _.
    cond-false (eqb q k) (Some (name_at (c ∷ cs) 0)) (name_of (names_from (suc q) cs) k) (ne_eqb q k (λ e. omega arith))
    ∙ name_below (suc q) cs k (omega arith))
    (λ _. name_below (suc q) cs k (omega arith))

pub name_found : (q : ℕ) (F : List ℕ) (i k : ℕ) → q + i ≡ k →
    name_of (names_from q F) k ≡ cond (eqb (cell F i) MARK) (Some (name_at F i)) None
unfolding names_from name_of
name_found q [] i k e = refl
name_found q (c ∷ cs) zero k e = go (eqb c MARK)
  where
    go : (t : Bool) →
        name_of (cond t (record { name = name_at (c ∷ cs) 0; number = q } ∷ names_from (suc q) cs) (names_from (suc q) cs)) k
        ≡ cond t (Some (name_at (c ∷ cs) 0)) None
    go true = cond-true (eqb q k) (Some (name_at (c ∷ cs) 0)) (name_of (names_from (suc q) cs) k) (eq-eqb q k (omega arith))
    go false = name_below (suc q) cs k (omega arith)
name_found q (c ∷ cs) (suc i) k e =
    let rest : name_of (names_from (suc q) cs) k ≡ cond (eqb (cell cs i) MARK) (Some (name_at (c ∷ cs) (suc i))) None =
    name_found (suc q) cs i k (omega arith) ∙ ap (λ n. cond (eqb (cell cs i) MARK) (Some n) None) (sym (name_tail c cs i))
    in cond_both (eqb c MARK) (record { name = name_at (c ∷ cs) 0; number = q } ∷ names_from (suc q) cs) (names_from (suc q) cs)
    (λ ms. name_of ms k ≡ cond (eqb (cell cs i) MARK) (Some (name_at (c ∷ cs) (suc i))) None)
    (λ _. cond-false (eqb q k) (Some (name_at (c ∷ cs) 0)) (name_of (names_from (suc q) cs) k) (ne_eqb q k (λ f. omega arith)) ∙ rest)
    (λ _. rest)

pub name_known : (F : List ℕ) (p : ℕ) → name_of (names_from 0 F) p ≡ cond (eqb (cell F p) MARK) (Some (name_at F p)) None
name_known F p = name_found 0 F p p (omega arith)

-- The names of a front, and a name that stands at a mark.
abbrev pub named : ℕ → List ℕ → List Name
named q F = map (λ (m : Named). m.name) (names_from q F)

pub mark_among : (q : ℕ) (F : List ℕ) (i : ℕ) (n : Name) → cell F i ≡ MARK → name_at F i ≡ n → among n (named q F) ≡ true
unfolding names_from among
mark_among q [] i n e f = absurd (omega arith)
mark_among q (c ∷ cs) zero n e f =
    rw (eq-eqb c MARK e)
    (or_left (same n (name_at (c ∷ cs) 0)) (among n (named (suc q) cs)) (eq_same n (name_at (c ∷ cs) 0) (sym f)))
mark_among q (c ∷ cs) (suc i) n e f =
    let rest = mark_among (suc q) cs i n e (sym (name_tail c cs i) ∙ f) in
    cond_both (eqb c MARK) (record { name = name_at (c ∷ cs) 0; number = q } ∷ names_from (suc q) cs) (names_from (suc q) cs)
    (λ ms. among n (map (λ (m : Named). m.name) ms) ≡ true)
    (λ _. or_right (same n (name_at (c ∷ cs) 0)) (among n (named (suc q) cs)) rest) (λ _. rest)

-- The number of a name that is among those of a front is the place of its mark.
pub record Placed (q : ℕ) (F : List ℕ) (n : Name) (k : ℕ) : Type 0 where
  pub at_mark : ℕ
  pub number_is : k ≡ q + at_mark
  pub marked : cell F at_mark ≡ MARK
  pub called : name_at F at_mark ≡ n

placed_tail : (q c : ℕ) (cs : List ℕ) (n : Name) (k : ℕ) → Placed (suc q) cs n k → Placed q (c ∷ cs) n k
placed_tail q c cs n k p =
    let e = p.number_is in
    record { at_mark = suc p.at_mark; number_is = omega arith; marked = p.marked; called = name_tail c cs p.at_mark ∙ p.called }

pub among_placed : (q : ℕ) (F : List ℕ) (n : Name) → among n (named q F) ≡ true → Placed q F n (number_of (names_from q F) n)
unfolding names_from among number_of
among_placed q [] n = λ h. absurd (false≢true h)
among_placed q (c ∷ cs) n =
    let here = name_at (c ∷ cs) 0 in
    let rest = among_placed (suc q) cs n in
    cond_both (eqb c MARK) (record { name = here; number = q } ∷ names_from (suc q) cs) (names_from (suc q) cs)
    (λ ms. among n (map (λ (m : Named). m.name) ms) ≡ true → Placed q (c ∷ cs) n (number_of ms n))
    (λ e h.
    cond_both (same here n) q (number_of (names_from (suc q) cs) n) (Placed q (c ∷ cs) n)
    (λ t. record { at_mark = 0; number_is = omega arith; marked = eqb-true c MARK e; called = same_eq here n t })
    (λ f.
    placed_tail q c cs n (number_of (names_from (suc q) cs) n)
    (rest (⊎_elim (λ t. absurd (true≢false (sym (eq_same here n (sym (same_eq n here t))) ∙ f))) (λ r. r)
    (or_cases (same n here) (among n (named (suc q) cs)) h)))))
    (λ _ h. placed_tail q c cs n (number_of (names_from (suc q) cs) n) (rest h))

-- No name stands at two marks.
abbrev pub Apart : List ℕ → Type 0
Apart F = (p q : ℕ) → cell F p ≡ MARK → cell F q ≡ MARK → name_at F p ≡ name_at F q → p ≡ q

pub number_known : (F : List ℕ) → Apart F → (p : ℕ) → cell F p ≡ MARK → number_of (names_from 0 F) (name_at F p) ≡ p
number_known F apart p e =
    let found = among_placed 0 F (name_at F p) (mark_among 0 F p (name_at F p) e refl) in
    let k = found.number_is in
    let same_place = apart found.at_mark p found.marked e found.called in
    omega arith

pub apart_distinct : (q : ℕ) (F : List ℕ) → Apart F → Distinct (named q F)
unfolding names_from
apart_distinct q [] a = tt
apart_distinct q (c ∷ cs) a =
    let here = name_at (c ∷ cs) 0 in
    let rest = apart_distinct (suc q) cs
    (λ i j e f g.
    let s = a (suc i) (suc j) e f (name_tail c cs i ∙ (g ∙ sym (name_tail c cs j))) in
    omega arith)
    in cond_both (eqb c MARK) (record { name = here; number = q } ∷ names_from (suc q) cs) (names_from (suc q) cs)
    (λ ms. Distinct (map (λ (m : Named). m.name) ms))
    (λ e. (
      ⊎_elim
          (λ t.
          let p = among_placed (suc q) cs here t in
          let s = a 0 (suc p.at_mark) (eqb-true c MARK e) p.marked (sym (name_tail c cs p.at_mark ∙ p.called)) in
          absurd (omega arith))
          (λ f. f) (cases_Bool (among here (named (suc q) cs))),
      rest,
    ))
    (λ _. rest)

distinct_tail : (q c : ℕ) (cs : List ℕ) → Distinct (named q (c ∷ cs)) → Distinct (named (suc q) cs)
unfolding names_from
distinct_tail q c cs =
    cond_both (eqb c MARK) (record { name = name_at (c ∷ cs) 0; number = q } ∷ names_from (suc q) cs) (names_from (suc q) cs)
    (λ ms. Distinct (map (λ (m : Named). m.name) ms) → Distinct (named (suc q) cs)) (λ _ d. d.1) (λ _ d. d)

distinct_head : (q c : ℕ) (cs : List ℕ) → c ≡ MARK → Distinct (named q (c ∷ cs)) → (i : ℕ) → cell cs i ≡ MARK →
    name_at cs i ≡ name_at (c ∷ cs) 0 → ⊥
unfolding names_from
distinct_head q c cs e d i f g =
    let h : among (name_at (c ∷ cs) 0) (named (suc q) cs) ≡ false = (rw (eq-eqb c MARK e) at d).0 in
    true≢false (sym (mark_among (suc q) cs i (name_at (c ∷ cs) 0) f g) ∙ h)

pub distinct_apart : (q : ℕ) (F : List ℕ) → Distinct (named q F) → Apart F
distinct_apart q [] d i j e f g = absurd (omega arith)
distinct_apart q (c ∷ cs) d zero zero e f g = refl
distinct_apart q (c ∷ cs) d zero (suc j) e f g = absurd (distinct_head q c cs e d j f (sym (name_tail c cs j) ∙ sym g))
distinct_apart q (c ∷ cs) d (suc i) zero e f g = absurd (distinct_head q c cs f d i e (sym (name_tail c cs i) ∙ g))
distinct_apart q (c ∷ cs) d (suc i) (suc j) e f g =
    ap suc (distinct_apart (suc q) cs (distinct_tail q c cs d) i j e f (sym (name_tail c cs i) ∙ (g ∙ name_tail c cs j)))
