-- Equal ways are kept once, at their first place.
--
-- The tests decide equality, so a way is kept just if it is not there. Hence what is kept stays apart, only grows at its
-- end, and has each way that has had its turn.
use Rattle.std.proofs.Common.{◌≡◌, ℕ, zero, suc, ◌<◌, ◌≤◌, true, false, ◌⊎◌, List, [], ◌∷◌, ◌++◌, length, get_or, fold, sym, refl, ap, ◌∙◌, subst, ap₂, inl, inr, append_assoc, append-nil, arith}
use Rattle.std.proofs.lemmas.List.{get_or_append_left, get_or_default, get_or_push, length_push}
use Rattle.std.proofs.ByRecursion.{all_has_itself, has_append_left, has_push}
use Rattle.std.proofs.lemmas.Slice.Eq.{bytes_eq-Decides}
use Rattle.std.proofs.lemmas.Bool.{and_from, and_parts, both_ways, cases_lt, cond_both, or_cases, or_left, or_right}
use Rattle.std.specs.List.{ContainsAt as Has, AllByRecursion}
use lib.Pointwise.{pointwise_decides}
use Rattle.lexicon.specs.Lexicon.{free}
use Rattle.formula.specs.Tokens.{Name}
use Rattle.formula.specs.Ways.{Way, same_names, same_way, there, keep, KeptOnce}
use Rattle.formula.proofs.Good.{kept_all}

-- The tests decide equality.

names_decide : (l m : List Name) → (same_names l m ≡ true → l ≡ m) × (l ≡ m → same_names l m ≡ true)
names_decide = pointwise_decides bytes_eq-Decides

same : (d e : Way) → same_way d e ≡ true → d ≡ e
same d e t =
    let (a, b) = and_parts (same_names d.left e.left) (same_names d.right e.right) t in
    ap₂ both ((names_decide d.left e.left).0 a) ((names_decide d.right e.right).0 b)
  where
    both : List Name → List Name → Way
    both l r = record { left = l; right = r }

itself : (d : Way) → same_way d d ≡ true
itself d =
    and_from (same_names d.left d.left) (same_names d.right d.right) ((names_decide d.left d.left).1 refl) ((names_decide d.right d.right).1 refl)

there_has : (d : Way) (es : List Way) → there d es ≡ true → Has es d
there_has d [] t = absurd (both_ways false refl t)
there_has d (e ∷ es) t = go (or_cases (same_way e d) (there d es) t) (there_has d es)
  where
    go : (same_way e d ≡ true) ⊎ (there d es ≡ true) → (there d es ≡ true → Has es d) → Has (e ∷ es) d
    go (inl a) ih = (0, omega arith, λ _. same e d a)
    go (inr b) ih = let (k, l, is) = ih b in (suc k, omega arith, is)

has_there : (d : Way) (es : List Way) → Has es d → there d es ≡ true
has_there d [] (k, l, is) = absurd (omega arith)
has_there d (e ∷ es) (zero, l, is) =
    or_left (same_way e d) (there d es) (subst (λ x. same_way x d ≡ true) (sym (is d)) (itself d))
has_there d (e ∷ es) (suc k, l, is) = or_right (same_way e d) (there d es) (has_there d es (k, omega arith, is))

-- What is kept stays apart.

abbrev Apart : List Way → Type 0
Apart es = (i j : ℕ) → i < length es → j < length es → get_or es i free ≡ get_or es j free → i ≡ j

apart_push : (es : List Way) (d : Way) → (Has es d → ⊥) → Apart es → Apart (es ++ (d ∷ []))
apart_push es d n a i j h k e = go (cases_lt i (length es)) (cases_lt j (length es))
  where
    old : (m : ℕ) → m < length es → get_or (es ++ (d ∷ [])) m free ≡ get_or es m free
    old m l = get_or_append_left es (d ∷ []) free m l

    last : (m : ℕ) → m < length (es ++ (d ∷ [])) → length es ≤ m → length es ≡ m
    last m l g = omega (arith, length_push es d)

    other : (m : ℕ) → m < length es → get_or (es ++ (d ∷ [])) m free ≡ d → ⊥
    other m l q = n (m, l, λ x. get_or_default es m x free l ∙ sym (old m l) ∙ q)

    go : (i < length es) ⊎ (length es ≤ i) → (j < length es) ⊎ (length es ≤ j) → i ≡ j
    go (inl p) (inl q) = a i j p q (sym (old i p) ∙ e ∙ old j q)
    go (inl p) (inr q) = absurd (other i p (e ∙ get_or_push es d free j (last j k q)))
    go (inr p) (inl q) = absurd (other j q (sym e ∙ get_or_push es d free i (last i h p)))
    go (inr p) (inr q) = sym (last i h p) ∙ last j k q

kept_apart : (ds out : List Way) → Apart out → Apart (fold keep out ds)
kept_apart [] out a = a
kept_apart (d ∷ ds) out a =
    kept_apart ds (keep out d)
    (cond_both (there d out) _ _ Apart (λ _. a) λ t. apart_push out d (λ h. both_ways (there d out) t (has_there d out h)) a)

-- It only grows at its end.

abbrev Longer : List Way → List Way → Type 0
Longer out more-out = (more : List Way) × (more-out ≡ out ++ more)

keep_longer : (out : List Way) (d : Way) → Longer out (keep out d)
keep_longer out d = cond_both (there d out) _ _ (Longer out) (λ _. ([], sym (append-nil out))) (λ _. (d ∷ [], refl))

kept_longer : (ds out : List Way) → Longer out (fold keep out ds)
kept_longer [] out = ([], sym (append-nil out))
kept_longer (d ∷ ds) out =
    let (m, p) = keep_longer out d in
    let (n, q) = kept_longer ds (keep out d) in
    (m ++ n, q ∙ ap (λ l. l ++ n) p ∙ append_assoc out m n)

kept_append : (ds es out : List Way) → fold keep out (ds ++ es) ≡ fold keep (fold keep out ds) es
kept_append [] es out = refl
kept_append (d ∷ ds) es out = kept_append ds es (keep out d)

-- It has each way that has had its turn.

keep_has : (out : List Way) (d : Way) → Has (keep out d) d
keep_has out d = cond_both (there d out) _ _ (λ l. Has l d) (there_has d out) (λ _. has_push out d)

kept_has : (ds out : List Way) → AllByRecursion (Has (fold keep out ds)) ds
kept_has [] out = tt
kept_has (d ∷ ds) out =
    let (m, p) = kept_longer ds (keep out d) in
    (subst (λ l. Has l d) (sym p) (has_append_left (keep out d) m d (keep_has out d)), kept_has ds (keep out d))

pub kept_once : (ds : List Way) → KeptOnce ds
kept_once ds = (
  kept_apart ds [] (λ i j h k e. absurd (omega arith)),
  kept_has ds [],
  kept_all (Has ds) ds [] tt (all_has_itself ds),
  λ es. let (m, p) = kept_longer es (fold keep [] ds) in
      (m, kept_append ds es [] ∙ p),
)
