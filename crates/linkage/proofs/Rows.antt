-- Places that are numbered from a position on: what holds of each, what each gives, and how both split where places are joined.
-- Then rows that rise.
use Rattle.std.proofs.Common.{◌≡◌, ℕ, zero, suc, ◌+◌, ◌<◌, ◌≤◌, ◌⊎◌, List, [], ◌∷◌, ◌++◌, length, get_or, sym, refl, ap, ◌∙◌, subst, inl, inr, add-zero, add-suc, suc-add, arith}
use Rattle.linkage.specs.Lists.{◌∈◌, here, there, Distinct}
use Rattle.linkage.specs.Linkages.{Linkage, Place, Rising, unlinked}
use Rattle.linkage.specs.Sentences.{Sentence, choices, lefts, rights}
use Rattle.linkage.proofs.Members.{in_cases, in_cons, in_none, in_one}
use Rattle.linkage.proofs.Fits.{Need, Side, side}

-- The place behind so many, counted on.
pub behind : (i n : ℕ) → suc i + n ≡ i + suc n
behind i n = suc-add i n ∙ sym (add-suc i n)

module _ (P : ℕ → Place → Type 0) where
  -- It holds of each place.
  abbrev pub Each : ℕ → Linkage → Type 0
  Each i [] = Unit {0}
  Each i (p ∷ ps) = P i p × Each (suc i) ps

  pub each_++ : (i : ℕ) (ps qs : Linkage) → Each i ps → Each (i + length ps) qs → Each i (ps ++ qs)
  each_++ i [] qs h k = subst (λ n. Each n qs) (add-zero i) k
  each_++ i (p ∷ ps) qs h k = (h.0, each_++ (suc i) ps qs h.1 (subst (λ n. Each n qs) (sym (behind i (length ps))) k))

  pub each_left : (i : ℕ) (ps qs : Linkage) → Each i (ps ++ qs) → Each i ps
  each_left i [] qs h = tt
  each_left i (p ∷ ps) qs h = (h.0, each_left (suc i) ps qs h.1)

  pub each_right : (i : ℕ) (ps qs : Linkage) → Each i (ps ++ qs) → Each (i + length ps) qs
  each_right i [] qs h = subst (λ n. Each n qs) (sym (add-zero i)) h
  each_right i (p ∷ ps) qs h = subst (λ n. Each n qs) (behind i (length ps)) (each_right (suc i) ps qs h.1)

  -- It holds of each place exactly where it holds at each number.
  pub each_at : (i k : ℕ) (ps : Linkage) → Each i ps → k < length ps → P (i + k) (get_or ps k unlinked)
  each_at i k [] h l = absurd (omega arith)
  each_at i zero (p ∷ ps) h l = subst (λ n. P n p) (sym (add-zero i)) h.0
  each_at i (suc k) (p ∷ ps) h l = subst (λ n. P n (get_or ps k unlinked)) (behind i k) (each_at (suc i) k ps h.1 (omega arith))

  pub of_each : (i : ℕ) (ps : Linkage) → ((k : ℕ) → k < length ps → P (i + k) (get_or ps k unlinked)) → Each i ps
  of_each i [] h = tt
  of_each i (p ∷ ps) h = (
    subst (λ n. P n p) (add-zero i) (h 0 (omega arith)),
    of_each (suc i) ps (λ k l. subst (λ n. P n (get_or ps k unlinked)) (sym (behind i k)) (h (suc k) (omega arith))),
  )

pub each_map : (P Q : ℕ → Place → Type 0) → ((i : ℕ) (p : Place) → P i p → Q i p) → (i : ℕ) (ps : Linkage) → Each P i ps → Each Q i ps
each_map P Q f i [] h = tt
each_map P Q f i (p ∷ ps) h = (f i p h.0, each_map P Q f (suc i) ps h.1)

module _ {B : Type 0} (f : ℕ → Place → B) where
  -- What each place gives.
  abbrev pub along : ℕ → Linkage → List B
  along i [] = []
  along i (p ∷ ps) = f i p ∷ along (suc i) ps

  pub along_++ : (i : ℕ) (ps qs : Linkage) → along i (ps ++ qs) ≡ along i ps ++ along (i + length ps) qs
  along_++ i [] qs = ap (λ k. along k qs) (sym (add-zero i))
  along_++ i (p ∷ ps) qs =
      ap (λ l. f i p ∷ l) (along_++ (suc i) ps qs ∙ ap (λ k. along (suc i) ps ++ along k qs) (behind i (length ps)))

  pub in_along : (i k : ℕ) (ps : Linkage) → k < length ps → f (i + k) (get_or ps k unlinked) ∈ along i ps
  in_along i k [] l = absurd (omega arith)
  in_along i zero (p ∷ ps) l = here (ap (λ n. f n p) (add-zero i))
  in_along i (suc k) (p ∷ ps) l =
      there (subst (λ n. f n (get_or ps k unlinked) ∈ along (suc i) ps) (behind i k) (in_along (suc i) k ps (omega arith)))

  pub of_along : (i : ℕ) (ps : Linkage) (b : B) → b ∈ along i ps → (k : ℕ) × (k < length ps) × (b ≡ f (i + k) (get_or ps k unlinked))
  of_along i [] b m = absurd (in_none m)
  of_along i (p ∷ ps) b m = go (in_cases m) (of_along (suc i) ps b)
    where
      go : (b ≡ f i p) ⊎ (b ∈ along (suc i) ps) → (b ∈ along (suc i) ps → (k : ℕ) × (k < length ps) × (b ≡ f (suc i + k) (get_or ps k unlinked)))
          → (k : ℕ) × (k < suc (length ps)) × (b ≡ f (i + k) (get_or (p ∷ ps) k unlinked))
      go (inl e) h = (0, omega arith, e ∙ ap (λ n. f n p) (sym (add-zero i)))
      go (inr m) h = let r = h m in let l = r.1 in (suc r.0, omega arith, r.2 ∙ ap (λ n. f n (get_or ps r.0 unlinked)) (behind i r.0))

-- Rows that rise below n, and choices among the options.
abbrev pub Rows : (n i : ℕ) → Linkage → Type 0
Rows n = Each (λ i p. Rising i n p.after)

abbrev pub Chosen : Sentence → ℕ → Linkage → Type 0
Chosen s = Each (λ i p. p.choice ∈ choices s i)

-- The right sides of places, and what they need on their left.
abbrev pub outs : Sentence → ℕ → Linkage → List Side
outs s = along (λ i p. side i p.after (rights s i p.choice))

abbrev pub needs : Sentence → ℕ → Linkage → List Need
needs s = along (λ i p. (i, lefts s i p.choice))

pub rising_in : {j : ℕ} (p n : ℕ) {xs : List ℕ} → Rising p n xs → j ∈ xs → (p < j) × (j < n)
rising_in p n h (here {x = x} {xs = xs} e) = let a = h.0 in let b = h.1 in omega arith
rising_in p n h (there {x = x} {xs = xs} m) = let r = rising_in x n {xs = xs} h.2 m in let a = h.0 in omega arith

pub distinct_rising : (p n : ℕ) (xs : List ℕ) → Rising p n xs → Distinct xs
distinct_rising p n [] r = tt
distinct_rising p n (x ∷ xs) r = (λ m. let k = rising_in x n r.2 m in omega arith, distinct_rising x n xs r.2)

-- Another bound, which each is below too.
pub rising_below : (p n k : ℕ) (xs : List ℕ) → ((j : ℕ) → j ∈ xs → j < k) → Rising p n xs → Rising p k xs
rising_below p n k [] h r = tt
rising_below p n k (x ∷ xs) h r = (r.0, h x (here refl), rising_below x n k xs (λ j m. h j (there m)) r.2)

pub rising_up : (p n k : ℕ) (xs : List ℕ) → n ≤ k → Rising p n xs → Rising p k xs
rising_up p n k xs h r = rising_below p n k xs (λ j m. let q = rising_in p n r m in omega arith) r

pub rows_up : (n k i : ℕ) (ps : Linkage) → n ≤ k → Rows n i ps → Rows k i ps
rows_up n k i ps h r = each_map (λ i p. Rising i n p.after) (λ i p. Rising i k p.after) (λ i p. rising_up i n k p.after h) i ps r

pub rows_below : (s : Sentence) (n k i : ℕ) (ps : Linkage) → ((a : Side) → a ∈ outs s i ps → (j : ℕ) → j ∈ a.to → j < k) → Rows n i ps → Rows k i ps
rows_below s n k i [] h r = tt
rows_below s n k i (p ∷ ps) h r = (
  rising_below i n k p.after (h (side i p.after (rights s i p.choice)) (here refl)) r.0,
  rows_below s n k (suc i) ps (λ a m. h a (there m)) r.1,
)

-- A row with a last position R more, and without it.
pub rising_snoc : (p R : ℕ) (xs : List ℕ) → p < R → Rising p R xs → Rising p (suc R) (xs ++ (R ∷ []))
rising_snoc p R [] h r = (h, omega arith, tt)
rising_snoc p R (x ∷ xs) h r = let a = r.1 in (r.0, omega arith, rising_snoc x R xs a r.2)

pub rising_front : (p n k : ℕ) (xs : List ℕ) → Rising p n (xs ++ (k ∷ [])) → Rising p k xs × (p < k) × (k < n)
rising_front p n k [] r = (tt, r.0, r.1)
rising_front p n k (x ∷ xs) r =
    let f = rising_front x n k xs r.2 in let a = r.0 in let b = f.1 in ((a, omega arith, f.0), omega arith, f.2)

-- A rising row that has its bound has it last.
pub rising_last : (p R : ℕ) (xs : List ℕ) → Rising p (suc R) xs → R ∈ xs → (ys : List ℕ) × (xs ≡ ys ++ (R ∷ []))
rising_last p R [] r m = absurd (in_none m)
rising_last p R (x ∷ []) r m = ([], in_one m (λ z. x ∷ [] ≡ z ∷ []) refl)
rising_last p R (x ∷ y ∷ xs) r m =
    let tail : R ∈ (y ∷ xs) = elim (in_cases m) [ inl e ↦ (let a = r.2.0 in let b = r.2.1 in absurd (omega arith)) | inr k ↦ k ] in
    let h = rising_last x R (y ∷ xs) r.2 tail in
    (x ∷ h.0, ap (λ l. x ∷ l) h.1)

-- Where the sides of places stand, and how far they reach.
pub outs_span : (s : Sentence) (n i : ℕ) (ps : Linkage) → Rows n i ps → (a : Side) → a ∈ outs s i ps
    → (i ≤ a.pos) × (a.pos < i + length ps) × Rising a.pos n a.to
outs_span s n i [] r a m = absurd (in_none m)
outs_span s n i (p ∷ ps) r a m =
    in_cons m (λ a. (i ≤ a.pos) × (a.pos < i + length (p ∷ ps)) × Rising a.pos n a.to) (omega arith, omega arith, r.0)
    (λ a m. let h = outs_span s n (suc i) ps r.1 a m in let b = h.0 in let c = h.1 in (omega arith, omega arith, h.2))

pub needs_span : (s : Sentence) (i : ℕ) (ps : Linkage) (b : Need) → b ∈ needs s i ps → (i ≤ b.0) × (b.0 < i + length ps)
needs_span s i [] b m = absurd (in_none m)
needs_span s i (p ∷ ps) b m =
    in_cons m (λ (b : Need). (i ≤ b.0) × (b.0 < i + length (p ∷ ps))) (omega arith, omega arith)
    (λ b m. let h = needs_span s (suc i) ps b m in let x = h.0 in let y = h.1 in (omega arith, omega arith))
