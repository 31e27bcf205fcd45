-- Disjuncts whose connectors are renamed: functions that agree on the connectors rename alike, and a renaming that undoes
-- another gives the disjuncts back. Also what holds along a list that is counted out.
use Rattle.std.proofs.Common.{◌≡◌, ℕ, zero, suc, ◌+◌, ◌<◌, ◌≤◌, List, [], ◌∷◌, ◌++◌, map, refl, ap₂, arith}
use Rattle.std.specs.List.{AllByRecursion}
use Rattle.std.proofs.ByRecursion.{All-append, All-weaker}
use Rattle.lexicon.specs.Lexicon.{Disjunct}
use Rattle.formula.specs.Tokens.{Name}
use Rattle.written.specs.Model.{renamed, mentioned}
use Rattle.written.specs.Store.{counted}

-- What holds of each connector that a disjunct asks for.
abbrev pub Asks : {A : Type 0} → (A → Type 0) → Disjunct A → Type 0
Asks P d = AllByRecursion P d.left × AllByRecursion P d.right

pub asks_weaker : {A : Type 0} (P Q : A → Type 0) → ((x : A) → P x → Q x) → (ds : List (Disjunct A)) →
    AllByRecursion (Asks P) ds → AllByRecursion (Asks Q) ds
asks_weaker P Q f ds h =
    All-weaker (Asks P) (Asks Q) (λ d p. (All-weaker P Q f d.left p.0, All-weaker P Q f d.right p.1)) ds h

module _ {A B : Type 0} where
  pub map_same : (f g : A → B) (xs : List A) → AllByRecursion (λ x. f x ≡ g x) xs → map f xs ≡ map g xs
  map_same f g [] h = refl
  map_same f g (x ∷ xs) (e, h) = ap₂ ◌∷◌ e (map_same f g xs h)

  pub map_back : (f : A → B) (g : B → A) (xs : List A) → AllByRecursion (λ x. g (f x) ≡ x) xs → map g (map f xs) ≡ xs
  map_back f g [] h = refl
  map_back f g (x ∷ xs) (e, h) = ap₂ ◌∷◌ e (map_back f g xs h)

module _ {A B : Type 0} where
  pub renamed_same : (f g : A → B) (ds : List (Disjunct A)) → AllByRecursion (Asks (λ x. f x ≡ g x)) ds →
      map (renamed f) ds ≡ map (renamed g) ds
  renamed_same f g ds h =
      map_same (renamed f) (renamed g) ds
      (All-weaker (Asks (λ x. f x ≡ g x)) (λ d. renamed f d ≡ renamed g d)
      (λ d p i. record { left = map_same f g d.left p.0 i; right = map_same f g d.right p.1 i }) ds h)

  pub renamed_back : (f : A → B) (g : B → A) (ds : List (Disjunct A)) → AllByRecursion (Asks (λ x. g (f x) ≡ x)) ds →
      map (renamed g) (map (renamed f) ds) ≡ ds
  renamed_back f g ds h =
      map_back (renamed f) (renamed g) ds
      (All-weaker (Asks (λ x. g (f x) ≡ x)) (λ d. renamed g (renamed f d) ≡ d)
      (λ d p i. record { left = map_back f g d.left p.0 i; right = map_back f g d.right p.1 i }) ds h)

module _ {A : Type 0} where
  pub counted_same : (f g : ℕ → A) (k n : ℕ) → ((i : ℕ) → k ≤ i → i < k + n → f i ≡ g i) → counted f k n ≡ counted g k n
  unfolding counted
  counted_same f g k zero h = refl
  counted_same f g k (suc n) h =
      ap₂ ◌∷◌ (h k (omega arith) (omega arith)) (counted_same f g (suc k) n (λ i l m. h i (omega arith) (omega arith)))

  pub all_counted : (P : A → Type 0) (f : ℕ → A) (k n : ℕ) → ((i : ℕ) → k ≤ i → i < k + n → P (f i)) → AllByRecursion P (counted f k n)
  unfolding counted
  all_counted P f k zero h = tt
  all_counted P f k (suc n) h =
      (h k (omega arith) (omega arith), all_counted P f (suc k) n (λ i l m. h i (omega arith) (omega arith)))

-- The names that disjuncts mention, as a list and disjunct by disjunct.
pub all_mentioned : (P : Name → Type 0) (ds : List (Disjunct Name)) → AllByRecursion (Asks P) ds → AllByRecursion P (mentioned ds)
unfolding mentioned
all_mentioned P [] h = tt
all_mentioned P (d ∷ ds) (p, h) =
    All-append P d.left (d.right ++ mentioned ds) p.0 (All-append P d.right (mentioned ds) p.1 (all_mentioned P ds h))

all_parts : {A : Type 0} (P : A → Type 0) (xs ys : List A) → AllByRecursion P (xs ++ ys) → AllByRecursion P xs × AllByRecursion P ys
all_parts P [] ys h = (tt, h)
all_parts P (x ∷ xs) ys (p, h) = let r = all_parts P xs ys h in ((p, r.0), r.1)

pub mentioned_all : (P : Name → Type 0) (ds : List (Disjunct Name)) → AllByRecursion P (mentioned ds) → AllByRecursion (Asks P) ds
unfolding mentioned
mentioned_all P [] h = tt
mentioned_all P (d ∷ ds) h =
    let r = all_parts P d.left (d.right ++ mentioned ds) h in
    let t = all_parts P d.right (mentioned ds) r.1 in
    ((r.0, t.0), mentioned_all P ds t.1)
