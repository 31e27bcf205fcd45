-- The words of a line: which of them stand twice or are known, how many bytes they have, and that they are bytes.
use Rattle.std.proofs.Common.{◌≡◌, ℕ, zero, suc, ◌<◌, Bool, true, false, ◌&&◌, ◌||◌, eqb, List, [], ◌∷◌, ◌++◌, get_or, sym, refl, ap, ◌∙◌, ap₂, ⊎_elim, append_assoc, append-nil, arith}
use mathlib.Core.Bool.{or-false, or_assoc}
use Rattle.std.specs.List.{AllByRecursion}
use Rattle.std.proofs.ByRecursion.{All-from_get_or}
use Rattle.std.proofs.lemmas.Bool.{eqb-true, eqb-false, eq-eqb, ne_eqb, cond_both, cases_Bool}
use Rattle.written.specs.Lines.{onto, pieces, any_known, some_among}
use Rattle.written.specs.Matching.{same}
use Rattle.written.specs.Model.{among}

or_swap : (a b c d : Bool) → ((a || b) || (c || d)) ≡ ((a || c) || (b || d))
or_swap true b c d = refl
or_swap false true true d = refl
or_swap false true false d = refl
or_swap false false c d = refl

pub among_append : (n : List ℕ) (xs ys : List (List ℕ)) → among n (xs ++ ys) ≡ (among n xs || among n ys)
unfolding among
among_append n [] ys = refl
among_append n (x ∷ xs) ys =
    ap (◌||◌ (same n x)) (among_append n xs ys) ∙ sym (or_assoc (same n x) (among n xs) (among n ys))

known_parts : (words xs ys : List (List ℕ)) → any_known (xs ++ ys) words ≡ (some_among xs words || any_known ys words)
unfolding any_known some_among
known_parts [] xs ys = refl
known_parts (w ∷ ws) xs ys =
    ap₂ ◌||◌ (among_append w xs ys)
    (ap (λ ks. any_known ks ws) (append_assoc xs ys (w ∷ [])) ∙ known_parts ws xs (ys ++ (w ∷ [])))
    ∙ or_swap (among w xs) (among w ys) (some_among xs ws) (any_known (ys ++ (w ∷ [])) ws)

-- Words that are known or stand twice: some are known, or some stand twice.
pub any_known_split : (known words : List (List ℕ)) →
    any_known known words ≡ (some_among known words || any_known [] words)
any_known_split known words = ap (λ ks. any_known ks words) (sym (append-nil known)) ∙ known_parts words known []

eqb_swap : (x y : ℕ) → eqb x y ≡ eqb y x
eqb_swap x y =
    ⊎_elim (λ e. e ∙ sym (eq-eqb y x (sym (eqb-true x y e)))) (λ e. e ∙ sym (ne_eqb y x (λ q. eqb-false x y e (sym q))))
    (cases_Bool (eqb x y))

pub same_swap : (xs ys : List ℕ) → same xs ys ≡ same ys xs
unfolding same
same_swap [] [] = refl
same_swap [] (y ∷ ys) = refl
same_swap (x ∷ xs) [] = refl
same_swap (x ∷ xs) (y ∷ ys) = ap₂ ◌&&◌ (eqb_swap x y) (same_swap xs ys)

some_one : (w : List ℕ) (ws : List (List ℕ)) → some_among (w ∷ []) ws ≡ among w ws
unfolding some_among among
some_one w [] = refl
some_one w (v ∷ ws) = ap₂ ◌||◌ (or-false (same v w) ∙ same_swap v w) (some_one w ws)

-- A word stands twice: the first is among the others, or one of the others stands twice.
pub first_again : (w : List ℕ) (ws : List (List ℕ)) → any_known [] (w ∷ ws) ≡ (among w ws || any_known [] ws)
unfolding any_known among
first_again w ws = any_known_split (w ∷ []) ws ∙ ap (λ b. b || any_known [] ws) (some_one w ws)

-- What holds of all bytes holds of those of the pieces.
all_onto : (P : ℕ → Type 0) (b : ℕ) (ps : List (List ℕ)) → P b → AllByRecursion (AllByRecursion P) ps → AllByRecursion (AllByRecursion P) (onto b ps)
all_onto P b [] h hs = ((h, tt), tt)
all_onto P b (p ∷ ps) h (hp, hs) = ((h, hp), hs)

pub all_pieces : (P : ℕ → Type 0) (m : ℕ) (xs : List ℕ) → AllByRecursion P xs → AllByRecursion (AllByRecursion P) (pieces m xs)
unfolding pieces
all_pieces P m [] h = (tt, tt)
all_pieces P m (x ∷ xs) (h, hs) =
    cond_both (eqb x m) ([] ∷ pieces m xs) (onto x (pieces m xs)) (AllByRecursion (AllByRecursion P)) (λ _. (tt, all_pieces P m xs hs))
    (λ _. all_onto P x (pieces m xs) h (all_pieces P m xs hs))

below_256 : (xs : List ℕ) → AllByRecursion (λ b. b < 256) xs → (j : ℕ) → get_or xs j 0 < 256
below_256 [] h j = omega arith
below_256 (x ∷ xs) (h, hs) zero = h
below_256 (x ∷ xs) (h, hs) (suc j) = below_256 xs hs j

bytes_at : (ps : List (List ℕ)) → AllByRecursion (AllByRecursion (λ b. b < 256)) ps → (w j : ℕ) → get_or (get_or ps w []) j 0 < 256
bytes_at [] h w j = omega arith
bytes_at (p ∷ ps) (h, hs) zero j = below_256 p h j
bytes_at (p ∷ ps) (h, hs) (suc w) j = bytes_at ps hs w j

-- Pieces of bytes are of bytes.
pub pieces_bytes : (m : ℕ) (xs : List ℕ) → ((i : ℕ) → get_or xs i 0 < 256) → (w j : ℕ) → get_or (get_or (pieces m xs) w []) j 0 < 256
pieces_bytes m xs h =
    bytes_at (pieces m xs) (all_pieces (λ b. b < 256) m xs (All-from_get_or (λ b. b < 256) xs 0 (λ i _. h i)))
