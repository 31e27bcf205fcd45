-- A line of a text by its number, from what a chain over its lines gave.
use Rattle.std.proofs.Common.{◌≡◌, ℕ, zero, suc, ◌<◌, List, [], ◌∷◌, length, get_or, Some, None, Option, refl, ap, ◌∙◌, arith, unwrap_or}
use Rattle.std.specs.Borrow.{Bor}
use Rattle.std.specs.List.{slice_get}
use Rattle.std.specs.Option.{option_map}
use Rattle.written.specs.Lines.{lines, pieces}

pub no_line : (xs : List ℕ) → length xs ≡ 0 → length (lines xs) ≡ 0
unfolding lines
no_line [] e = refl
no_line (x ∷ xs) e = absurd (omega arith)

got : (ps : List (List ℕ)) (n : ℕ) → unwrap_or (slice_get ps n) [] ≡ get_or ps n []
got [] n = refl
got (p ∷ ps) zero = refl
got (p ∷ ps) (suc n) = got ps n

shown : (r : Option (Bor (List ℕ))) (d : Bor (List ℕ)) → d.now ≡ [] → (unwrap_or r d).now ≡ unwrap_or (option_map (λ x. x.now) r) []
shown None d e = e
shown (Some x) d e = refl

-- Of an empty text there is one empty piece and no line.
piece_line : (xs u : List ℕ) (n : ℕ) → (0 < length xs → pieces 10 u ≡ lines xs) → (xs ≡ [] → u ≡ []) →
    get_or (pieces 10 u) n [] ≡ get_or (lines xs) n []
unfolding pieces lines
piece_line [] u n cut empty = let e : u ≡ [] = empty refl in ap (λ (v : List ℕ). get_or (pieces 10 v) n []) e ∙ one n
  where
    one : (n : ℕ) → get_or {A = List ℕ} ([] ∷ []) n [] ≡ []
    one zero = refl
    one (suc n) = refl
piece_line (x ∷ xs) u n cut empty = ap (λ ps. get_or ps n []) (cut (omega arith))

pub line_told : (xs u : List ℕ) (n : ℕ) (r : Option (Bor (List ℕ))) (d : Bor (List ℕ)) → d.now ≡ [] →
    option_map (λ x. x.now) r ≡ slice_get (pieces 10 u) n → (0 < length xs → pieces 10 u ≡ lines xs) → (xs ≡ [] → u ≡ []) →
    (unwrap_or r d).now ≡ get_or (lines xs) n []
line_told xs u n r d e f cut empty =
    shown r d e ∙ ap (λ o. unwrap_or o []) f ∙ got (pieces 10 u) n ∙ piece_line xs u n cut empty
