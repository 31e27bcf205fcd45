-- A word stands twice among some words just if one of them is among those before it.
use Rattle.std.proofs.Common.{◌≡◌, ℕ, Bool, ◌||◌, eqb, List, [], ◌∷◌, ◌++◌, length, take, refl, sym, ap, ap₂, ◌∙◌, append_assoc}
use lib.Pointwise.{pointwise}
use Rattle.std.proofs.Math.Seq.{take-append_seam}
use Rattle.std.proofs.lemmas.List.{length_push}
use Rattle.std.specs.List.{enumerate_from, list_any}
use Rattle.formula.specs.Tokens.{Name}
use Rattle.written.specs.Lines.{any_known}
use Rattle.written.specs.Model.{among}
use Rattle.written.proofs.Letters.{bytes_same}
use Rattle.written.proofs.Words.{same_swap}

-- Whether a word that has a number is among those before it.
abbrev pub before : List Name → ℕ × Name → Bool
before all p = among p.1 (take p.0 all)

known_before : (first ws : List Name) → any_known first ws ≡ list_any (before (first ++ ws)) (enumerate_from (length first) ws)
unfolding any_known
known_before first [] = refl
known_before first (w ∷ ws) =
    ap₂ ◌||◌ (ap (among w) (sym (take-append_seam first (w ∷ ws))))
    (known_before (first ++ (w ∷ [])) ws
    ∙ ap₂ (λ all n. list_any (before all) (enumerate_from n ws)) (append_assoc first (w ∷ []) ws) (length_push first w))

pub twice : (ws : List Name) → any_known [] ws ≡ list_any (before ws) (enumerate_from 0 ws)
twice ws = known_before [] ws

-- Words are searched by their bytes.
pub bytes_among : (w : Name) (ws : List Name) → list_any (λ v. pointwise eqb v w) ws ≡ among w ws
unfolding among
bytes_among w [] = refl
bytes_among w (v ∷ ws) = ap₂ ◌||◌ (bytes_same v w ∙ same_swap v w) (bytes_among w ws)
