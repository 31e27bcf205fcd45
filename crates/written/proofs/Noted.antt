-- Names that are noted one by one, or list by list, are those that were not met, each once.
use Rattle.std.proofs.Common.{◌≡◌, ℕ, ◌+◌, ◌<◌, Bool, true, false, cond, ◌||◌, eqb, ap₂, List, [], ◌∷◌, ◌++◌, map, length, get_or, take, sym, refl, ap, ◌∙◌, append_assoc, append-nil}
use lib.Pointwise.{pointwise}
use Rattle.std.specs.List.{list_any}
use mathlib.Core.List.{map-append}
use Rattle.std.proofs.lemmas.List.{take_more}
use Rattle.lexicon.specs.Lexicon.{Disjunct}
use Rattle.formula.specs.Tokens.{Name}
use Rattle.formula.specs.Bounds.{held}
use Rattle.formula.specs.Shown.{Spelled, spellings}
use Rattle.written.specs.Model.{among, fresh, mentioned}
use Rattle.written.proofs.Letters.{bytes_same}
use Rattle.written.proofs.Words.{same_swap}

-- First some mentions, then others.
pub fresh_append : (known ms ns : List Name) → fresh known (ms ++ ns) ≡ fresh known ms ++ fresh (known ++ fresh known ms) ns
unfolding fresh
fresh_append known [] ns = ap (λ k. fresh k ns) (sym (append-nil known))
fresh_append known (m ∷ ms) ns = go (among m known) (fresh_append known ms ns) (fresh_append (known ++ (m ∷ [])) ms ns)
  where
    go : (b : Bool) → fresh known (ms ++ ns) ≡ fresh known ms ++ fresh (known ++ fresh known ms) ns →
        fresh (known ++ (m ∷ [])) (ms ++ ns) ≡ fresh (known ++ (m ∷ [])) ms ++ fresh ((known ++ (m ∷ [])) ++ fresh (known ++ (m ∷ [])) ms) ns →
        cond b (fresh known (ms ++ ns)) (m ∷ fresh (known ++ (m ∷ [])) (ms ++ ns))
        ≡ cond b (fresh known ms) (m ∷ fresh (known ++ (m ∷ [])) ms)
        ++ fresh (known ++ cond b (fresh known ms) (m ∷ fresh (known ++ (m ∷ [])) ms)) ns
    go true e f = e
    go false e f =
        ap (λ l. m ∷ l) (f ∙ ap (λ k. fresh (known ++ (m ∷ [])) ms ++ fresh k ns) (append_assoc known (m ∷ []) (fresh (known ++ (m ∷ [])) ms)))

-- What was noted of some mentions, and then of others.
pub noted_more : (known was ms ns now after : List Name) → now ≡ was ++ fresh (known ++ was) ms →
    after ≡ now ++ fresh (known ++ now) ns → after ≡ was ++ fresh (known ++ was) (ms ++ ns)
noted_more known was ms ns now after e f =
    f ∙ ap (λ l. l ++ fresh (known ++ l) ns) e
    ∙ append_assoc was (fresh (known ++ was) ms) (fresh (known ++ (was ++ fresh (known ++ was) ms)) ns)
    ∙ ap (λ k. was ++ (fresh (known ++ was) ms ++ fresh k ns)) (sym (append_assoc known was (fresh (known ++ was) ms)))
    ∙ ap (λ l. was ++ l) (sym (fresh_append (known ++ was) ms ns))

pub noted_none : (known was : List Name) → was ≡ was ++ fresh (known ++ was) []
unfolding fresh
noted_none known was = sym (append-nil was)

-- One name is noted unless it was met.
pub noted_one : (known was : List Name) (n : Name) (b : Bool) → among n (known ++ was) ≡ b →
    was ++ fresh (known ++ was) (n ∷ []) ≡ cond b was (was ++ (n ∷ []))
unfolding fresh
noted_one known was n true e = ap (λ t. was ++ cond t [] (n ∷ [])) e ∙ append-nil was
noted_one known was n false e = ap (λ t. was ++ cond t [] (n ∷ [])) e

pub mentioned_push : (ds : List (Disjunct Name)) (d : Disjunct Name) → mentioned (ds ++ (d ∷ [])) ≡ mentioned ds ++ (d.left ++ d.right)
unfolding mentioned
mentioned_push [] d = ap (λ l. d.left ++ l) (append-nil d.right)
mentioned_push (e ∷ ds) d =
    ap (λ l. e.left ++ (e.right ++ l)) (mentioned_push ds d)
    ∙ ap (λ l. e.left ++ l) (sym (append_assoc e.right (mentioned ds) (d.left ++ d.right)))
    ∙ sym (append_assoc e.left (e.right ++ mentioned ds) (d.left ++ d.right))

-- One more of what a table holds.
pub held_more : {X Y : Type 0} (f : X → Y) (xs : List X) (i : ℕ) (d : X) → i < length xs →
    map f (take (i + 1) xs) ≡ map f (take i xs) ++ (f (get_or xs i d) ∷ [])
held_more f xs i d h = ap (map f) (take_more xs i d h) ∙ map-append f (take i xs) (get_or xs i d ∷ [])

-- Names are searched by how they are spelled.
pub spelled_among : (n : Name) (fs : List Spelled) → list_any (λ y. pointwise eqb (held y) n) fs ≡ among n (spellings fs)
unfolding among
spelled_among n [] = refl
spelled_among n (f ∷ fs) =
    ap₂ ◌||◌ (bytes_same (held f) n ∙ same_swap (held f) n) (spelled_among n fs)
