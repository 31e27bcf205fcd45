-- Ways that are kept once, step by step.
use Rattle.std.proofs.Common.{◌≡◌, Bool, true, false, cond, ◌&&◌, ◌||◌, eqb, List, [], ◌∷◌, map, length, Some, None, Ok, Err, fold, Option, Result, refl, sym, ap, ◌∙◌, ap₂, arith}
use Rattle.std.specs.Cmp.Lexicographic.{pointwise}
use Rattle.std.specs.List.{list_any}
use Rattle.std.proofs.lemmas.Bool.{le-ltb}
use Rattle.std.proofs.lemmas.List.{length-take}
use Rattle.std.specs.Str.{bytes_eq}
use Rattle.refusal.specs.declared.Refusal.{Refusal}
use Rattle.refusal.specs.declared.Refusal.TheVariants.{ManyWays, LongList}
use Rattle.formula.specs.declared.way.Disjunct.{Disjunct as Kept}
use Rattle.formula.specs.declared.way.Way.{Way as Made}
use Rattle.formula.specs.Bounds.{held}
use Rattle.formula.specs.Shown.{Clipped, Listing, Spelled, clip, disjunct_of, shown, spellings, table}
use Rattle.formula.specs.Ways.{Way, fitted, keep, long, same_names, some_long, there}
use Rattle.formula.proofs.Tables.{length_shown}

-- The program's own equality of disjuncts is that of the ways that they show.
abbrev same_spelled : List Spelled → List Spelled → Bool
same_spelled l m = pointwise (λ x y. pointwise eqb (held x) (held y)) l m

spelled_names : (l m : List Spelled) → same_spelled l m ≡ same_names (spellings l) (spellings m)
spelled_names [] [] = refl
spelled_names [] (y ∷ m) = refl
spelled_names (x ∷ l) [] = refl
spelled_names (x ∷ l) (y ∷ m) = ap (λ (b : Bool). bytes_eq (held x) (held y) && b) (spelled_names l m)

abbrev pub same_kept : Kept → Kept → Bool
same_kept a b = same_spelled (held a.left) (held b.left) && same_spelled (held a.right) (held b.right)

pub there_shown : (d : Kept) (ds : List Kept) → list_any (λ e. same_kept e d) ds ≡ there (disjunct_of d) (map disjunct_of ds)
there_shown d [] = refl
there_shown d (e ∷ ds) =
    ap₂ ◌||◌ (ap₂ ◌&&◌ (spelled_names (held e.left) (held d.left)) (spelled_names (held e.right) (held d.right))) (there_shown d ds)

-- What is kept of the ways that are left, after some are kept.
abbrev pub kept_of : List Way → List Way → Result (List Way) Refusal
kept_of out ds = cond (some_long ds) (Err LongList) (Ok (fold keep out ds))

-- A table of few ways is not refused for how many they are: the program's has room for 64.
pub fitted_few : (l : Listing) (ds : List Way) → table l ≡ map clip ds → fitted ds ≡ kept_of [] ds
fitted_few l ds e =
    let n = length_shown l ds e in
    let m = length-take l.len l.cells in
    let few = l.few in
    ap (λ b. cond b (Err ManyWays) (kept_of [] ds)) (le-ltb 64 (length ds) (omega arith))

-- The next way, if it is short enough.
abbrev pub kept_next : Option Way → List Way → List Way → Result (List Way) Refusal
kept_next None out ds = Err LongList
kept_next (Some d) out ds = kept_of (keep out d) ds

kept_first : (out ds : List Way) (d : Way) → kept_of out (d ∷ ds) ≡ kept_next (cond (long d) None (Some d)) out ds
kept_first out ds d = go (long d)
  where
    go : (b : Bool) → cond (b || some_long ds) (Err LongList) (Ok (fold keep (keep out d) ds)) ≡ kept_next (cond b None (Some d)) out ds
    go true = refl
    go false = refl

pub ended : (es : List Way) → map clip es ≡ [] → es ≡ []
ended [] e = refl
ended (d ∷ es) e = let n = ap length e in absurd (omega arith)

pub kept_more : (w : Made) (ws : List Made) (es : List Way) → map shown (w ∷ ws) ≡ map clip es → (out : List Way) (o : Option Way) →
    ((d : Way) → shown w ≡ clip d → o ≡ cond (long d) None (Some d)) →
    (rest : List Way) × (map shown ws ≡ map clip rest) × (kept_of out es ≡ kept_next o out rest)
kept_more w ws [] e out o whole = let n = ap length e in absurd (omega arith)
kept_more w ws (d ∷ es) e out o whole = (
  es,
  ap tail e,
  kept_first out es d ∙ ap (λ (x : Option Way). kept_next x out es) (sym (whole d (ap (head (shown w)) e))),
)
  where
    head : Clipped → List Clipped → Clipped
    head c [] = c
    head c (x ∷ xs) = x

    tail : List Clipped → List Clipped
    tail [] = []
    tail (x ∷ xs) = xs
