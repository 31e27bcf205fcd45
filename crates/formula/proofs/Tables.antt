-- Ways that are joined in tables, and what the tables show of them.
use Rattle.std.proofs.Common.{◌≡◌, ◌+◌, ◌*◌, ◌<◌, ◌≤◌, cond, ◌⊎◌, List, [], ◌∷◌, ◌++◌, map, length, Some, None, Option, sym, refl, ap, ◌∙◌, inl, inr, append_assoc, append-nil, suc-mul, mul-le-mul, one-mul, zero-mul, mul-one, arith, length-append}
use mathlib.Core.List.{map-append}
use lib.ListN.{length-map}
use Rattle.std.proofs.lemmas.Bool.{cases_lt, lt-ltb, le-ltb}
use Rattle.formula.specs.declared.token.Join.{Join}
use Rattle.formula.specs.declared.token.Join.TheVariants.{And, Or}
use Rattle.formula.specs.Bounds.{held}
use Rattle.formula.specs.Shown.{Clipped, Listing, Shows, clip, clip_glue, half_glue, short, table, shown}
use Rattle.formula.specs.Tokens.{Name}
use Rattle.formula.specs.Ways.{Way, glue, product, joined}

pub length_shown : (l : Listing) (ds : List Way) → table l ≡ map clip ds → length ds ≡ length (held l)
length_shown l ds e = sym (length-map ds clip) ∙ ap length (sym e) ∙ length-map (held l) shown

pub map_both : {X Y Z : Type 0} (f : Y → Z) (g : X → Y) (xs : List X) → map (λ x. f (g x)) xs ≡ map f (map g xs)
map_both f g [] = refl
map_both f g (x ∷ xs) = ap (λ l. f (g x) ∷ l) (map_both f g xs)

-- A list is shown where it is short enough, and a longer one does not become so.
pub too_long : (l : List Name) → 8 < length l → short l ≡ None
too_long l h = ap (λ b. cond b None (Some l)) (lt-ltb 8 (length l) h)

pub fits : (l : List Name) → length l ≤ 8 → short l ≡ Some l
fits l h = ap (λ b. cond b None (Some l)) (le-ltb 8 (length l) h)

pub short_glue : (l m : List Name) → short (l ++ m) ≡ half_glue (short l) (short m)
short_glue l m = go (cases_lt 8 (length l)) (cases_lt 8 (length m))
  where
    long : 8 < length l + length m → short (l ++ m) ≡ None
    long h = too_long (l ++ m) (simp length-append (omega arith))

    go : (8 < length l) ⊎ (length l ≤ 8) → (8 < length m) ⊎ (length m ≤ 8) → short (l ++ m) ≡ half_glue (short l) (short m)
    go (inl p) q = long (omega arith) ∙ ap (λ h. half_glue h (short m)) (sym (too_long l p))
    go (inr p) (inl q) = long (omega arith) ∙ ap (λ h. half_glue (Some l) h) (sym (too_long m q)) ∙ ap (λ h. half_glue h (short m)) (sym (fits l p))
    go (inr p) (inr q) = ap (λ h. half_glue (Some l) h) (sym (fits m q)) ∙ ap (λ h. half_glue h (short m)) (sym (fits l p))

abbrev of : Option (List Name) → Option (List Name) → Clipped
of l r = record { left = l; right = r }

pub same_clipped : (a b l r : Option (List Name)) → a ≡ l → b ≡ r → of a b ≡ of l r
same_clipped a b l r e f = ap (λ x. of x b) e ∙ ap (λ y. of l y) f

clip_glued : (d e : Way) → clip (glue d e) ≡ clip_glue (clip d) (clip e)
clip_glued d e = same_clipped _ _ _ _ (short_glue d.left e.left) (short_glue d.right e.right)

-- One of each, of what is shown.
unfoldable pub crossed : List Clipped → List Clipped → List Clipped
crossed [] es = []
crossed (d ∷ ds) es = map (clip_glue d) es ++ crossed ds es

pub crossed_push : (ds : List Clipped) (d : Clipped) (es : List Clipped) → crossed (ds ++ (d ∷ [])) es ≡ crossed ds es ++ map (clip_glue d) es
unfolding crossed
crossed_push [] d es = append-nil (map (clip_glue d) es)
crossed_push (c ∷ ds) d es =
    ap (λ vs. map (clip_glue c) es ++ vs) (crossed_push ds d es)
    ∙ sym (append_assoc (map (clip_glue c) es) (crossed ds es) (map (clip_glue d) es))

clip_each : (d : Way) (es : List Way) → map clip (map (glue d) es) ≡ map (clip_glue (clip d)) (map clip es)
clip_each d [] = refl
clip_each d (e ∷ es) = ap (λ c. c ∷ map clip (map (glue d) es)) (clip_glued d e) ∙ ap (λ cs. clip_glue (clip d) (clip e) ∷ cs) (clip_each d es)

pub clip_product : (ds es : List Way) → map clip (product ds es) ≡ crossed (map clip ds) (map clip es)
unfolding product crossed
clip_product [] es = refl
clip_product (d ∷ ds) es =
    map-append clip (map (glue d) es) (product ds es) ∙ ap (λ cs. cs ++ map clip (product ds es)) (clip_each d es)
    ∙ ap (λ cs. map (clip_glue (clip d)) (map clip es) ++ cs) (clip_product ds es)

pub length_product : (ds es : List Way) → length (product ds es) ≡ length ds * length es
unfolding product
length_product [] es = sym (zero-mul (length es))
length_product (d ∷ ds) es =
    let e = length-append (map (glue d) es) (product ds es)
    in let m = length-map es (glue d)
    in let i = length_product ds es
    in let s = suc-mul (length ds) (length es)
    in omega arith

-- Some ways are joined to no fewer.
pub some_way : (w : Option Listing) (ds : List Way) → Shows w ds → 0 < length ds
some_way (Some l) ds h = h.0
some_way None ds h = omega arith

pub no_fewer : (j : Join) (ds es : List Way) → 0 < length ds → 0 < length es →
    (length ds ≤ length (joined j ds es)) × (length es ≤ length (joined j ds es))
no_fewer And ds es p q =
    let e = length_product ds es
    in let a : length ds * 1 ≤ length ds * length es = mul-le-mul (omega arith) q
    in let b : 1 * length es ≤ length ds * length es = mul-le-mul p (omega arith)
    in (omega (arith, mul-one (length ds)), omega (arith, one-mul (length es)))
no_fewer Or ds es p q = let e = length-append ds es in (omega arith, omega arith)
