-- What a formula means: its ways, in order, and the disjuncts that are kept of them.
use Rattle.std.specs.Prelude.{◌≡◌, ℕ, ◌<◌, Bool, cond, ◌&&◌, ◌||◌, List, [], ◌∷◌, ◌++◌, map, length, Ok, Err, fold, Result, nat_lt, slice_index_or, refl}
use Rattle.std.specs.List.{ContainsAt as Has, AllByRecursion, list_any}
use Rattle.std.specs.Cmp.Lexicographic.{pointwise}
use Rattle.std.specs.Str.{bytes_eq}
use Rattle.lexicon.specs.Lexicon.{Disjunct, free}
use Rattle.lexicon.specs.declared.side.Side.{Side}
use Rattle.lexicon.specs.declared.side.Side.TheVariants.{Left, Right}
use Rattle.refusal.specs.declared.Refusal.{Refusal}
use Rattle.refusal.specs.declared.Refusal.TheVariants.{ManyWays, LongList}
use Rattle.formula.specs.declared.token.Join.{Join}
use Rattle.formula.specs.declared.token.Join.TheVariants.{And, Or}
use Rattle.formula.specs.declared.token.Bracket.{Bracket}
use Rattle.formula.specs.declared.token.Bracket.TheVariants.{Round, Brace}
use Rattle.formula.specs.Tokens.{Name}
use Rattle.formula.specs.Formulas.{Formula, one, row, Item, named, empty, within, Items, first, then}

-- A way asks for connectors by name.
abbrev pub Way : Type 0
Way = Disjunct Name

abbrev pub asking : Side → Name → Way
asking Left n = record { left = n ∷ []; right = [] }
asking Right n = record { left = []; right = n ∷ [] }

-- Both ways at once: their lists joined in order.
abbrev pub glue : {C : Type 0} → Disjunct C → Disjunct C → Disjunct C
glue d e = record { left = d.left ++ e.left; right = d.right ++ e.right }

-- One of each, the first varying slowest.
unfoldable pub product : {C : Type 0} → List (Disjunct C) → List (Disjunct C) → List (Disjunct C)
product [] es = []
product (d ∷ ds) es = map (glue d) es ++ product ds es

abbrev pub joined : {C : Type 0} → Join → List (Disjunct C) → List (Disjunct C) → List (Disjunct C)
joined And ds es = product ds es
joined Or ds es = ds ++ es

-- Round brackets only group; braces add the empty way, last.
abbrev pub bracketed : {C : Type 0} → Bracket → List (Disjunct C) → List (Disjunct C)
bracketed Round ds = ds
bracketed Brace ds = ds ++ (free ∷ [])

unfoldable mutual
  pub ways : Formula → List Way
  ways (one i) = item_ways i
  ways (row j is i) = joined j (row_ways j is) (item_ways i)

  pub item_ways : Item → List Way
  item_ways (named s n) = asking s n ∷ []
  item_ways empty = free ∷ []
  item_ways (within b f) = bracketed b (ways f)

  pub row_ways : Join → Items → List Way
  row_ways j (first i) = item_ways i
  row_ways j (then is i) = joined j (row_ways j is) (item_ways i)

-- Two ways are the same where their lists have the same names in the same order.
abbrev pub same_names : List Name → List Name → Bool
same_names l m = pointwise bytes_eq l m

abbrev pub same_way : Way → Way → Bool
same_way d e = same_names d.left e.left && same_names d.right e.right

abbrev pub there : Way → List Way → Bool
there d es = list_any (λ e. same_way e d) es

-- A way is kept unless an equal one is there already.
abbrev pub keep : List Way → Way → List Way
keep out d = cond (there d out) out (out ++ (d ∷ []))

-- Each way in turn: of equal ones only the first is kept.
abbrev pub kept : List Way → List Way
kept ds = fold keep [] ds

kept_once : kept (asking Left (65 ∷ []) ∷ free ∷ asking Left (65 ∷ []) ∷ asking Right (65 ∷ []) ∷ []) ≡
    asking Left (65 ∷ []) ∷ free ∷ asking Right (65 ∷ []) ∷ []
kept_once = refl

-- No two that are kept are equal, each of the ways is among them, and each of them is one of the ways. What is kept of
-- some ways begins what is kept of them and more, so each stands in order of its first place.
abbrev pub KeptOnce : List Way → Type 0
KeptOnce ds =
    ((i j : ℕ) → i < length (kept ds) → j < length (kept ds) → slice_index_or (kept ds) i free ≡ slice_index_or (kept ds) j free → i ≡ j)
    × (AllByRecursion (Has (kept ds)) ds) × (AllByRecursion (Has ds) (kept ds))
    × ((es : List Way) → (more : List Way) × (kept (ds ++ es) ≡ kept ds ++ more))

-- A way with a list of more than 8 connectors.
abbrev pub long : Way → Bool
long d = nat_lt 8 (length d.left) || nat_lt 8 (length d.right)

abbrev pub some_long : List Way → Bool
some_long ds = list_any long ds

-- The disjuncts of a formula that has some ways, which are counted before equal ones are left out.
abbrev pub fitted : List Way → Result (List Way) Refusal
fitted ds = cond (nat_lt 64 (length ds)) (Err ManyWays) (cond (some_long ds) (Err LongList) (Ok (kept ds)))
