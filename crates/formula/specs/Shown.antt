-- Which ways the program's own tables show. A list of more than 8 connectors is known only to be too long, and more than 64
-- ways are known only to be too many; both are refused in the end, but only once the whole formula is read.
use Rattle.std.specs.Prelude.{◌≡◌, ℕ, ◌<◌, cond, List, ◌++◌, map, length, Some, None, Option, nat_lt}
use Rattle.std.specs.Option.{option_map}
use Rattle.lexicon.specs.Lexicon.{Disjunct}
use Rattle.formula.specs.declared.bounded.Bounded.{Bounded}
use Rattle.formula.specs.declared.way.Way.{Way}
use Rattle.formula.specs.declared.way.Disjunct.{Disjunct as Kept}
use Rattle.formula.specs.Bounds.{held}
use Rattle.formula.specs.Tokens.{Name}

-- A name is held by its bytes.
abbrev pub Spelled : Type 0
Spelled = Bounded ℕ 8

abbrev pub spellings : List Spelled → List Name
spellings ns = map held ns

abbrev pub Names : Type 0
Names = Bounded Spelled 8

abbrev pub names_of : Names → List Name
names_of l = spellings (held l)

abbrev pub half : Option Names → Option (List Name)
half h = option_map names_of h

-- A way as far as it can be shown.
pub record Clipped : Type 0 where
  pub left : Option (List Name)
  pub right : Option (List Name)

abbrev pub shown : Way → Clipped
shown w = record { left = half w.left; right = half w.right }

abbrev pub short : List Name → Option (List Name)
short l = cond (nat_lt 8 (length l)) None (Some l)

abbrev pub clip : Disjunct Name → Clipped
clip d = record { left = short d.left; right = short d.right }

-- What is shown of two lists that are joined, and of two ways.
abbrev pub half_glue : Option (List Name) → Option (List Name) → Option (List Name)
half_glue (Some l) (Some m) = short (l ++ m)
half_glue (Some l) None = None
half_glue None m = None

abbrev pub clip_glue : Clipped → Clipped → Clipped
clip_glue c d = record { left = half_glue c.left d.left; right = half_glue c.right d.right }

abbrev pub Listing : Type 0
Listing = Bounded Way 64

abbrev pub table : Listing → List Clipped
table l = map shown (held l)

-- Every formula has at least one way.
abbrev pub Shows : Option Listing → List (Disjunct Name) → Type 0
Shows (Some l) ds = (0 < length ds) × (table l ≡ map clip ds)
Shows None ds = 64 < length ds

-- The disjuncts that the program's table of them holds.
abbrev pub disjunct_of : Kept → Disjunct Name
disjunct_of d = record { left = names_of d.left; right = names_of d.right }

abbrev pub disjuncts_of : Bounded Kept 64 → List (Disjunct Name)
disjuncts_of t = map disjunct_of (held t)
