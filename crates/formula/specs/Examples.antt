-- Worked examples: what some formulas mean, computed from the definitions.
use Rattle.std.specs.Prelude.{◌≡◌, [], ◌∷◌, Ok, Err, codes, refl}
use Rattle.refusal.specs.declared.Refusal.TheVariants.{UnknownMark, OutOfPlace}
use Rattle.lexicon.specs.Lexicon.{free}
use Rattle.formula.specs.Cuts.{cut_after}
use Rattle.refusal.specs.Faults.{fault}
use Rattle.formula.specs.Meaning.{meaning}
use Rattle.formula.specs.Reading.{open_depth, read}
use Rattle.formula.specs.Ways.{product, ways}

-- `{A-} & D- & (O- or S+)`: the first item varies slowest, and braces give their empty way last.
four : meaning (codes "{A-} & D- & (O- or S+)") ≡ Ok (
    record { left = codes "A" ∷ codes "D" ∷ codes "O" ∷ []; right = [] }
    ∷ record { left = codes "A" ∷ codes "D" ∷ []; right = codes "S" ∷ [] }
    ∷ record { left = codes "D" ∷ codes "O" ∷ []; right = [] }
    ∷ record { left = codes "D" ∷ []; right = codes "S" ∷ [] } ∷ [])
unfolding cut_after read open_depth ways product
four = refl

-- An unknown mark is refused where it stands, and so is `&` in a row of `or`.
unknown : meaning (codes "A+ @B+") ≡ Err (fault 3 UnknownMark)
unfolding cut_after read open_depth
unknown = refl

mixed : meaning (codes "A+ or B+ & C+") ≡ Err (fault 9 OutOfPlace)
unfolding cut_after read open_depth
mixed = refl

-- Equal disjuncts are kept once.
once : meaning (codes "{A+} or ()") ≡ Ok (record { left = []; right = codes "A" ∷ [] } ∷ free ∷ [])
unfolding cut_after read open_depth ways product
once = refl
