-- Worked examples: which names match, what a line costs, and what some lines make of an empty book.
use Rattle.std.specs.Prelude.{◌≡◌, true, false, List, [], ◌∷◌, ◌++◌, Ok, Err, codes, refl}
use Rattle.refusal.specs.declared.Refusal.TheVariants.{UnknownMark, WordTaken, TableShort}
use Rattle.formula.specs.Cuts.{cut_after}
use Rattle.formula.specs.Reading.{open_depth, read}
use Rattle.formula.specs.Ways.{ways}
use Rattle.written.specs.Costs.{each_takes}
use Rattle.written.specs.Drafts.{Book, empty_book, lined}
use Rattle.written.specs.Lines.{any_known, every, pieces}
use Rattle.written.specs.Matching.{endings_match, names_match, same}
use Rattle.written.specs.Model.{among, fresh, mentioned}

-- Endings are continued with `*`, which agrees with every letter; capitals are not.
continued : names_match (codes "S") (codes "Sp") ≡ true
unfolding same endings_match
continued = refl

apart : names_match (codes "Sp") (codes "Ss") ≡ false
unfolding same endings_match
apart = refl

starred : names_match (codes "D*u") (codes "Dmu") ≡ true
unfolding same endings_match
starred = refl

unlike : names_match (codes "D*u") (codes "Dmc") ≡ false
unfolding same endings_match
unlike = refl

capitals_differ : names_match (codes "SI") (codes "S") ≡ false
unfolding same endings_match
capitals_differ = refl

-- The line with the words `a` and `b`, a tab and `A+` takes 21 cells, and one fewer is too few.
abbrev both : List Prim.Native.Nat.ℕ
both = codes "a b" ++ (9 ∷ codes "A+")

abbrev book_of_both : Book
book_of_both = record {
  entries = record { word = codes "a"; disjuncts = record { left = []; right = codes "A" ∷ [] } ∷ [] }
      ∷ record { word = codes "b"; disjuncts = record { left = []; right = codes "A" ∷ [] } ∷ [] } ∷ [];
  names = codes "A" ∷ [];
  spent = 21;
}

enough : lined 21 empty_book both ≡ Ok book_of_both
unfolding pieces every cut_after read open_depth ways any_known among same fresh mentioned each_takes
enough = refl

too_few : lined 20 empty_book both ≡ Err (record { place = 0; refusal = TableShort })
unfolding pieces every cut_after read open_depth ways any_known among same fresh mentioned each_takes
too_few = refl

-- A word that is known is refused before the room is looked at, and an unknown mark before the words are.
known : lined 21 book_of_both both ≡ Err (record { place = 0; refusal = WordTaken })
unfolding pieces every cut_after read open_depth ways any_known among same fresh mentioned each_takes
known = refl

unknown : lined 21 book_of_both (codes "a b" ++ (9 ∷ codes "A+ @")) ≡ Err (record { place = 3; refusal = UnknownMark })
unfolding pieces every cut_after read open_depth
unknown = refl
