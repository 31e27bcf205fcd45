-- What a linkage weighs, and the sum over all linkages of a sentence, in any tally.
use Rattle.std.specs.Prelude.{ℕ, zero, suc, List, [], ◌∷◌}
use Rattle.tally.specs.Semiring.{Semiring}
use Rattle.linkage.specs.Linkages.{Linkage, linkages}
use Rattle.linkage.specs.Parts.{bare_words, null_links}
use Rattle.linkage.specs.Sentences.{Sentence}

module _ {V : Type 0} (t : Semiring V) where
  -- A value joined with itself so many times, starting from single.
  abbrev pub power : V → ℕ → V
  power v zero = t.single
  power v (suc n) = t.both v (power v n)

  -- A gap for each null link, and a bare for each bare word.
  abbrev pub weight : Linkage → V
  weight x = t.both (power t.gap (null_links x)) (power t.bare (bare_words x))

  -- What a function gives, joined over a list, starting from nothing.
  abbrev pub sum : {A : Type 0} → (A → V) → List A → V
  sum f [] = t.nothing
  sum f (x ∷ xs) = t.either (f x) (sum f xs)

  abbrev pub total : Sentence → V
  total s = sum weight (linkages s)
