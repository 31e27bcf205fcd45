-- What is given to the judge: a sentence with choices for its words, and with links the linkage that is filed. Each is told by what
-- the dictionaries of the kind D mean.
use Rattle.std.specs.Prelude.{ℕ}
use Rattle.lexicon.specs.Lexicon.{Disjunct, Lexicon}
use Rattle.linkage.specs.Linkages.{Linkage}
use Rattle.linkage.specs.Sentences as sentences
use Rattle.linkage.specs.Sentences.{Choice, Position, Sentence, asked, size}
use Rattle.rows.specs.Tables.{sentence_of}
use Rattle.filing.specs.declared.choice.Choices.{Choices}
use Rattle.filing.specs.declared.linked.Filing.{Filing}
use Rattle.filing.specs.Filings.{chosen, filed, pairs}

abbrev pub sentence : {D : Type 0} → (meaning : D → Lexicon) → Choices D → Sentence
sentence m c = sentence_of (m c.dictionary.now) c.rows.now

-- A position, what is chosen there, and what it asks for.
abbrev pub position : {D : Type 0} → (meaning : D → Lexicon) → Choices D → (at : ℕ) → Position
position m c i = sentences.position (sentence m c) i

abbrev pub choice : {D : Type 0} → Choices D → (at : ℕ) → Choice
choice c i = chosen c.bytes.now i

abbrev pub asked_at : {D : Type 0} → (meaning : D → Lexicon) → Choices D → (at : ℕ) → Disjunct ℕ
asked_at m c i = asked (position m c i) (choice c i)

abbrev pub linkage : {D : Type 0} → (meaning : D → Lexicon) → Filing D → Linkage
linkage m f = filed (size (sentence m f.choices)) f.choices.bytes.now (pairs f.links.now)
