-- The limits of a dictionary: each keeps what a parser counts and stores within a small number.
use Rattle.std.specs.Prelude.{◌≡◌, ℕ, ◌^◌, ◌<◌, ◌≤◌, [], length, slice_index}
use Rattle.lexicon.specs.declared.side.Side.{Side}
use Rattle.lexicon.specs.Lexicon.{Lexicon, list_of}

-- The number of words, and so each word, fits in 16 bits.
abbrev pub FewWords : Lexicon → Type 0
FewWords lex = lex.words ≤ 65535

-- A number that is no word of the dictionary has no disjunct, so no sentence can use it.
abbrev pub NonePast : Lexicon → Type 0
NonePast lex = (w : ℕ) → lex.words ≤ w → lex.disjuncts w ≡ []

-- A set of a word's disjuncts fits in 64 bits.
abbrev pub FewDisjuncts : Lexicon → Type 0
FewDisjuncts lex = (w : ℕ) → length (lex.disjuncts w) ≤ 64

-- A word links to at most eight others on a side.
abbrev pub ShortLists : Lexicon → Type 0
ShortLists lex = (w d : ℕ) (s : Side) → length (list_of lex w d s) ≤ 8

-- Each connector fits in 16 bits.
abbrev pub SmallConnectors : Lexicon → Type 0
SmallConnectors lex = (w d : ℕ) (s : Side) (i : ℕ) → slice_index (list_of lex w d s) i < 2 ^ 16
