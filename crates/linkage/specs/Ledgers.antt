-- The ledger of a list of calls: the words of a sentence under work, with the disjuncts that are struck at each.
use Rattle.std.specs.Prelude.{◌≡◌, ℕ, ◌-◌, Bool, true, false, cond, not, ◌&&◌, ◌||◌, List, [], ◌∷◌, ◌++◌, map, length, take, ◌==◌, nat_eq, nat_lt, slice_index_or, slice_set, refl}
use Rattle.lexicon.specs.Lexicon.{Lexicon, free}
use Rattle.linkage.specs.declared.call.Call.{Call}
use Rattle.linkage.specs.declared.call.Call.TheVariants.{Add, Drop, Change, Strike, Allow, Trim, Weigh, Settle}
use Rattle.linkage.specs.Sentences.{Position, Sentence}

-- A position of a ledger: its word, and the set of the struck disjuncts by their numbers.
pub record Row : Type 0 where
  pub word : ℕ
  pub struck : ℕ → Bool

abbrev pub Ledger : Type 0
Ledger = List Row

abbrev pub fresh : ℕ → Row
fresh w = record { word = w; struck = λ k. false }

abbrev pub row_at : Ledger → ℕ → Row
row_at g p = slice_index_or g p (fresh 0)

abbrev pub with_strike : ℕ → Row → Row
with_strike d r = record { word = r.word; struck = λ k. (k == d) || r.struck k }

abbrev pub without_strike : ℕ → Row → Row
without_strike d r = record { word = r.word; struck = λ k. not (k == d) && r.struck k }

-- Whether a position is there, and has a disjunct of a number.
abbrev pub found : Lexicon → Ledger → (position disjunct : ℕ) → Bool
found lex g p d = nat_lt p (length g) && nat_lt d (length (lex.disjuncts (row_at g p).word))

abbrev pub most_words : ℕ
most_words = 40

-- What a call makes of a ledger. A call that finds no room, position or disjunct leaves it as it was, and so do trim, weigh and settle.
abbrev pub step : Lexicon → Ledger → Call → Ledger
step lex g (Add w) = cond (nat_lt (length g) most_words) (g ++ (fresh w ∷ [])) g
step lex g Drop = take (length g - 1) g
step lex g (Change p w) = slice_set g p (fresh w)
step lex g (Strike p d) = cond (found lex g p d) (slice_set g p (with_strike d (row_at g p))) g
step lex g (Allow p d) = cond (found lex g p d) (slice_set g p (without_strike d (row_at g p))) g
step lex g Trim = g
step lex g Weigh = g
step lex g Settle = g

abbrev pub steps : Lexicon → Ledger → List Call → Ledger
steps lex g [] = g
steps lex g (c ∷ cs) = steps lex (step lex g c) cs

-- The ledger of a list of calls on a new folio, from the dictionary and the calls' arguments alone.
abbrev pub ledger : Lexicon → List Call → Ledger
ledger lex cs = steps lex [] cs

-- How the words of a ledger are seen by its linkages.
abbrev pub seen : Lexicon → Row → Position
seen lex r = record { disjuncts = lex.disjuncts r.word; struck = r.struck }

abbrev pub sentence : Lexicon → Ledger → Sentence
sentence lex g = record { matches = lex.matches; positions = map (seen lex) g }

-- Over a dictionary in which each word has two disjuncts: a strike of a third is passed over, and a change clears strikes.
abbrev example : Lexicon
example = record { words = 10; disjuncts = λ w. free ∷ free ∷ []; matches = nat_eq }

example_words : map (λ (r : Row). r.word) (ledger example (Add 5 ∷ Add 7 ∷ Drop ∷ Add 8 ∷ Change 0 6 ∷ Change 2 9 ∷ [])) ≡ 6 ∷ 8 ∷ []
example_words = refl

example_strikes :
    ((row_at (ledger example (Add 5 ∷ Strike 0 1 ∷ Strike 0 2 ∷ [])) 0).struck 1 ≡ true)
    × ((row_at (ledger example (Add 5 ∷ Strike 0 1 ∷ Strike 0 2 ∷ [])) 0).struck 2 ≡ false)
    × ((row_at (ledger example (Add 5 ∷ Strike 0 1 ∷ Change 0 5 ∷ [])) 0).struck 1 ≡ false)
example_strikes = (refl, refl, refl)
