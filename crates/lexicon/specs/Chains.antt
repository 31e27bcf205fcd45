-- The dictionary of a chain, in which a set of words says what may follow each word.
use Rattle.std.specs.Prelude.{◌≡◌, ℕ, ◌/◌, ◌%◌, ◌^◌, ◌≤◌, min, Bool, true, false, cond, ◌&&◌, List, [], ◌∷◌, length, Ok, Err, Result, ◌==◌, nat_lt, slice_index, refl}
use Rattle.refusal.specs.declared.Refusal.{Refusal}
use Rattle.refusal.specs.declared.Refusal.TheVariants.{ChainSize}
use Rattle.lexicon.specs.declared.chain.Chain.{Chain}
use Rattle.lexicon.specs.declared.side.Side.TheVariants.{Right}
use Rattle.lexicon.specs.Lexicon.{Lexicon, Disjunct, free, list_of}

-- A set of words is a number: word b is in it where the bit of value 2 ^ b is 1.
abbrev pub has : (words b : ℕ) → Bool
has words b = words / 2 ^ b % 2 == 1

-- 5 is the set of the words 0 and 2.
example_has : (has 5 0 ≡ true) × (has 5 1 ≡ false) × (has 5 2 ≡ true)
example_has = (refl, refl, refl)

-- A word of a chain can stand alone, begin a chain, end one or stand within.
abbrev pub four : ℕ → List (Disjunct ℕ)
four a =
    free
    ∷ record { left = []; right = a ∷ [] }
    ∷ record { left = a ∷ []; right = [] }
    ∷ record { left = a ∷ []; right = a ∷ [] }
    ∷ []

-- The number of words. A set has no bit for a word past the 64th, so what stands there means nothing; no `Chain` is longer.
abbrev pub size : List ℕ → ℕ
size follow = min (length follow) 64

-- A connector is the word that it belongs to, and on the right it matches the words that may follow.
abbrev pub chain : List ℕ → Lexicon
chain follow = record {
  words = size follow;
  disjuncts = λ a. cond (nat_lt a (size follow)) (four a) [];
  matches = λ a b. nat_lt a (size follow) && (nat_lt b (size follow) && has (slice_index follow a) b);
}

-- Where the word 1 alone may follow the word 0, and none may follow 1.
example_matches : ((chain (2 ∷ 0 ∷ [])).matches 0 1 ≡ true) × ((chain (2 ∷ 0 ∷ [])).matches 1 0 ≡ false)
example_matches = (refl, refl)

-- By its second disjunct word 2 begins a chain; and there is no word 3 among three.
example_disjuncts : (list_of (chain (0 ∷ 0 ∷ 0 ∷ [])) 2 1 Right ≡ 2 ∷ []) × ((chain (0 ∷ 0 ∷ 0 ∷ [])).disjuncts 3 ≡ [])
example_disjuncts = (refl, refl)

abbrev pub chain_of : Chain → Lexicon
chain_of c = chain c.follow.now

-- A set has 64 bits, so a chain has at most 64 words; and it has one at least.
abbrev pub RightSize : List ℕ → Type 0
RightSize follow = (1 ≤ length follow) × (length follow ≤ 64)

-- The answer to whoever makes a chain: the chain that these sets mean, or the one refusal.
abbrev pub Chained : List ℕ → Result Chain Refusal → Type 0
Chained follow (Ok c) = RightSize follow × (chain_of c ≡ chain follow)
Chained follow (Err e) = (RightSize follow → ⊥) × (e ≡ ChainSize)
