-- The form of a line: words parted by single spaces, a tab, and a formula; and the lines of a text.
use Rattle.std.specs.Prelude.{ℕ, suc, Bool, true, false, cond, not, ◌&&◌, ◌||◌, List, [], ◌∷◌, ◌++◌, length, take, drop, ◌==◌, nat_le, nat_lt}
use Rattle.std.specs.List.{list_any, position_or_len}
use Rattle.written.specs.Model.{among}

abbrev pub onto : ℕ → List (List ℕ) → List (List ℕ)
onto b [] = (b ∷ []) ∷ []
onto b (p ∷ ps) = (b ∷ p) ∷ ps

-- Bytes cut at each mark: doubled, leading and trailing marks give empty pieces.
unfoldable pub pieces : (mark : ℕ) → List ℕ → List (List ℕ)
pieces m [] = [] ∷ []
pieces m (b ∷ bs) = cond (b == m) ([] ∷ pieces m bs) (onto b (pieces m bs))

-- The pieces that begin at a place or behind it. A piece may begin where the bytes end; past that there is none.
unfoldable pub pieces_from : (mark : ℕ) → List ℕ → ℕ → List (List ℕ)
pieces_from m bs a = cond (nat_le a (length bs)) (pieces m (drop a bs)) []

-- A text cut at its line feeds; an empty rest at its end is no line.
unfoldable pub lines : List ℕ → List (List ℕ)
lines [] = []
lines (b ∷ bs) = cond (b == 10) ([] ∷ lines bs) (onto b (lines bs))

-- The first tab ends the words; a later one belongs to the formula.
abbrev pub tab_place : List ℕ → ℕ
tab_place line = position_or_len (λ b. b == 9) line

abbrev pub words_part : List ℕ → List ℕ
words_part line = take (tab_place line) line

abbrev pub formula_part : List ℕ → List ℕ
formula_part line = drop (suc (tab_place line)) line

-- A word has 1 to 24 bytes and no line feed (nor a space or a tab, since it is cut at those).
abbrev pub good_word : List ℕ → Bool
good_word w = nat_lt 0 (length w) && (nat_le (length w) 24 && not (list_any (λ b. b == 10) w))

unfoldable pub every : (List ℕ → Bool) → List (List ℕ) → Bool
every p [] = true
every p (w ∷ ws) = p w && every p ws

abbrev pub line_words : List ℕ → List (List ℕ)
line_words line = pieces 32 (words_part line)

-- A line has a tab, and only good words before it.
abbrev pub good_line : List ℕ → Bool
good_line line = nat_lt (tab_place line) (length line) && every good_word (line_words line)

-- Some of the words is known or stands twice.
unfoldable pub any_known : (known words : List (List ℕ)) → Bool
any_known known [] = false
any_known known (w ∷ ws) = among w known || any_known (known ++ (w ∷ [])) ws

-- Some of the words is known.
unfoldable pub some_among : (known words : List (List ℕ)) → Bool
some_among known [] = false
some_among known (w ∷ ws) = among w known || some_among known ws
