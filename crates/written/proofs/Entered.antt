-- What entering a line's words makes of a book, by the tests that it passes, and of the store that holds the book.
use Rattle.std.proofs.Common.{◌≡◌, ℕ, zero, suc, ◌+◌, ◌<◌, ◌≤◌, Bool, true, false, cond, ◌||◌, ltb, List, [], ◌∷◌, map, length, get_or, Ok, Err, refl, ap, ◌∙◌, arith, length-append, le-ltb, lt-ltb}
use lib.ListN.{length-map}
use Rattle.std.specs.List.{AllByRecursion}
use Rattle.refusal.specs.declared.Refusal.TheVariants.{WordTaken, TableShort}
use Rattle.formula.specs.Ways.{Way}
use Rattle.written.specs.Drafts.{Book, entered, with_words}
use Rattle.refusal.specs.Faults.{of_line}
use Rattle.written.specs.Lines.{any_known}
use Rattle.written.specs.Model.{Entry}

abbrev pub words_of : List Entry → List (List ℕ)
words_of es = map (λ (e : Entry). e.word) es

module _ (lim : ℕ) (b : Book) (ws : List (List ℕ)) (ds : List Way) where
  entry : List ℕ → Entry
  entry w = record { word = w; disjuncts = ds }

  longer : length (with_words b ws ds).entries ≡ length b.entries + length ws
  unfolding entry
  longer = length-append b.entries (map entry ws) ∙ ap (λ n. length b.entries + n) (length-map ws entry)

  pub is_taken : any_known (words_of b.entries) ws ≡ true → entered lim b ws ds ≡ Err (of_line WordTaken)
  is_taken e =
      ap (λ t. cond t (Err (of_line WordTaken))
      (cond (ltb lim (with_words b ws ds).spent || ltb 256 (length (with_words b ws ds).entries)) (Err (of_line TableShort)) (Ok (with_words b ws ds)))) e

  module _ (new : any_known (words_of b.entries) ws ≡ false) where
    fits : entered lim b ws ds
        ≡ cond (ltb lim (with_words b ws ds).spent || ltb 256 (length (with_words b ws ds).entries)) (Err (of_line TableShort)) (Ok (with_words b ws ds))
    fits =
        ap (λ t. cond t (Err (of_line WordTaken))
        (cond (ltb lim (with_words b ws ds).spent || ltb 256 (length (with_words b ws ds).entries)) (Err (of_line TableShort)) (Ok (with_words b ws ds)))) new

    pub is_dear : lim < (with_words b ws ds).spent → entered lim b ws ds ≡ Err (of_line TableShort)
    is_dear h =
        fits ∙ ap (λ t. cond (t || ltb 256 (length (with_words b ws ds).entries)) (Err (of_line TableShort)) (Ok (with_words b ws ds)))
        (lt-ltb lim (with_words b ws ds).spent h)

    pub is_many : 256 < length b.entries + length ws → entered lim b ws ds ≡ Err (of_line TableShort)
    is_many h = fits ∙ either (ltb lim (with_words b ws ds).spent) (lt-ltb 256 (length (with_words b ws ds).entries) (omega (arith, longer)))
      where
        either : (t : Bool) {u : Bool} → u ≡ true → cond (t || u) (Err (of_line TableShort)) (Ok (with_words b ws ds)) ≡ Err (of_line TableShort)
        either true e = refl
        either false e = ap (λ u. cond u (Err (of_line TableShort)) (Ok (with_words b ws ds))) e

    pub is_entered : (with_words b ws ds).spent ≤ lim → length b.entries + length ws ≤ 256 → entered lim b ws ds ≡ Ok (with_words b ws ds)
    is_entered h l =
        let m : length (with_words b ws ds).entries ≤ 256 = omega (arith, longer)
        in fits
        ∙ ap (λ t. cond (t || ltb 256 (length (with_words b ws ds).entries)) (Err (of_line TableShort)) (Ok (with_words b ws ds))) (le-ltb lim (with_words b ws ds).spent h)
        ∙ ap (λ t. cond t (Err (of_line TableShort)) (Ok (with_words b ws ds))) (le-ltb 256 (length (with_words b ws ds).entries) m)

-- What holds of each of some names and of none holds at every place.
pub all_at : {X : Type 0} (P : X → Type 0) (d : X) → P d → (xs : List X) → AllByRecursion P xs → (i : ℕ) → P (get_or xs i d)
all_at P d n [] h i = n
all_at P d n (x ∷ xs) h zero = h.0
all_at P d n (x ∷ xs) h (suc i) = all_at P d n xs h.1 i
