-- What a report reads from a table is what the store holds.
use Rattle.std.proofs.Common.{◌≡◌, ℕ, suc, ◌+◌, ◌≤◌, Bool, true, false, cond, eqb, List, [], ◌∷◌, length, get_or, take, drop, Some, None, unwrap_or, refl, sym, ap, count_by, ◌∙◌, arith}
use Rattle.std.proofs.lemmas.List.{get_or_past}
use Rattle.std.proofs.lemmas.List.Recursion.{is_count_by}
use Rattle.written.specs.Model.{Entry, name_of, no_entry}
use Rattle.written.specs.Pages.{store}
use Rattle.written.specs.Store.{MARK, cell, model, name_at, names_from}
use Rattle.written.proofs.Found.{length_entries}
use Rattle.written.proofs.Names.{name_known}

-- Past the last word there are no bytes.
pub no_word : (T : List ℕ) (used words k : ℕ) → words ≤ k → [] ≡ (get_or (model (store T used words)).entries k no_entry).word
no_word T used words k h =
    let n = length_entries T used words in
    sym (ap (λ (e : Entry). e.word) (get_or_past (model (store T used words)).entries k no_entry (omega arith)))

-- The name that a number stands for, by whether a mark stands at its place.
module _ (F : List ℕ) (k a : ℕ) (e : a ≡ k) where
  pub no_name : eqb (cell F a) MARK ≡ false → [] ≡ unwrap_or (name_of (names_from 0 F) k) []
  no_name f =
      ap (λ b. unwrap_or (cond b (Some (name_at F k)) None) []) (sym f ∙ ap (λ p. eqb (cell F p) MARK) e)
      ∙ sym (ap (λ n. unwrap_or n []) (name_known F k))

  pub the_name : eqb (cell F a) MARK ≡ true → name_at F a ≡ unwrap_or (name_of (names_from 0 F) k) []
  the_name t =
      ap (name_at F) e
      ∙ (ap (λ b. unwrap_or (cond b (Some (name_at F k)) None) []) (sym t ∙ ap (λ p. eqb (cell F p) MARK) e)
      ∙ sym (ap (λ n. unwrap_or n []) (name_known F k)))

-- There are as many names as marks.
names_alike : (q r : ℕ) (F : List ℕ) → length (names_from q F) ≡ length (names_from r F)
unfolding names_from
names_alike q r [] = refl
names_alike q r (c ∷ cs) = by_mark (eqb c MARK) (names_alike (suc q) (suc r) cs)
  where
    by_mark : (t : Bool) → length (names_from (suc q) cs) ≡ length (names_from (suc r) cs) →
        length (cond t (record { name = take (get_or cs 0 0) (drop 1 cs); number = q } ∷ names_from (suc q) cs) (names_from (suc q) cs))
        ≡ length (cond t (record { name = take (get_or cs 0 0) (drop 1 cs); number = r } ∷ names_from (suc r) cs) (names_from (suc r) cs))
    by_mark true h = ap suc h
    by_mark false h = h

pub names_counted : (F : List ℕ) → length (names_from 0 F) ≡ count_by (λ c. eqb c MARK) F
unfolding names_from
names_counted = is_count_by (λ cs. length (names_from 0 cs)) (λ c. eqb c MARK) refl (λ c cs. by_mark c cs (eqb c MARK) (names_alike 1 0 cs))
  where
    by_mark : (c : ℕ) (cs : List ℕ) (t : Bool) → length (names_from 1 cs) ≡ length (names_from 0 cs) →
        length (cond t (record { name = take (get_or cs 0 0) (drop 1 cs); number = 0 } ∷ names_from 1 cs) (names_from 1 cs))
        ≡ cond t (1 + length (names_from 0 cs)) (length (names_from 0 cs))
    by_mark c cs true h = omega arith
    by_mark c cs false h = h
