use Rattle.std.proofs.Common.{◌≡◌, ℕ, suc, ◌+◌, ◌-◌, Bool, true, false, cond, ltb, List, length, take, drop, Some, None, Option, sym, refl, ap, ◌∙◌, add-one, arith, rules, tests, eqb}
use Rattle.std.specs.List.{position_or_len}
use Rattle.std.proofs.lemmas.List.{take_rest}
use Rattle.std.proofs.lemmas.Bool.{and_left, and_right, and_from}
use Rattle.std.proofs.lemmas.Iterator.{YieldsList-from_slice}
use Rattle.std.proofs.lemmas.Iterator.Search.{position_from_yields_List}
use Rattle.written.specs.Lines.{pieces, every, good_word, good_line, tab_place, line_words, formula_part}
use Rattle.written.proofs.line.split.Goals as goal

-- A line by what a search for its first tab gave.
module _ (xs : List ℕ) (r : Option ℕ) where
  abbrev Found : Type 0
  Found = r ≡ cond (ltb (position_or_len (λ b. eqb b 9) xs) (length xs)) (Some (position_or_len (λ b. eqb b 9) xs)) None

  no_tab : Found → ((k : ℕ) → r ≡ Some k → ⊥) → good_line xs ≡ false
  no_tab h none = and_left (ltb (tab_place xs) (length xs)) (every good_word (line_words xs)) (behind (ltb (tab_place xs) (length xs)) h)
    where
      behind : (t : Bool) → r ≡ cond t (Some (tab_place xs)) None → t ≡ false
      behind true e = absurd (none (tab_place xs) e)
      behind false e = refl

  a_tab : Found → (k : ℕ) → r ≡ Some k → (tab_place xs ≡ k) × (ltb (tab_place xs) (length xs) ≡ true)
  a_tab h k s = within (ltb (tab_place xs) (length xs)) h
    where
      within : (t : Bool) → r ≡ cond t (Some (tab_place xs)) None → (tab_place xs ≡ k) × (t ≡ true)
      within true e = (cc, refl)
      within false e = let z : ◌≡◌ {A = ℕ} 0 1 = cc in absurd (omega arith)

  module _ (h : Found) (k : ℕ) (s : r ≡ Some k) where
    same_words : every good_word (line_words xs) ≡ every good_word (pieces 32 (take k xs))
    same_words = ap (λ n. every good_word (pieces 32 (take n xs))) (a_tab h k s).0

    bad_words : false ≡ every good_word (pieces 32 (take k xs)) → good_line xs ≡ false
    bad_words b = and_right (ltb (tab_place xs) (length xs)) (every good_word (line_words xs)) (same_words ∙ sym b)

    good : true ≡ every good_word (pieces 32 (take k xs)) → good_line xs ≡ true
    good b = and_from (ltb (tab_place xs) (length xs)) (every good_word (line_words xs)) (a_tab h k s).1 (same_words ∙ sym b)

    rest : take (length xs - (k + 1)) (drop (k + 1) xs) ≡ formula_part xs
    rest = take_rest xs (k + 1) ∙ ap (λ n. drop n xs) (add-one k ∙ ap suc (sym (a_tab h k s).0))

pub returns-in_default : goal.returns-in_default
returns-in_default c =
    let xs = c.args.line.now in
    let h = position_from_yields_List (λ b. eqb b 9) _ _ c.position.result c.position.ensures.ran (YieldsList-from_slice xs cc) (λ x b q k. search (rules, tests)) in
    (no_tab xs c.position.result h (λ k. c.in_default.not-Some k), refl)

pub returns-then-not-good_words : goal.returns-then-not-good_words
returns-then-not-good_words c =
    let xs = c.args.line.now in
    let h = position_from_yields_List (λ b. eqb b 9) _ _ c.position.result c.position.ensures.ran (YieldsList-from_slice xs cc) (λ x b q k. search (rules, tests)) in
    (bad_words xs c.position.result h c.in-Some.tab c.in-Some.is c.if-not-good_words.ensures, refl)

pub returns : goal.returns
returns c =
    let xs = c.args.line.now in
    let h = position_from_yields_List (λ b. eqb b 9) _ _ c.position.result c.position.ensures.ran (YieldsList-from_slice xs cc) (λ x b q k. search (rules, tests)) in
    let r = c.position.result in
    let k = c.in-Some.tab in (
      good xs r h k c.in-Some.is c.if-not-good_words.ensures,
      ap (λ n. take n xs) (sym (a_tab xs r h k c.in-Some.is).0),
      rest xs r h k c.in-Some.is,
    )
