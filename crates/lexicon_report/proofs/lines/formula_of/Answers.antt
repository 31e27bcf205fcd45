use Rattle.std.proofs.Common.{◌≡◌, suc, ◌+◌, eqb, length, drop, sym, ap, ◌∙◌, add-one, arith, rules}
use Rattle.std.proofs.lemmas.List.{drop_all, take_rest}
use Rattle.std.proofs.lemmas.List.Sums.{position_or_len_is}
use Rattle.written.specs.Lines.{tab_place}
use Rattle.lexicon_report.proofs.lines.formula_of.Goals as goal

pub returns-in-Some : goal.returns-in-Some
returns-in-Some c =
    let xs = c.args.line.now in
    let n = c.in-Some.tab in
    let e : tab_place xs ≡ n = position_or_len_is (λ b. eqb b 9) xs n 0 (search rules) (λ k l. search rules) (λ l. search rules) in
    take_rest xs (n + 1) ∙ ap (λ k. drop k xs) (add-one n ∙ ap suc (sym e))

pub returns-in-None : goal.returns-in-None
returns-in-None c =
    let xs = c.args.line.now in
    let e : tab_place xs ≡ length xs =
    position_or_len_is (λ b. eqb b 9) xs (length xs) 0 (omega arith) (λ k l. search rules) (λ l. absurd (omega arith)) in
    sym (drop_all (suc (tab_place xs)) xs (omega arith))
