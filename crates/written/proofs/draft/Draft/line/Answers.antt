use Rattle.std.proofs.Common.{◌≡◌, Ok, arith, rules}
use Rattle.formula.specs.Meaning.{meaning}
use Rattle.formula.specs.Shown.{disjuncts_of}
use Rattle.written.specs.Drafts.{drafted}
use Rattle.written.specs.Lines.{formula_part}
use Rattle.written.proofs.Judged.{fits}
use Rattle.written.proofs.Numbers.{one_number}
use Rattle.written.proofs.draft.Draft.line.Goals as goal

pub returns-in_err-parts-clause-numbers : goal.returns-in_err-parts-clause-numbers
returns-in_err-parts-clause-numbers c = let d = c.args.self.now in one_number (drafted d) d.whole

pub returns-in_err-disjuncts-clause-numbers : goal.returns-in_err-disjuncts-clause-numbers
returns-in_err-disjuncts-clause-numbers c = let d = c.args.self.now in one_number (drafted d) d.whole

pub enter-requires-clause-fitting : goal.enter-requires-clause-fitting
enter-requires-clause-fitting c =
    let line = c.args.line.now in
    let ds = disjuncts_of c.in_ok-disjuncts.disjuncts in
    let m : meaning (formula_part line) ≡ Ok ds = search rules in
    fits line (λ i. omega (arith, c.type_inv.line i)) ds m

pub returns-clause-numbers : goal.returns-clause-numbers
returns-clause-numbers c = let d = c.enter.new.self in one_number (drafted d) d.whole
