use Rattle.std.proofs.Common.{rules, sym}
use Rattle.std.proofs.lemmas.List.Sums.{prefix_len_is}
use Rattle.formula.proofs.cut.run.Goals as goal

pub returns-clause-value : goal.returns-clause-value
returns-clause-value g c p tells =
    sym (prefix_len_is p c.args.bytes.now c.unwrap_or.result 0 (search rules) (λ k l. search rules) (λ l. search rules))
