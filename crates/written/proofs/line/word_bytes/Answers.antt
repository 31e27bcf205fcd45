use Rattle.std.proofs.Common.{count_by, rules, not, eqb, ◌≡◌, ◌∙◌}
use Rattle.written.proofs.Splits.{bytes_unmarked}
use Rattle.written.proofs.line.word_bytes.Goals as goal

pub returns : goal.returns
returns c =
    let n : c.count.result ≡ count_by (λ b. not (eqb b 32)) c.args.words.now = search rules in
    n ∙ bytes_unmarked 32 c.args.words.now
