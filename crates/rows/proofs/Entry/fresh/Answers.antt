use Rattle.std.proofs.Common.{ap, ◌∙◌}
use Rattle.rows.proofs.Calls.{with}
use Rattle.rows.proofs.Members.{empty, of_bits}
use Rattle.rows.specs.Sets.{members}
use Rattle.rows.proofs.Entry.fresh.Goals as goal

pub returns : goal.returns
returns c = ap (with c.args.word) (ap (λ n. members (of_bits n)) c.default.ensures ∙ empty)
