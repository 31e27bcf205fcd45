use Rattle.std.proofs.Common.{sym, ◌∙◌}
use Rattle.filing.proofs.Filed.{filing_uncrossed}
use Rattle.filing.proofs.linked.Filing.is_uncrossed.Goals as goal

pub returns : goal.returns
returns g c = c.none_cross.ensures ∙ sym (filing_uncrossed g.D.Dictionary.meaning c.args.self.now)
