use Rattle.filing.proofs.Judged.{accepted}
use Rattle.filing.proofs.check.judge.Goals as goal

pub returns : goal.returns
returns g c =
    let two = c.in_ok-filing.ensures.ok in
    accepted g.D.Dictionary.meaning c.args.choices c.args.links.now c.in_ok-filing.filing two.0 two.1
    c.in_ok-check.ensures c.in_ok-check-2.ensures c.parts.result c.parts.ensures
