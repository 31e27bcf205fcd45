use Rattle.std.proofs.Common.{arith}
use Rattle.lexicon_report.proofs.Marked.{connector_end}
use Rattle.lexicon_report.proofs.refuse.mark_end.Goals as goal

pub returns-in-65-to-90 : goal.returns-in-65-to-90
returns-in-65-to-90 c =
    let p = c.piece_end.ensures in
    record {
      value =
          connector_end c.args.formula.now c.args.place c.piece_end.result p.within.0 p.within.1 p.clear p.stops
          (omega arith) (omega arith);
      within = p.within;
    }
