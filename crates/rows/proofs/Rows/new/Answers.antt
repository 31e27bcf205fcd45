use Rattle.rows.proofs.Marks.{cleared}
use Rattle.rows.proofs.Rows.new.Goals as goal

pub returns-clause-marks : goal.returns-clause-marks
returns-clause-marks c = cleared c.new-2.ensures
