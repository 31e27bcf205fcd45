use Rattle.written.proofs.Cuts.{ClearIn}
use Rattle.written.proofs.pieces.piece_end.Given as goal

abbrev pub invariant-loop-i : goal.invariant-loop-i
invariant-loop-i l = ClearIn l.mark l.bytes l.from l.i
