use Rattle.linkage.proofs.Kept.{kept_closed, kept_largest}
use Rattle.linkage.proofs.Taken.{taken_kept}
use Rattle.linkage.proofs.laws.kept_is_largest.Goals as goal

pub returns : goal.returns
returns c = λ s. (kept_closed s, kept_largest s, taken_kept s)
