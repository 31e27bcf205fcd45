use Rattle.linkage.proofs.Joins.{heads_stand, labels_tell}
use Rattle.linkage.proofs.laws.parts_are_classes.Goals as goal

pub returns : goal.returns
returns c = λ es n. (labels_tell es, heads_stand es n)
