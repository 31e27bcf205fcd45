use Rattle.std.proofs.Common.{arith}
use Rattle.written.specs.Lines.{pieces}
use Rattle.formula.specs.Shown.{disjuncts_of}
use Rattle.written.proofs.Costs.{mentioned_few, takes_split, takes_few}
use Rattle.written.proofs.cost.cost.Goals as goal

pub word_cells-requires : goal.word_cells-requires
word_cells-requires c =
    let ws = pieces 32 c.args.words.now in
    omega (arith, takes_split 4 ws, takes_few ws c.requires.words.0, c.requires.words.1)

pub connector_count-requires : goal.connector_count-requires
connector_count-requires c =
    let fit = c.requires.fitting in
    omega (arith, mentioned_few (disjuncts_of c.args.disjuncts.now) fit.lists, fit.few)
