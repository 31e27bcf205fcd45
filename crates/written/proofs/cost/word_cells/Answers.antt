use Rattle.std.proofs.Common.{arith}
use Rattle.written.specs.Lines.{pieces}
use Rattle.written.proofs.Costs.{takes_split}
use Rattle.written.proofs.cost.word_cells.Goals as goal

pub overflow_mul-result : goal.overflow_mul-result
overflow_mul-result c = omega (arith, takes_split 4 (pieces 32 c.args.words.now), c.requires, c.word_count.ensures)

pub overflow_add-result : goal.overflow_add-result
overflow_add-result c = omega (arith, takes_split 4 (pieces 32 c.args.words.now), c.requires, c.word_count.ensures, c.word_bytes.ensures)

pub returns : goal.returns
returns c =
    let e = takes_split 4 (pieces 32 c.args.words.now) in
    record {
      value = omega (arith, c.word_count.ensures, c.word_bytes.ensures);
      bound = omega (arith, c.word_count.ensures, c.word_bytes.ensures, c.requires);
    }
