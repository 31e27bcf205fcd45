use Rattle.std.proofs.Common.{arith}
use Rattle.written.proofs.Told.{no_word}
use Rattle.written.proofs.closed.Written.word.Goals as goal

pub returns-else-word-self : goal.returns-else-word-self
returns-else-word-self c =
    let w = c.args.self.now in
    no_word w.table.now w.used w.words c.args.number (omega arith)
