use Rattle.std.proofs.Common.{sym}
use Rattle.written.proofs.Found.{length_entries}
use Rattle.written.proofs.closed.ask.WrittenDictionary.words.Goals as goal

pub returns : goal.returns
returns c = let w = c.args.self.now in sym (length_entries w.table.now w.used w.words)
