use Rattle.std.proofs.Common.{sym}
use Rattle.written.proofs.Found.{length_entries}
use Rattle.written.proofs.draft.Draft.words.Goals as goal

pub returns : goal.returns
returns c =
    let p = c.args.self.now.page
    in sym (length_entries p.table.now p.used p.words)
