use Rattle.std.proofs.Common.{length, drop}
use Rattle.written.specs.Lines.{pieces}
use Rattle.written.proofs.Worded.{Worded}
use Rattle.written.proofs.page.Page.write_words.Given as goal

abbrev pub invariant-loop-word : goal.invariant-loop-word
invariant-loop-word l = Worded l.initial.self l.self l.block (drop (length l.yielded) (pieces 32 l.words)) (pieces 32 l.words)
