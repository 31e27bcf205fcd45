use Rattle.std.proofs.Common.{take}
use Rattle.written.specs.Pages.{Appended}
use Rattle.written.proofs.page.Page.push_bytes.Given as goal

abbrev pub invariant-loop-b : goal.invariant-loop-b
invariant-loop-b l = Appended l.initial.self l.self (take l.b-index l.bytes)
