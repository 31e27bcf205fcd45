use Rattle.std.proofs.Common.{◌≡◌, ◌+◌, List, ◌++◌, length, drop}
use Rattle.written.specs.Drafts.{book, cells_of, drafted, texted}
use Rattle.written.specs.Lines.{lines}
use Rattle.written.specs.Model.{Named}
use Rattle.written.specs.Store.{model}
use Rattle.written.proofs.draft.Draft.text.Given as goal

abbrev pub invariant-loop-before : goal.invariant-loop-before
invariant-loop-before l =
    (cells_of l.self ≡ cells_of l.initial.self)
    × (texted (cells_of l.initial.self) 1 (book l.initial.self) (lines l.fn.text)
    ≡ texted (cells_of l.self) (length l.yielded + 1) (book l.self) (drop (length l.yielded) (lines l.fn.text)))
    × ((more : List Named) × ((model (drafted l.self)).names ≡ (model (drafted l.initial.self)).names ++ more))
