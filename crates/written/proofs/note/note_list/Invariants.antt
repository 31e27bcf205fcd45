use Rattle.std.proofs.Common.{◌≡◌, ◌+◌, ◌≤◌, ◌++◌, length, take}
use Rattle.formula.specs.Shown.{spellings}
use Rattle.written.specs.Model.{fresh}
use Rattle.written.specs.Store.{fresh_of, known}
use Rattle.written.proofs.note.note_list.Given as goal

abbrev pub invariant-loop-name : goal.invariant-loop-name
invariant-loop-name l =
    (length l.fresh.items ≤ length l.initial.fresh.items + l.name-index)
    × (fresh_of l.fresh ≡ fresh_of l.initial.fresh ++ fresh (known l.front ++ fresh_of l.initial.fresh) (spellings (take l.name-index l.names)))
