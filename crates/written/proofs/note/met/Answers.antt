use Rattle.std.proofs.Common.{◌≡◌, true, false, ◌||◌, ◌++◌, sym, ap, ap₂, ◌∙◌}
use Rattle.formula.specs.Bounds.{held}
use Rattle.formula.specs.Shown.{spellings}
use Rattle.written.specs.Model.{among, lookup}
use Rattle.written.specs.Store.{known, names_from}
use Rattle.written.proofs.Found.{found_known}
use Rattle.written.proofs.Noted.{spelled_among}
use Rattle.written.proofs.Words.{among_append}
use Rattle.written.proofs.note.met.Goals as goal

pub returns-then-is_some : goal.returns-then-is_some
returns-then-is_some c =
    let n = held c.args.name.now in
    let ks = known c.args.front.now in
    let fs = spellings c.args.fresh.now in
    let e : true ≡ among n ks = c.if-is_some.ensures ∙ ap Rattle.std.proofs.Common.is_some (c.number.ensures ∙ ap (lookup (names_from 0 c.args.front.now)) c.deref.ensures.0) ∙ found_known (names_from 0 c.args.front.now) n in
    c.if-is_some.true ∙ ap (λ b. b || among n fs) e ∙ sym (among_append n ks fs)

pub returns-else-is_some : goal.returns-else-is_some
returns-else-is_some c =
    let n = held c.args.name.now in
    let ks = known c.args.front.now in
    let fs = spellings c.args.fresh.now in
    let e : false ≡ among n ks = c.if-is_some.ensures ∙ ap Rattle.std.proofs.Common.is_some (c.number.ensures ∙ ap (lookup (names_from 0 c.args.front.now)) c.deref.ensures.0) ∙ found_known (names_from 0 c.args.front.now) n in
    c.contains.ensures.value ∙ spelled_among n c.args.fresh.now ∙ ap (λ b. b || among n fs) e ∙ sym (among_append n ks fs)
