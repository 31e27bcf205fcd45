use Rattle.std.proofs.Common.{◌≡◌, ◌+◌, length, get_or, drop, ap, ◌∙◌, arith}
use Rattle.formula.specs.Bounds.{held}
use Rattle.formula.specs.Shown.{spellings}
use Rattle.written.specs.Store.{all_name_cells, name_cells}
use Rattle.written.proofs.Added.{adding_end, adding_room, adding_step, appended_as, names_last, names_next}
use Rattle.written.proofs.page.Page.write_names.Goals as goal

pub push_name-requires : goal.push_name-requires
push_name-requires c =
    let fs = c.args.fresh.now in
    let i = c.loop-name.name-index in
    let y = c.name-item.result in
    let here : c.deref.result.now ≡ held (get_or fs i y) = c.deref.ensures.0 ∙ ap held c.name-item.is in
    let room = adding_room c.args.self.now c.loop-name.self (all_name_cells (spellings fs)) (all_name_cells (drop i (spellings fs)))
    (name_cells (held (get_or fs i y))) (all_name_cells (drop (i + 1) (spellings fs))) c.loop-name.invariant
    (names_next fs i y c.loop-name-test.true) c.requires
    in omega (arith, ap length here)

pub loop-name-preserved : goal.loop-name-preserved
loop-name-preserved c =
    let fs = c.args.fresh.now in
    let i = c.loop-name.name-index in
    let y = c.name-item.result in
    let here : c.deref.result.now ≡ held (get_or fs i y) = c.deref.ensures.0 ∙ ap held c.name-item.is in
    adding_step c.args.self.now c.loop-name.self (all_name_cells (spellings fs)) (all_name_cells (drop i (spellings fs)))
    (name_cells (held (get_or fs i y))) (all_name_cells (drop (i + 1) (spellings fs))) c.loop-name.invariant
    (names_next fs i y c.loop-name-test.true) c.push_name.new.self
    (appended_as c.loop-name.self c.push_name.new.self (name_cells c.deref.result.now) (name_cells (held (get_or fs i y))) (ap name_cells here) c.push_name.ensures)

pub returns : goal.returns
returns c =
    let fs = c.args.fresh.now in
    let i = c.loop-name.name-index in
    adding_end c.args.self.now c.loop-name.self (all_name_cells (spellings fs)) (all_name_cells (drop i (spellings fs)))
    c.loop-name.invariant (names_last fs i c.loop-name-test.false)
