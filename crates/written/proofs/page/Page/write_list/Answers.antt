use Rattle.std.proofs.Common.{◌≡◌, ℕ, ◌+◌, [], ◌∷◌, map, get_or, take, drop, ap, ◌∙◌, arith}
use Rattle.formula.specs.Bounds.{held}
use Rattle.formula.specs.Shown.{spellings}
use Rattle.written.specs.Model.{number_of}
use Rattle.written.specs.Store.{names_from}
use Rattle.written.proofs.Added.{adding_step, appended_as, appended_kept, list_next}
use Rattle.written.proofs.page.Page.write_list.Goals as goal

pub loop-name-preserved : goal.loop-name-preserved
loop-name-preserved c =
    let p = c.args.self.now in
    let q = c.loop-name.self in
    let ns = c.args.names.now in
    let i = c.loop-name.name-index in
    let b = c.args.block in
    let y = c.name-item.result in
    let x = held (get_or ns i y) in
    let here : c.deref.result.now ≡ x = c.deref.ensures.0 ∙ ap held c.name-item.is in
    let g = number_of (names_from 0 (take b p.table.now)) in
    let inv = c.loop-name.invariant in
    let same = appended_kept p q inv.done b inv.adds c.requires.1 (omega (arith, c.requires.0)) in
    let found : c.number_among-found.result ≡ g x = c.number_among-found.ensures ∙ ap (number_of (names_from 0 (take b q.table.now))) here ∙ ap (λ T. number_of (names_from 0 T) x) same in
    adding_step p q (map g (spellings ns)) (map g (drop i (spellings ns))) (g x ∷ []) (map g (drop (i + 1) (spellings ns))) inv
    (list_next g ns i y c.loop-name-test.true) c.push.new.self
    (appended_as q c.push.new.self (c.number_among-found.result ∷ []) (g x ∷ []) (ap (λ (y : ℕ). y ∷ []) found) c.push.ensures)
