use Rattle.std.proofs.Common.{◌≡◌, ℕ, ◌+◌, List, ◌++◌, map, length, take, drop, ap, ◌∙◌, arith}
use Rattle.formula.specs.Bounds.{held}
use Rattle.formula.specs.Shown.{disjunct_of, spellings}
use Rattle.written.specs.Model.{number_of}
use Rattle.written.specs.Pages.{Appended}
use Rattle.written.specs.Store.{connectors, names_from, numbered}
use Rattle.written.proofs.Added.{adding_end, adding_step, appended_as, appended_kept, appended_more, connectors_last, connectors_next, connectors_room, length_list}
use Rattle.written.proofs.page.Page.write_connectors.Goals as goal

pub write_list-requires : goal.write_list-requires
write_list-requires c =
    let p = c.args.self.now in
    let room = connectors_room p c.loop-one.self (take c.args.block p.table.now) c.args.disjuncts.now c.loop-one.one-index c.one-item.result
    c.loop-one-test.true c.one-item.is c.loop-one.invariant c.requires.0 in
    let d = ap length c.deref.ensures.0 in
    let u = c.loop-one.invariant.adds in
    (omega arith, omega (arith, c.requires.1))

pub write_list-requires-in-loop-one : goal.write_list-requires-in-loop-one
write_list-requires-in-loop-one c =
    let p = c.args.self.now in
    let room = connectors_room p c.loop-one.self (take c.args.block p.table.now) c.args.disjuncts.now c.loop-one.one-index c.one-item.result
    c.loop-one-test.true c.one-item.is c.loop-one.invariant c.requires.0 in
    let d = ap length c.deref.ensures.0 in
    let e = ap length c.deref-in-loop-one.ensures.0 in
    let u = c.loop-one.invariant.adds in
    let w = c.write_list.ensures in
    let v = length_list (number_of (names_from 0 (take c.args.block c.loop-one.self.table.now))) c.deref.result.now in
    (omega arith, omega (arith, c.requires.1))

pub loop-one-preserved : goal.loop-one-preserved
loop-one-preserved c =
    let p = c.args.self.now in
    let q = c.loop-one.self in
    let q1 = c.write_list.new.self in
    let q2 = c.write_list-in-loop-one.new.self in
    let b = c.args.block in
    let ts = c.args.disjuncts.now in
    let k = c.loop-one.one-index in
    let one = c.one-item.result in
    let F = take b p.table.now in
    let g = number_of (names_from 0 F) in
    let inv = c.loop-one.invariant in
    let room = connectors_room p q F ts k one c.loop-one-test.true c.one-item.is inv c.requires.0 in
    let u = inv.adds in
    let same : take b q.table.now ≡ F = appended_kept p q inv.done b inv.adds c.requires.1 (omega (arith, c.requires.0)) in
    let number : List ℕ → List _ → List ℕ = λ T ns. map (number_of (names_from 0 T)) (spellings ns) in
    let first : Appended q q1 (map g (spellings (held one.left))) =
    appended_as q q1 (number (take b q.table.now) c.deref.result.now) (map g (spellings (held one.left)))
    (ap (λ T. number T c.deref.result.now) same ∙ ap (number F) c.deref.ensures.0) c.write_list.ensures in
    let same1 : take b q1.table.now ≡ F = appended_kept q q1 (map g (spellings (held one.left))) b first (omega (arith, c.requires.1)) (omega arith) ∙ same in
    let second : Appended q1 q2 (map g (spellings (held one.right))) =
    appended_as q1 q2 (number (take b q1.table.now) c.deref-in-loop-one.result.now) (map g (spellings (held one.right)))
    (ap (λ T. number T c.deref-in-loop-one.result.now) same1 ∙ ap (number F) c.deref-in-loop-one.ensures.0) c.write_list-in-loop-one.ensures in
    adding_step p q (connectors (numbered F (map disjunct_of ts))) (connectors (numbered F (drop k (map disjunct_of ts))))
    (map g (spellings (held one.left)) ++ map g (spellings (held one.right))) (connectors (numbered F (drop (k + 1) (map disjunct_of ts)))) inv
    (connectors_next F ts k one c.loop-one-test.true c.one-item.is) q2
    (appended_more q q1 q2 (map g (spellings (held one.left))) (map g (spellings (held one.right))) first second)

pub returns : goal.returns
returns c =
    let ts = c.args.disjuncts.now in
    let k = c.loop-one.one-index in
    let F = take c.args.block c.args.self.now.table.now in
    adding_end c.args.self.now c.loop-one.self (connectors (numbered F (map disjunct_of ts)))
    (connectors (numbered F (drop k (map disjunct_of ts)))) c.loop-one.invariant (connectors_last F ts k c.loop-one-test.false)
