use Rattle.std.proofs.Common.{◌∙◌, cond, eqb, map, get_or, sym, ap}
use Rattle.linkage.specs.Links.{ends}
use Rattle.filing.proofs.Held.{holds_idle, holds_merged}
use Rattle.filing.proofs.joins.Joins.join.Goals as goal

pub returns-then-old-new-clause-holds : goal.returns-then-old-new-clause-holds
returns-then-old-new-clause-holds c =
    let e = ends c.args.link.now in
    let right = ap (λ ls. get_or ls e.1 0) c.deref.ensures.0 in
    let left = ap (λ ls. get_or ls e.0 0) c.deref-2.ensures.0 in
    λ es h. holds_merged c.args.self.now e es c.requires.left c.requires.right h
    (λ q. c.if-old-new.true (right ∙ q ∙ sym left))
    c.relabel.new.labels c.saturating_sub-self.result
    (c.relabel.ensures ∙ (λ i. map (λ l. cond (eqb l (right i)) (left i) l) (c.deref_mut.ensures.value i)))
    c.saturating_sub-self.ensures

pub returns-else-old-new-clause-holds : goal.returns-else-old-new-clause-holds
returns-else-old-new-clause-holds c =
    let e = ends c.args.link.now in
    let right = ap (λ ls. get_or ls e.1 0) c.deref.ensures.0 in
    let left = ap (λ ls. get_or ls e.0 0) c.deref-2.ensures.0 in
    λ es h. holds_idle c.args.self.now e es c.requires.left c.requires.right h (sym right ∙ c.if-old-new.false ∙ left)
