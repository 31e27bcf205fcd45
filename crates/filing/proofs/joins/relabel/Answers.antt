use Rattle.std.proofs.Common.{◌≡◌, ℕ, ◌+◌, ◌++◌, cond, eqb, map, take, drop, set, get_or, sym, ap, ◌∙◌, arith}
use Rattle.std.proofs.lemmas.Bool.{cond-false, cond-true, eq-eqb, ne_eqb}
use Rattle.std.proofs.lemmas.List.{get_or_default}
use Rattle.std.proofs.lemmas.List.Edits.{map_over_more}
use Rattle.filing.proofs.joins.relabel.Goals as goal
use Rattle.filing.proofs.joins.relabel.Goals.{then-label-old, else-label-old}

pub loop-label-preserved : goal.loop-label-preserved
loop-label-preserved c =
    let ls = c.loop-label.labels in
    let i = c.loop-label.label-index in
    let old = c.args.old in
    let new = c.args.new in
    let f : ℕ → ℕ = λ k. cond (eqb k old) new k in
    let x = get_or ls i 0 in
    let step : set ls i (f x) ≡ map f (take (i + 1) c.args.labels.now) ++ drop (i + 1) c.args.labels.now =
    map_over_more f c.args.labels.now ls i x c.loop-label-test.true c.loop-label.invariant (get_or_default ls i 0 x (omega arith)) in
    elim c.if-label-old.branch [
      | then-label-old w ↦ w.labels-is ∙ ap (set ls i) (sym (cond-true (eqb x old) new x (eq-eqb x old w.if-label-old.true))) ∙ step
      | else-label-old w ↦ w.labels-is ∙ ap (set ls i) (sym (cond-false (eqb x old) new x (ne_eqb x old w.if-label-old.false))) ∙ step
    ]
