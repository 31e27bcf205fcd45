use Rattle.std.proofs.Common.{◌≡◌, true, false, cond, [], ◌∷◌, ◌++◌, map, sym, ap, ◌∙◌}
use Rattle.std.specs.List.{list_any}
use Rattle.std.proofs.lemmas.List.{map_push}
use Rattle.formula.specs.Bounds.{held}
use Rattle.formula.specs.Shown.{disjunct_of, disjuncts_of}
use Rattle.formula.specs.Ways.{there}
use Rattle.formula.proofs.Kept.{same_kept, there_shown}
use Rattle.formula.proofs.keep.keep.Goals as goal

pub returns-then-not-contains-clause-keeps : goal.returns-then-not-contains-clause-keeps
returns-then-not-contains-clause-keeps c =
    let out = c.args.out.now in
    let one = c.args.one.now in
    let e : there (disjunct_of one) (disjuncts_of out) ≡ false =
    sym (there_shown one (held out)) ∙ ap (list_any (λ e. same_kept e one)) (sym c.deref.ensures.0) ∙ sym c.contains.ensures.value
    ∙ c.if-not-contains.true in
    ap (map disjunct_of) c.push.ensures.items ∙ map_push disjunct_of (held out) one
    ∙ ap (λ b. cond b (disjuncts_of out) (disjuncts_of out ++ (disjunct_of one ∷ []))) (sym e)

pub returns-else-not-contains-clause-keeps : goal.returns-else-not-contains-clause-keeps
returns-else-not-contains-clause-keeps c =
    let out = c.args.out.now in
    let one = c.args.one.now in
    let e : there (disjunct_of one) (disjuncts_of out) ≡ true =
    sym (there_shown one (held out)) ∙ ap (list_any (λ e. same_kept e one)) (sym c.deref.ensures.0) ∙ sym c.contains.ensures.value
    ∙ c.if-not-contains.false in
    ap (λ b. cond b (disjuncts_of out) (disjuncts_of out ++ (disjunct_of one ∷ []))) (sym e)
