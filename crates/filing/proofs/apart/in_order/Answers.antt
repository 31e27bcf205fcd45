use Rattle.std.proofs.Common.{rules}
use Rattle.std.proofs.lemmas.List.Sorted.{answers_always}
use Rattle.linkage.specs.Links.{earlier, ends}
use Rattle.filing.proofs.Chains.{ordered_is}
use Rattle.filing.proofs.apart.in_order.Goals as goal

pub returns : goal.returns
returns c =
    ordered_is c.args.links.now c.is_sorted_by.result
    (c.is_sorted_by.ensures.cases (λ x y. earlier (ends x) (ends y)) (answers_always _ _ _ (λ f a r g h. search rules)))
