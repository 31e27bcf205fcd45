use Rattle.std.proofs.Common.{◌≡◌, ◌&&◌, true, false, map, take, drop, sym, ap, ap₂, ◌∙◌}
use lib.Pointwise.{pointwise}
use Rattle.written.specs.Matching.{endings_match}
use Rattle.written.proofs.Letters.{by_parts}
use Rattle.written.proofs.matching.names_match.Goals as goal

pub returns-then-eq : goal.returns-then-eq
returns-then-eq g c =
    let code = g.L.Letter.code in
    let eq = g.L.PartialEq.eq in
    let xs = c.args.a.now in
    let ys = c.args.b.now in
    let m = c.capital_count.result in
    let n = c.capital_count-2.result in
    let h : pointwise eq (take m xs) (take n ys) ≡ true = sym (c.if-eq.ensures ∙ ap₂ (pointwise eq) c.split_at.ensures.front c.split_at-2.ensures.front) in
    c.endings_match.ensures
    ∙ ap₂ (λ a b. endings_match (map code a) (map code b)) c.split_at.ensures.back c.split_at-2.ensures.back
    ∙ ap (λ t. t && endings_match (map code (drop m xs)) (map code (drop n ys))) (sym h)
    ∙ sym (by_parts code eq g.met.L.Letter.told_apart xs ys m n c.capital_count.ensures.value c.capital_count-2.ensures.value)

pub returns-else-eq : goal.returns-else-eq
returns-else-eq g c =
    let code = g.L.Letter.code in
    let eq = g.L.PartialEq.eq in
    let xs = c.args.a.now in
    let ys = c.args.b.now in
    let m = c.capital_count.result in
    let n = c.capital_count-2.result in
    let h : pointwise eq (take m xs) (take n ys) ≡ false = sym (c.if-eq.ensures ∙ ap₂ (pointwise eq) c.split_at.ensures.front c.split_at-2.ensures.front) in
    c.if-eq.false
    ∙ ap (λ t. t && endings_match (map code (drop m xs)) (map code (drop n ys))) (sym h)
    ∙ sym (by_parts code eq g.met.L.Letter.told_apart xs ys m n c.capital_count.ensures.value c.capital_count-2.ensures.value)
