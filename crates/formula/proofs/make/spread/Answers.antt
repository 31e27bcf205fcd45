use Rattle.std.proofs.Common.{◌≡◌, ◌<◌, ◌≤◌, [], ◌∷◌, ◌++◌, map, length, get_or, take, take_all, sym, ap, ◌∙◌, append_assoc, arith}
use Rattle.std.proofs.lemmas.List.{map_more, map_push}
use Rattle.formula.specs.declared.way.Way.{Way}
use Rattle.formula.specs.Bounds.{held}
use Rattle.formula.specs.Shown.{Clipped, clip_glue, shown, table}
use Rattle.formula.proofs.Tables.{map_both}
use Rattle.formula.proofs.make.spread.Goals as goal

pub loop-other-preserved : goal.loop-other-preserved
loop-other-preserved c =
    let xs = held c.args.others.now in
    let i = c.loop-other.other-index in
    let y = c.other-item.result in
    let old = table c.args.listing.now in
    let f : Way → Clipped = λ o. clip_glue (shown c.args.way.now) (shown o) in
    let h : i < length xs = omega (arith, ap length c.deref-other-items.ensures.0) in
    let here : get_or xs i y ≡ y = ap (λ l. get_or l i y) (sym c.deref-other-items.ensures.0) ∙ sym c.other-item.is in
    let there : shown c.glued.result ≡ f (get_or xs i y) = c.glued.ensures ∙ ap f (sym here) in (
      omega (arith, c.push.ensures.len),
      ap (map shown) c.push.ensures.items ∙ map_push shown (held c.loop-other.listing) c.glued.result
          ∙ ap (λ (s : Clipped). table c.loop-other.listing ++ (s ∷ [])) there
          ∙ ap (λ t. t ++ (f (get_or xs i y) ∷ [])) c.loop-other.invariant.1
          ∙ append_assoc old (map f (take i xs)) (f (get_or xs i y) ∷ [])
          ∙ ap (λ t. old ++ t) (sym (map_more f xs i y h)),
    )

pub returns : goal.returns
returns c =
    let xs = held c.args.others.now in
    let old = table c.args.listing.now in
    let f : Way → Clipped = λ o. clip_glue (shown c.args.way.now) (shown o) in
    let h : length xs ≤ c.loop-other.other-index = omega (arith, ap length c.deref-other-items.ensures.0) in
    c.loop-other.invariant.1 ∙ ap (λ l. old ++ map f l) (take_all c.loop-other.other-index xs h)
    ∙ ap (λ l. old ++ l) (map_both (clip_glue (shown c.args.way.now)) shown xs)
