use Rattle.std.proofs.Common.{◌≡◌, ℕ, ◌+◌, ◌*◌, ◌<◌, ◌≤◌, [], ◌∷◌, ◌++◌, map, length, get_or, take, take_all, sym, ap, ◌∙◌, mul-le-mul_right, add-mul, one-mul, zero-mul, arith, rules, length-append}
use lib.ListN.{length-map}
use Rattle.std.proofs.lemmas.List.{map_more}
use Rattle.formula.specs.declared.token.Join.TheVariants.{And}
use Rattle.formula.specs.Bounds.{held}
use Rattle.formula.specs.Shown.{clip, clip_glue, shown, table}
use Rattle.formula.proofs.Tables.{clip_product, crossed, crossed_push, length_product, length_shown, no_fewer}
use Rattle.formula.proofs.make.product.Goals as goal

-- One row more of a table of rows.
more : (i n : ℕ) → (i + 1) * n ≡ i * n + n
more i n = add-mul i 1 n ∙ ap (λ k. i * n + k) (one-mul n)

pub returns-then-len-gt-MOST_WAYS : goal.returns-then-len-gt-MOST_WAYS
returns-then-len-gt-MOST_WAYS c ds es f g =
    let p = length_shown c.args.a.now ds f.1 in
    let q = length_shown c.args.b.now es g.1 in
    let l : length ds * length es ≡ c.len.result * c.len-2.result = cc in
    omega (arith, length_product ds es)

pub loop-way-init : goal.loop-way-init
unfolding crossed
loop-way-init c = (search (zero-mul, rules), search rules)

pub spread-requires : goal.spread-requires
spread-requires c =
    let n = length (held c.args.b.now) in
    let a = ap length c.deref-way-items.ensures.0 in
    let h : (c.loop-way.way-index + 1) * n ≤ length (held c.args.a.now) * n = mul-le-mul_right n (omega arith) in
    let l : length (held c.args.a.now) * n ≡ c.len.result * c.len-2.result = cc in
    omega (arith, more c.loop-way.way-index n)

pub loop-way-preserved : goal.loop-way-preserved
loop-way-preserved c =
    let xs = held c.args.a.now in
    let b = c.args.b.now in
    let i = c.loop-way.way-index in
    let y = c.way-item.result in
    let h : i < length xs = omega (arith, ap length c.deref-way-items.ensures.0) in
    let here : y ≡ get_or xs i y = c.way-item.is ∙ ap (λ l. get_or l i y) c.deref-way-items.ensures.0 in
    let s = c.spread.ensures ∙ ap (λ cs. cs ++ map (clip_glue (shown y)) (table b)) c.loop-way.invariant.1
    ∙ sym (crossed_push (map shown (take i xs)) (shown y) (table b)) in
    let m = length-map (held c.spread.new.listing) shown in
    let n = length-map (held c.loop-way.all) shown in
    let o = length-map (table b) (clip_glue (shown y)) in
    let p = length-map (held b) shown in
    let l = ap length c.spread.ensures ∙ length-append (table c.loop-way.all) (map (clip_glue (shown y)) (table b)) in (
      omega (arith, more i (length (held b))),
      s ∙ ap (λ t. crossed (map shown (take i xs) ++ (shown t ∷ [])) (table b)) here
          ∙ ap (λ cs. crossed cs (table b)) (sym (map_more shown xs i y h)),
    )

pub returns : goal.returns
returns c ds es f g =
    let a = c.args.a.now in
    let b = c.args.b.now in
    let n = no_fewer And ds es f.0 g.0 in
    let e : c.loop-way.way-index ≡ length (held a) = omega (arith, ap length c.deref-way-items.ensures.0) in (
      omega (arith, n.0),
      c.loop-way.invariant.1 ∙ ap (λ cs. crossed (map shown cs) (table b)) (take_all c.loop-way.way-index (held a) (omega arith))
          ∙ ap (λ cs. crossed cs (table b)) f.1 ∙ ap (λ cs. crossed (map clip ds) cs) g.1 ∙ sym (clip_product ds es),
    )
