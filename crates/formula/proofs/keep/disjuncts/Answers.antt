use Rattle.std.proofs.Common.{◌≡◌, ◌+◌, List, [], ◌∷◌, map, length, drop, Some, None, Err, sym, ap, ◌∙◌, subst, arith, rules}
use Rattle.std.proofs.lemmas.List.{at_drop_all, drop_more}
use Rattle.std.specs.Option.{option_map}
use Rattle.std.specs.Result.{result_map_both}
use Rattle.refusal.specs.declared.Refusal.TheVariants.{LongList}
use Rattle.formula.specs.Shown.{Shows, disjunct_of, disjuncts_of, shown}
use Rattle.formula.specs.Ways.{Way}
use Rattle.formula.proofs.Kept.{ended, fitted_few, kept_more, kept_next, kept_of}
use Rattle.formula.proofs.keep.disjuncts.Goals as goal

pub loop-way-init : goal.loop-way-init
loop-way-init c =
    let l = c.in_ok-listing.listing.now in
    let few = c.deref-way-items.ensures.1 in (
      few,
      omega (arith, ap length c.new-out.ensures),
      λ ds h.
          let some : c.args.ways.now ≡ Some l = search rules in
          let e = (subst (λ w. Shows w ds) some h).1 in (
            ds,
            ap (map shown) c.deref-way-items.ensures.0 ∙ e,
            fitted_few l ds e
                ∙ ap (λ (out : List Way). kept_of out ds) (sym (ap (map disjunct_of) c.new-out.ensures)),
          ),
    )

pub returns-in_err-one : goal.returns-in_err-one
returns-in_err-one c ds h =
    let xs = c.deref-way-items.result.now in
    let i = c.loop-way.way-index in
    let y = c.way-item.result in
    let (few, less, told) = c.loop-way.invariant in
    let (es, m, k) = told ds h in
    let s : drop i xs ≡ y ∷ drop (i + 1) xs = drop_more xs i y c.loop-way-test.true ∙ ap (λ z. z ∷ drop (i + 1) xs) (sym c.way-item.is) in
    let (rest, n, l) = kept_more y (drop (i + 1) xs) es (ap (map shown) (sym s) ∙ m) (disjuncts_of c.loop-way.out)
    (option_map disjunct_of c.whole.result) c.whole.ensures in
    let none : c.whole.result ≡ None = search rules in
    let out : c.from_residual-in_err-one.result ≡ Err LongList = search rules in
    ap (result_map_both disjuncts_of (λ e. e)) out
    ∙ sym (k ∙ l ∙ ap (λ o. kept_next (option_map disjunct_of o) (disjuncts_of c.loop-way.out) rest) none)

pub keep-requires : goal.keep-requires
keep-requires c = let (few, less, told) = c.loop-way.invariant in omega (arith, c.loop-way-test.true)

pub loop-way-preserved : goal.loop-way-preserved
loop-way-preserved c =
    let xs = c.deref-way-items.result.now in
    let i = c.loop-way.way-index in
    let y = c.way-item.result in
    let (few, less, told) = c.loop-way.invariant in
    let s : drop i xs ≡ y ∷ drop (i + 1) xs = drop_more xs i y c.loop-way-test.true ∙ ap (λ z. z ∷ drop (i + 1) xs) (sym c.way-item.is) in
    let some : c.whole.result ≡ Some c.in_ok-one.one = search rules in (
      few,
      omega (arith, less, c.keep.ensures.longer),
      λ ds h.
          let (es, m, k) = told ds h in
          let (rest, n, l) = kept_more y (drop (i + 1) xs) es (ap (map shown) (sym s) ∙ m) (disjuncts_of c.loop-way.out)
          (option_map disjunct_of c.whole.result) c.whole.ensures in (
            rest,
            n,
            k ∙ l ∙ ap (λ o. kept_next (option_map disjunct_of o) (disjuncts_of c.loop-way.out) rest) some
                ∙ ap (λ (out : List Way). kept_of out rest) (sym c.keep.ensures.keeps),
          ),
    )

pub returns : goal.returns
returns c ds h =
    let xs = c.deref-way-items.result.now in
    let i = c.loop-way.way-index in
    let (few, less, told) = c.loop-way.invariant in
    let (es, m, k) = told ds h in
    let none : es ≡ [] = ended es (sym m ∙ at_drop_all (map shown) xs i (omega (arith, c.loop-way-test.false))) in
    sym (k ∙ ap (kept_of (disjuncts_of c.loop-way.out)) none)
