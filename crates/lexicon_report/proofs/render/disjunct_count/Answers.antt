use Rattle.std.proofs.Common.{ℕ, ◌*◌, ◌≤◌, length, refl, arith, rules}
use Rattle.std.specs.List.{range_with_len, sum_by}
use Rattle.std.proofs.lemmas.List.FromFn.{length-range_with_len}
use Rattle.std.proofs.lemmas.List.Sums.{sum_by-le}
use Rattle.std.proofs.lemmas.Iterator.{YieldsList-from_map, YieldsList-from_range}
use Rattle.std.proofs.lemmas.Iterator.Consumers.{YieldsList-at, fits_by_from_yields_list}
use Rattle.written.specs.Kept.{few_disjuncts}
use Rattle.written.specs.Meaning.{written_lexicon}
use Rattle.lexicon_report.proofs.render.disjunct_count.Goals as goal

pub sum-requires-clause-fits : goal.sum-requires-clause-fits
sum-requires-clause-fits c =
    let d = c.args.dictionary.now in
    let n = c.word_count.result in
    let f : ℕ → ℕ = λ w. length ((written_lexicon d).disjuncts w) in
    let few : sum_by f (range_with_len 0 n) ≤ length (range_with_len 0 n) * 64 =
    sum_by-le f 64 (range_with_len 0 n) (λ k x h. few_disjuncts d.table.now d.used d.words ∣ d.whole ∣₁ _) in
    fits_by_from_yields_list f (range_with_len 0 n) c.map.result _
    (YieldsList-from_map _ f (YieldsList-at c.map.ensures.source (YieldsList-from_range 0 n n refl (omega arith))) c.map.ensures.closure (λ x r q k. search rules))
    (omega (arith, few, length-range_with_len 0 n, c.word_count.type_inv))
