use Rattle.std.proofs.Common.{◌≡◌, ℕ, ◌+◌, get_or, sym, ap, ◌∙◌, refl, arith, rules, tests}
use Rattle.std.specs.List.{position_from, range_with_len}
use Rattle.std.proofs.lemmas.Iterator.{YieldsList-from_range}
use Rattle.std.proofs.lemmas.Iterator.Search.{position_from_yields_List}
use Rattle.std.proofs.lemmas.Iterator.Adapters.{position_from-zero}
use Rattle.written.specs.Matching.{same}
use Rattle.written.specs.Model.{Entry, no_entry}
use Rattle.written.specs.Pages.{store}
use Rattle.written.specs.Store.{model}
use Rattle.written.proofs.Found.{length_entries, searched}
use Rattle.written.proofs.closed.Written.place.Goals as goal

from_zero : (j : ℕ) → 0 + j ≡ j
from_zero j = omega arith

pub returns-clause-value : goal.returns-clause-value
returns-clause-value c =
    let d = c.args.self.now in
    let w = c.args.word.now in
    let es = (model (store d.table.now d.used d.words)).entries in
    position_from_yields_List (λ k. same (get_or es k no_entry).word w) _ _ _ c.position.ensures.ran (YieldsList-from_range 0 d.words d.words refl (omega arith)) (λ x b q k. search (rules, tests))
    ∙ position_from-zero (λ k. same (get_or es k no_entry).word w) (range_with_len 0 d.words)
    ∙ ap (λ n. position_from (λ k. same (get_or es k no_entry).word w) 0 (range_with_len 0 n)) (sym (length_entries d.table.now d.used d.words))
    ∙ searched (λ (e : Entry). same e.word w) (λ k. same (get_or es k no_entry).word w) no_entry es 0 (λ j. ap (λ k. same (get_or es k no_entry).word w) (from_zero j))
    ∙ sym (position_from-zero (λ (e : Entry). same e.word w) es)
