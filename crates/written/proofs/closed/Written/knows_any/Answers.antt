use Rattle.std.proofs.Common.{◌≡◌, List, is_some, map, sym, ap, ◌∙◌, rules, tests, ℕ}
use Rattle.std.specs.List.{list_any, position}
use Rattle.std.proofs.lemmas.Iterator.Search.{any_from_yields_List}
use Rattle.std.proofs.lemmas.Iterator.Adapters.{position_from-zero}
use Rattle.written.specs.Lines.{pieces}
use Rattle.written.specs.Matching.{same}
use Rattle.written.specs.Model.{Entry, among}
use Rattle.written.specs.Pages.{store}
use Rattle.written.specs.Store.{model}
use Rattle.written.proofs.Found.{placed_among}
use Rattle.written.proofs.Splits.{some_any, yields_pieces}
use Rattle.written.proofs.closed.Written.knows_any.Goals as goal

among_words : (es : List Entry) (w : List ℕ) → is_some (position (λ (e : Entry). same e.word w) es) ≡ among w (map (λ (e : Entry). e.word) es)
among_words es w = ap is_some (position_from-zero (λ (e : Entry). same e.word w) es) ∙ placed_among es w 0

pub returns : goal.returns
returns c =
    let e = c.split.ensures in
    let d = c.args.self.now in
    let es = (model (store d.table.now d.used d.words)).entries in
    let ps = pieces 32 c.args.words.now in
    any_from_yields_List (λ w. is_some (position (λ (x : Entry). same x.word w) es)) _ _ _ c.any.ensures.ran (yields_pieces _ 32 c.args.words.now e.rest e.done e.closure (λ x b q k. search (rules, tests))) (λ x b q k. search (rules, tests))
    ∙ (λ i. list_any (λ w. among_words es w i) ps)
    ∙ sym (some_any (map (λ (x : Entry). x.word) es) ps)
