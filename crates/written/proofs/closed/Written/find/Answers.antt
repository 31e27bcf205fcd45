use Rattle.std.proofs.Common.{◌≡◌, unwrap_or, ap, ◌∙◌, rules}
use Rattle.std.proofs.lemmas.Iterator.Adapters.{position_from-zero}
use Rattle.written.specs.Matching.{same}
use Rattle.written.specs.Model.{Entry}
use Rattle.written.specs.Pages.{store}
use Rattle.written.specs.Store.{model}
use Rattle.written.proofs.Found.{find_place}
use Rattle.written.proofs.closed.Written.find.Goals as goal

pub returns : goal.returns
returns c =
    let d = c.args.self.now in
    let w = c.args.word.now in
    let es = (model (store d.table.now d.used d.words)).entries in
    let e : c.map_or.result ≡ unwrap_or c.place.result 65535 = search rules in
    e ∙ ap (λ o. unwrap_or o 65535) (c.place.ensures.value ∙ position_from-zero (λ (x : Entry). same x.word w) es) ∙ find_place es w 0
