use Rattle.std.proofs.Common.{◌≡◌, eqb, count_by, sym, ap, ◌∙◌, rules}
use Rattle.written.proofs.Told.{names_counted}
use Rattle.written.proofs.closed.Written.name_count.Goals as goal

pub returns : goal.returns
returns c =
    let n : c.count.result ≡ count_by (λ x. eqb x 65535) c.front.result.now = search rules in
    n ∙ sym (names_counted c.front.result.now) ∙ ap (λ F. lib.ListN.length (Rattle.written.specs.Store.names_from 0 F)) c.front.ensures.value
