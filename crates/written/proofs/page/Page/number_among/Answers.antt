use Rattle.std.proofs.Common.{◌≡◌, ◌<◌, ◌^◌, take, unwrap_or, ap, ◌∙◌, arith}
use Rattle.std.proofs.lemmas.List.{length-take-le}
use Rattle.written.specs.Kept.{number_small}
use Rattle.written.specs.Model.{number_of}
use Rattle.written.specs.Store.{names_from}
use Rattle.written.proofs.Added.{value_number}
use Rattle.written.proofs.page.Page.number_among.Goals as goal

pub overflow_cast-result : goal.overflow_cast-result
overflow_cast-result c =
    let F = take c.args.block c.args.self.now.table.now in
    let n = c.args.name.now in
    let e : c.unwrap_or.result ≡ number_of (names_from 0 F) n =
    c.unwrap_or.ensures ∙ (ap (λ o. unwrap_or o 0) c.number.ensures ∙ value_number (names_from 0 F) n) in
    let l = length-take-le c.args.block c.args.self.now.table.now in
    let k : number_of (names_from 0 F) n < 2 ^ 16 = number_small 0 F n (omega arith) in
    omega arith

pub returns : goal.returns
returns c =
    c.unwrap_or.ensures
    ∙ (ap (λ o. unwrap_or o 0) c.number.ensures
    ∙ value_number (names_from 0 (take c.args.block c.args.self.now.table.now)) c.args.name.now)
