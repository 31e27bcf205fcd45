use Rattle.std.proofs.Common.{◌≡◌, Bool, Decides, sym, subst, ap₂, ◌∙◌}
use Rattle.std.proofs.lemmas.List.{map-id}
use Rattle.written.specs.Matching.{Matching, names_match}
use Rattle.written.proofs.Agreed.{matching_known}
use Rattle.written.proofs.matching.matching.Goals as goal

pub returns-clause-law : goal.returns-clause-law
returns-clause-law c =
    let a = c.args.a.now in
    let b = c.args.b.now in
    let e : c.names_match.result ≡ names_match a b = c.names_match.ensures ∙ ap₂ names_match (map-id a) (map-id b) in
    subst (λ (r : Bool). Decides r (Matching a b)) (sym e) (matching_known a b)
