use Rattle.std.proofs.Common.{rules, ◌≡◌, ◌<◌, ◌∙◌, ap, sym, arith, length, ◌+◌, drop, length-drop}
use Rattle.std.proofs.lemmas.Result.{err_from_is_err_and}
use Rattle.refusal.specs.declared.fault.LineFault.{LineFault}
use Rattle.refusal.specs.Faults.{fault}
use Rattle.refusal.proofs.Carries.{carries}
use Rattle.formula.specs.Cuts.{ends, token, cut_after, cut_rest, next_cut, fails}
use Rattle.formula.specs.Tokens.{said, spelled}
use Rattle.formula.proofs.Lays.{spelled_some}
use Rattle.formula.proofs.Places.{ended, fault_there, token_there}
use Rattle.formula.proofs.rest.Rest.next.Goals as goal

pub returns-then-is_empty-clause-cuts : goal.returns-then-is_empty-clause-cuts
returns-then-is_empty-clause-cuts c =
    let f = c.behind_spaces-front in
    let none : length f.result.bytes.now ≡ 0 = search rules in
    f.ensures.cuts ∙ ended f.result.place f.result.bytes.now none ∙ ap ends f.ensures.end

pub returns-in_err-token-clause-cuts : goal.returns-in_err-token-clause-cuts
returns-in_err-token-clause-cuts c =
    let f = c.behind_spaces-front in
    let some : 0 < length f.result.bytes.now = search rules in
    let p = err_from_is_err_and c.from_residual.result c.from_residual.ensures.1 in
    let m = carries (fault f.result.place) _ (λ e r h. search rules) c.token.result c.map_err.result c.map_err.ensures.cases in
    f.ensures.cuts ∙ fault_there f.result.place f.result.bytes.now some (f.ensures.stops some) c.token.result c.in_err-token.field-0.0
    c.token.ensures.says (sym c.in_err-token.was ∙ m)
    ∙ ap (λ (e : LineFault). fails e.place e.refusal) (sym p.2) ∙ ap (next_cut c.args.self) (sym p.1)

pub returns-clause-cuts : goal.returns-clause-cuts
returns-clause-cuts c =
    let f = c.behind_spaces-front in
    let some : 0 < length f.result.bytes.now = search rules in
    let m = carries (fault f.result.place) _ (λ e r h. search rules) c.token.result c.map_err.result c.map_err.ensures.cases in
    let r = c.skip-rest in
    let here : cut_rest r.result ≡ cut_after 0 (f.result.place + length (spelled (said c.in_ok-token.token))) (drop (length (spelled (said c.in_ok-token.token))) f.result.bytes.now) =
    ap (λ p. cut_after 0 p r.result.bytes.now) (r.ensures.place ∙ ap (λ k. f.result.place + k) c.len.ensures)
    ∙ ap (cut_after 0 _) (r.ensures.bytes ∙ ap (λ k. drop k f.result.bytes.now) c.len.ensures) in
    f.ensures.cuts ∙ (token_there f.result.place f.result.bytes.now some (f.ensures.stops some) c.token.result c.in_ok-token.token
    c.token.ensures.says (sym c.in_ok-token.was ∙ m)).1
    ∙ ap (token f.result.place (said c.in_ok-token.token)) (sym here)

pub returns-clause-on : goal.returns-clause-on
returns-clause-on c =
    let f = c.behind_spaces-front in
    let some : 0 < length f.result.bytes.now = search rules in
    let l = ap length c.skip-rest.ensures.bytes ∙ length-drop c.len.result f.result.bytes.now in
    omega (arith, l, spelled_some (said c.in_ok-token.token), c.len.ensures, f.ensures.within)
