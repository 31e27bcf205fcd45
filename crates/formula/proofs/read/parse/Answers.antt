use Rattle.std.proofs.Common.{Ok, Err, sym, refl, ap, ◌∙◌, subst}
use Rattle.std.proofs.lemmas.Result.{err_from_is_err_and}
use Rattle.formula.specs.Cuts.{cut_rest, next_cut}
use Rattle.formula.specs.Progress.{Parsed, Stopped}
use Rattle.formula.specs.Reading.{top, nothing, has, open_depth, read, start}
use Rattle.formula.specs.Tokens.{said}
use Rattle.formula.proofs.Steps.{no_pair, fails_there, ended_top, more_at_top}
use Rattle.formula.proofs.read.parse.Goals as goal

pub returns-in_err-whole : goal.returns-in_err-whole
unfolding open_depth
returns-in_err-whole c =
    let p = err_from_is_err_and c.from_residual.result c.from_residual.ensures.1 in
    subst (Parsed c.args.formula.now) (sym (p.1 ∙ ap Err p.2))
    (ap (read start) (sym c.from.ensures)
    ∙ c.in_err-whole.ensures.reads top (sym c.top.ensures) (no_pair nothing top (λ k. refl) (cut_rest c.from.result)))

pub returns-in_err-next : goal.returns-in_err-next
unfolding open_depth
returns-in_err-next c =
    let p = err_from_is_err_and c.from_residual-in_err-next.result c.from_residual-in_err-next.ensures.1 in
    let e = c.in_err-next.field-0.0 in
    let (f, shows, stops, reads) = c.in_ok-whole.ensures.reads in
    subst (Parsed c.args.formula.now) (sym (p.1 ∙ ap Err p.2))
    (ap (read start) (sym c.from.ensures) ∙ reads top (sym c.top.ensures)
    ∙ fails_there (has f top) (cut_rest c.in_ok-whole.whole.rest) e.place e.refusal c.in_err-next.ensures.cuts)

pub returns-in-None : goal.returns-in-None
unfolding open_depth
returns-in-None c =
    let r = c.in_ok-whole.whole.rest in
    let (f, shows, stops, reads) = c.in_ok-whole.ensures.reads in
    let e = c.in_ok-next.ensures.cuts ∙ ap (λ n. next_cut r (Ok n)) c.in-None.is in
    (f, ap (read start) (sym c.from.ensures) ∙ reads top (sym c.top.ensures) ∙ ended_top f (cut_rest r) _ e, shows)

pub returns-in-Some : goal.returns-in-Some
unfolding open_depth
returns-in-Some c =
    let r = c.in_ok-whole.whole.rest in
    let p = c.in-Some.placed in
    let (f, shows, stops, reads) = c.in_ok-whole.ensures.reads in
    let e = c.in_ok-next.ensures.cuts ∙ ap (λ n. next_cut r (Ok n)) c.in-Some.is in
    ap (read start) (sym c.from.ensures) ∙ reads top (sym c.top.ensures) ∙ ap (read (has f top)) e
    ∙ more_at_top f p.at (said p.token) (cut_rest p.rest) (subst (Stopped f) e stops)
