use Rattle.std.proofs.Common.{◌≡◌, ◌<◌, None, length, subst, sym, arith, rules}
use Rattle.formula.specs.Shown.{Shows}
use Rattle.formula.specs.Ways.{joined}
use Rattle.formula.proofs.Tables.{no_fewer, some_way}
use Rattle.formula.proofs.make.join.Goals as goal

pub returns-in_err-x : goal.returns-in_err-x
returns-in_err-x c ds es f g =
    let none : c.args.a.now ≡ None = search rules in
    let many : 64 < length ds = subst (λ w. Shows w ds) none f in
    let n = no_fewer c.args.mark ds es (some_way _ ds f) (some_way _ es g) in
    let out : c.from_residual.result ≡ None = search rules in
    let more : 64 < length (joined c.args.mark ds es) = omega (arith, n.0) in
    subst (λ w. Shows w (joined c.args.mark ds es)) (sym out) more

pub returns-in_err-y : goal.returns-in_err-y
returns-in_err-y c ds es f g =
    let none : c.args.b.now ≡ None = search rules in
    let many : 64 < length es = subst (λ w. Shows w es) none g in
    let n = no_fewer c.args.mark ds es (some_way _ ds f) (some_way _ es g) in
    let out : c.from_residual-in_err-y.result ≡ None = search rules in
    let more : 64 < length (joined c.args.mark ds es) = omega (arith, n.1) in
    subst (λ w. Shows w (joined c.args.mark ds es)) (sym out) more
