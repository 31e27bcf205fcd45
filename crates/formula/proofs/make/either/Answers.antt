use Rattle.std.proofs.Common.{arith, length-append}
use Rattle.formula.proofs.Tables.{length_shown}
use Rattle.formula.proofs.make.either.Goals as goal

pub returns-then-len-gt-MOST_WAYS : goal.returns-then-len-gt-MOST_WAYS
returns-then-len-gt-MOST_WAYS c ds es f g =
    let p = length_shown c.args.a.now ds f.1
    in let q = length_shown c.args.b.now es g.1
    in omega (arith, length-append ds es, c.len.ensures.value, c.len-2.ensures.value)
