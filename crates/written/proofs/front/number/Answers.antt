use Rattle.std.proofs.Common.{◌≡◌, ℕ, ◌+◌, ◌&&◌, eqb, length, ◌∙◌, arith, rules, tests}
use Rattle.std.specs.List.{range_with_len}
use Rattle.std.proofs.lemmas.Iterator.{YieldsList-from_range}
use Rattle.std.proofs.lemmas.Iterator.Search.{position_from_yields_List}
use Rattle.std.proofs.lemmas.Iterator.Adapters.{position_from-zero}
use Rattle.written.specs.Matching.{same}
use Rattle.written.specs.Store.{cell, name_at}
use Rattle.written.proofs.Found.{name_searched}
use Rattle.written.proofs.front.number.Goals as goal

from_zero : (n : ℕ) → 0 + n ≡ n
from_zero n = omega arith

pub returns : goal.returns
returns c =
    let F = c.args.front.now in
    let n = c.args.name.now in
    position_from_yields_List (λ q. eqb (cell F q) 65535 && same (name_at F q) n) _ _ _ c.position.ensures.ran (YieldsList-from_range 0 (length F) (length F) (cc) (omega arith)) (λ x b q k. search (rules, tests))
    ∙ position_from-zero (λ q. eqb (cell F q) 65535 && same (name_at F q) n) (range_with_len 0 (length F))
    ∙ name_searched F n (length F) 0 (from_zero (length F))
