use Rattle.std.proofs.Common.{ℕ, eqb, length, sym, ap, ◌∙◌, rules, tests}
use Rattle.std.proofs.lemmas.Bool.{ne_eqb}
use Rattle.std.proofs.lemmas.Iterator.{YieldsList-from_slice, YieldsList-from_zip}
use Rattle.std.proofs.lemmas.Iterator.Consumers.{YieldsList-at}
use Rattle.std.proofs.lemmas.Iterator.Search.{all_from_yields_List}
use Rattle.written.proofs.Found.{same_false}
use Rattle.written.proofs.Letters.{same_zipped}
use Rattle.written.proofs.front.spells.Goals as goal

pub returns-then-cells-bytes : goal.returns-then-cells-bytes
returns-then-cells-bytes c =
    let xs = c.args.cells.now in
    let ys = c.args.bytes.now in
    all_from_yields_List (λ (p : ℕ × ℕ). eqb p.0 p.1) c.all.new.self _ _ c.all.ensures.ran
    (YieldsList-from_zip (YieldsList-at c.zip.ensures.first (YieldsList-from_slice xs c.iter.ensures.rest)) (YieldsList-from_slice ys c.zip.ensures.second.0)) (λ x b q k. search (rules, tests))
    ∙ same_zipped xs ys c.if-cells-bytes.true

pub returns-else-cells-bytes : goal.returns-else-cells-bytes
returns-else-cells-bytes c =
    let xs = c.args.cells.now in
    let ys = c.args.bytes.now in
    ne_eqb (length xs) (length ys) c.if-cells-bytes.false
    ∙ sym (same_false xs ys (λ e. c.if-cells-bytes.false (ap length e)))
