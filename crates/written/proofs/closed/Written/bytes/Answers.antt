use Rattle.std.proofs.Common.{◌≡◌, ◌+◌, ◌-◌, ap, ◌∙◌, arith}
use Rattle.written.specs.Store.{cells}
use Rattle.written.proofs.Found.{word_inside, word_read}
use Rattle.written.proofs.closed.Written.bytes.Goals as goal

pub slice_bounds-result-end : goal.slice_bounds-result-end
slice_bounds-result-end c =
    let w = c.args.self.now in
    word_inside w.table.now w.used w.words c.args.word (omega arith) (omega arith) w.whole c.row-row.result c.from-first.result c.from-len.result
    c.row-row.ensures.value c.from-first.ensures c.from-len.ensures

pub returns : goal.returns
returns c =
    let w = c.args.self.now in
    let T = w.table.now in
    let at = c.from-first.result in
    let len = c.from-len.result in
    let e : at + len - at ≡ len = omega arith in
    ap (λ n. cells T at n) e
    ∙ word_read T w.used w.words c.args.word (omega arith) (omega arith) w.whole c.row-row.result at len
    c.row-row.ensures.value c.from-first.ensures c.from-len.ensures
