use Rattle.std.proofs.Common.{get_or, sym, ap, ◌∙◌, subst, arith}
use Rattle.written.specs.Pages.{Inside, store}
use Rattle.written.specs.Store.{numbers_at, third}
use Rattle.written.proofs.Asked.{count_known, head_inside, head_lists, word_inside}
use Rattle.written.proofs.closed.Written.head.Goals as goal

pub block-requires : goal.block-requires
block-requires c =
    let w = c.args.self.now in
    word_inside w.table.now w.used w.words w.roomy c.args.word c.args.disjunct c.requires

pub overflow_mul-result : goal.overflow_mul-result
overflow_mul-result c =
    let w = c.args.self.now in
    let T = w.table.now in
    let s = store T w.used w.words in
    let h = word_inside T w.used w.words w.roomy c.args.word c.args.disjunct c.requires in
    let n = count_known T w.used w.words w.roomy w.whole c.args.word h in
    let e = ap (λ b. get_or T b 0) c.block.ensures.value in
    let p = c.requires in
    omega arith

pub overflow_add-result-2 : goal.overflow_add-result-2
overflow_add-result-2 c =
    let w = c.args.self.now in
    let T = w.table.now in
    let s = store T w.used w.words in
    let h = word_inside T w.used w.words w.roomy c.args.word c.args.disjunct c.requires in
    let n = count_known T w.used w.words w.roomy w.whole c.args.word h in
    let e = ap (λ b. get_or T b 0) c.block.ensures.value in
    let p = c.requires in
    omega arith

pub returns : goal.returns
returns c =
    let w = c.args.self.now in
    let T = w.table.now in
    let s = store T w.used w.words in
    let d = c.args.disjunct in
    let h = word_inside T w.used w.words w.roomy c.args.word d c.requires in
    let e = sym c.block.ensures.value in
    record {
      lists =
          head_lists T w.used w.words w.roomy w.whole c.args.word h d c.requires
          ∙ ap (λ b. numbers_at T (third b d)) e;
      inside =
          subst (λ b. Inside T (third b d)) e
          (head_inside T w.used w.words w.roomy w.whole c.args.word h d c.requires);
    }
