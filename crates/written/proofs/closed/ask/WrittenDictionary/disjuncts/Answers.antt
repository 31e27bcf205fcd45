use Rattle.std.proofs.Common.{length, get_or, sym, ap, ◌∙◌, arith}
use Rattle.written.specs.Model.{lexicon}
use Rattle.written.specs.Pages.{store}
use Rattle.written.specs.Store.{model}
use Rattle.written.proofs.Asked.{count_known, count_past}
use Rattle.written.proofs.closed.ask.WrittenDictionary.disjuncts.Goals as goal

pub returns-then-word-self : goal.returns-then-word-self
returns-then-word-self c =
    let w = c.args.self.now in
    sym (count_past w.table.now w.used w.words w.roomy c.args.word (omega arith))

pub returns : goal.returns
returns c =
    let w = c.args.self.now in
    let T = w.table.now in
    let s = store T w.used w.words in
    c.from.ensures
    ∙ (ap (λ b. get_or T b 0) c.block.ensures.value
    ∙ (sym (count_known T w.used w.words w.roomy w.whole c.from-word.result (omega arith))
    ∙ ap (λ k. length ((lexicon (model s)).disjuncts k)) c.from-word.ensures))
