use Rattle.std.proofs.Common.{◌≡◌, arith}
use Rattle.written.specs.Kept.{few_words}
use Rattle.written.specs.Meaning.{written_lexicon}
use Rattle.lexicon_report.proofs.render.word_count.Goals as goal

pub overflow_cast-result : goal.overflow_cast-result
overflow_cast-result c =
    let d = c.args.dictionary.now in
    let few = few_words d.table.now d.used d.words d.few in
    let e : c.words.result ≡ (written_lexicon d).words = c.words.ensures in
    omega arith
