use Rattle.std.proofs.Common.{◌+◌, length, drop, arith, rules, tests}
use Rattle.std.proofs.lemmas.Iterator.Consumers.{YieldsList-turn, YieldsList-end}
use Rattle.std.proofs.lemmas.List.{drop_all, length_push}
use Rattle.written.specs.Lines.{pieces}
use Rattle.written.proofs.Splits.{piece_here, yields_pieces}
use Rattle.written.proofs.Worded.{worded_end, worded_room, worded_step}
use Rattle.written.proofs.page.Page.write_words.Goals as goal

pub write_word-requires : goal.write_word-requires
write_word-requires c =
    let ps = pieces 32 c.args.words.now in
    let n = length c.loop-word.yielded in
    let t = YieldsList-turn (yields_pieces _ 32 c.args.words.now (cc) (cc) (cc) (λ x b q k. search (rules, tests))) c.loop-word.yielded _ c.loop-word.yielded_by _ _ c.in-Some.word c.in-Some.is c.next.ensures.steps in
    let inv = c.loop-word.invariant in
    let left = worded_room c.args.self.now c.args.block ps c.loop-word.self (drop n ps) (drop (n + 1) ps) c.in-Some.word.now inv (piece_here ps n _ t) (omega (arith, c.requires.0))
    in let u = inv.adds in
    (omega (arith, left), omega (arith, c.requires.1))

pub loop-word-preserved : goal.loop-word-preserved
loop-word-preserved c =
    let ps = pieces 32 c.args.words.now in
    let n = length c.loop-word.yielded in
    let t = YieldsList-turn (yields_pieces _ 32 c.args.words.now (cc) (cc) (cc) (λ x b q k. search (rules, tests))) c.loop-word.yielded _ c.loop-word.yielded_by _ _ c.in-Some.word c.in-Some.is c.next.ensures.steps in
    rw length_push
    (worded_step c.args.self.now c.args.block ps c.loop-word.self (drop n ps) (drop (n + 1) ps) c.in-Some.word.now c.loop-word.invariant (piece_here ps n _ t)
    c.write_word.new.self c.write_word.ensures)

pub returns : goal.returns
returns c =
    let ps = pieces 32 c.args.words.now in
    let n = length c.loop-word.yielded in
    let t = YieldsList-end (yields_pieces _ 32 c.args.words.now (cc) (cc) (cc) (λ x b q k. search (rules, tests))) c.loop-word.yielded _ c.loop-word.yielded_by _ _ c.in-None.is c.next.ensures.steps in
    worded_end c.args.self.now c.args.block ps c.loop-word.self (drop n ps) c.loop-word.invariant (drop_all n ps (omega (arith, t.1)))
