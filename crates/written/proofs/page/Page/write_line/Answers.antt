use Rattle.std.proofs.Common.{map, length, sym, ap, ◌∙◌, arith}
use lib.ListN.{length-map}
use Rattle.formula.specs.Bounds.{held}
use Rattle.formula.specs.Shown.{disjunct_of, disjuncts_of, spellings}
use Rattle.written.specs.Lines.{pieces}
use Rattle.written.specs.Pages.{page_store}
use Rattle.written.specs.Store.{block_cells, numbered}
use Rattle.written.proofs.Added.{block_length, only_cells}
use Rattle.written.proofs.Lined.{length_front, line_parts, names_take, with_cells, words_take}
use Rattle.written.proofs.Worded.{length_rows}
use Rattle.written.proofs.page.Page.write_line.Goals as goal

pub write_names-requires : goal.write_names-requires
write_names-requires c = let n = names_take (spellings c.args.fresh.now) in omega (arith, c.requires.room)

pub write_block-requires : goal.write_block-requires
write_block-requires c =
    let ts = held c.args.disjuncts.now in
    let n = names_take (spellings c.args.fresh.now) in
    let m = length-map ts disjunct_of in
    let d = ap length c.deref.ensures.0 in
    let e = ap (λ us. length (Rattle.written.specs.Model.mentioned (map disjunct_of us))) c.deref.ensures.0 in
    let a = c.write_names.ensures in
    omega (arith, c.requires.room)

pub write_words-requires : goal.write_words-requires
write_words-requires c =
    let ts = held c.args.disjuncts.now in
    let n = names_take (spellings c.args.fresh.now) in
    let m = length-map ts disjunct_of in
    let d = ap length c.deref.ensures.0 in
    let e = ap (λ us. length (Rattle.written.specs.Model.mentioned (map disjunct_of us))) c.deref.ensures.0 in
    let a = c.write_names.ensures in
    let b = c.write_block.ensures in
    let k = block_length (page_store c.write_names.new.self).front c.deref.result.now c.write_names.new.self.used in
    let w = words_take (pieces 32 c.args.words.now) in
    (omega (arith, c.requires.room), omega arith)

pub returns : goal.returns
returns c =
    let ts = held c.args.disjuncts.now in
    let p = c.args.self.now in
    let p1 = c.write_names.new.self in
    let p2 = c.write_block.new.self in
    let p3 = c.write_words.new.self in
    let n = names_take (spellings c.args.fresh.now) in
    let m = length-map ts disjunct_of in
    let d = ap length c.deref.ensures.0 in
    let e = ap (λ us. length (Rattle.written.specs.Model.mentioned (map disjunct_of us))) c.deref.ensures.0 in
    let a = c.write_names.ensures in
    let b = c.write_block.ensures in
    let k = block_length (page_store p1).front c.deref.result.now p1.used in
    let w = words_take (pieces 32 c.args.words.now) in
    let u = length_front p1 (omega (arith, c.requires.room)) in
    let v = length_front p2 (omega (arith, c.requires.room)) in
    let written = only_cells p1 p2 (block_cells p1.used (numbered (page_store p1).front (map disjunct_of c.deref.result.now))) b ∙ ap (λ us. with_cells (page_store p1) (block_cells p1.used (numbered (page_store p1).front (map disjunct_of us)))) c.deref.ensures.0 in
    let x = c.write_words.ensures in
    let y = length_rows p2.used p1.used (pieces 32 c.args.words.now) in
    record {
      store = line_parts (pieces 32 c.args.words.now) (disjuncts_of c.args.disjuncts.now)
          (page_store p) (page_store p1) (page_store p2) (page_store p3) (spellings c.args.fresh.now) p1.used p2.used
          c.requires.names (only_cells p p1 (Rattle.written.specs.Store.all_name_cells (spellings c.args.fresh.now)) a) (sym u) written (sym v) c.write_words.ensures.store;
      len = omega arith;
      taken = omega arith;
      words = omega arith;
    }
