use Rattle.std.proofs.Common.{refl, arith, length-set}
use Rattle.written.specs.Pages.{page_store}
use Rattle.written.proofs.Grown.{row_store}
use Rattle.written.proofs.page.Page.push_row.Goals as goal

pub returns : goal.returns
unfolding page_store
returns c =
    let p = c.args.self.now in
    let T = p.table.now in
    record {
      store = row_store T p.used p.words (c.row_place-at.result) c.args.word c.args.len c.args.block (omega arith) c.requires;
      len = simp length-set;
      used = omega arith;
      words = refl;
    }
