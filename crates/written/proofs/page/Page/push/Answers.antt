use Rattle.std.proofs.Common.{refl, arith, length-set}
use Rattle.written.specs.Pages.{page_store}
use Rattle.written.proofs.Grown.{cell_store}
use Rattle.written.proofs.page.Page.push.Goals as goal

pub returns : goal.returns
unfolding page_store
returns c =
    let p = c.args.self.now in
    record {
      store = cell_store p.table.now p.used p.words c.args.cell (omega (arith, c.requires));
      len = length-set p.table.now p.used c.args.cell;
      used = refl;
      words = omega arith;
    }
