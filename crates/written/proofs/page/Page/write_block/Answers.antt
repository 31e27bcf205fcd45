use Rattle.std.proofs.Common.{◌≡◌, [], ◌∷◌, ◌++◌, map, length, take, ap, ◌∙◌, arith}
use Rattle.formula.specs.Shown.{disjunct_of}
use Rattle.written.specs.Pages.{Appended, page_store}
use Rattle.written.specs.Store.{block_cells, connectors, heads, numbered, third}
use Rattle.written.proofs.Added.{appended_as, appended_kept, appended_more, block_written, front_is, length_heads_of}
use Rattle.written.proofs.page.Page.write_block.Goals as goal

pub write_connectors-requires : goal.write_connectors-requires
write_connectors-requires c =
    let ts = c.args.disjuncts.now in
    let n = length_heads_of [] ts (third c.args.self.now.used (length ts)) in
    (omega (arith, c.requires), omega arith)

pub returns : goal.returns
returns c =
    let p = c.args.self.now in
    let p1 = c.push_head.new.self in
    let p2 = c.push.new.self in
    let q = c.write_heads.new.self in
    let r = c.write_connectors.new.self in
    let ts = c.args.disjuncts.now in
    let n = length ts in
    let F = (page_store p).front in
    let hs = heads (third p.used n) (numbered [] (map disjunct_of ts)) in
    let cs = connectors (numbered F (map disjunct_of ts)) in
    let four = appended_more p p1 p2 (n ∷ 0 ∷ 0 ∷ []) (0 ∷ []) c.push_head.ensures c.push.ensures in
    let before = appended_more p p2 q (n ∷ 0 ∷ 0 ∷ 0 ∷ []) hs four c.write_heads.ensures in
    let same : take p.used q.table.now ≡ F = appended_kept p q (n ∷ 0 ∷ 0 ∷ 0 ∷ hs) p.used before (omega arith) (omega (arith, c.requires)) ∙ front_is p in
    let behind : Appended q r cs =
    appended_as q r (connectors (numbered (take p.used q.table.now) (map disjunct_of ts))) cs (ap (λ T. connectors (numbered T (map disjunct_of ts))) same) c.write_connectors.ensures in
    appended_as p r ((n ∷ 0 ∷ 0 ∷ 0 ∷ hs) ++ cs) (block_cells p.used (numbered F (map disjunct_of ts))) (block_written F ts p.used)
    (appended_more p q r (n ∷ 0 ∷ 0 ∷ 0 ∷ hs) cs before behind)
