use Rattle.std.proofs.Common.{◌≡◌, ℕ, ◌+◌, ◌≤◌, List, [], ◌∷◌, map, length, drop, ap₂, arith}
use Rattle.formula.specs.Bounds.{held}
use Rattle.formula.specs.Shown.{disjunct_of}
use Rattle.written.specs.Pages.{limit, taken}
use Rattle.written.specs.Store.{heads, numbered}
use Rattle.written.proofs.Added.{adding_end, adding_room, adding_step, appended_as, heads_last, heads_next, length_heads_of, mentioned_next}
use Rattle.written.proofs.page.Page.write_heads.Goals as goal

pub push_head-requires : goal.push_head-requires
push_head-requires c =
    let ts = c.args.disjuncts.now in
    let k = c.loop-one.one-index in
    let at = c.loop-one.at in
    let one = c.one-item.result in
    let l = length (held one.left) in
    let r = length (held one.right) in
    let all = heads c.args.from (numbered [] (map disjunct_of ts)) in
    let n = length_heads_of [] ts c.args.from in
    let room : taken c.args.self.now.used c.args.self.now.words + length all ≤ limit c.args.self.now.table.now = omega (arith, c.requires.room) in
    let left = adding_room c.args.self.now c.loop-one.self all (heads at (numbered [] (drop k (map disjunct_of ts)))) (l ∷ r ∷ at ∷ [])
    (heads (at + (l + r)) (numbered [] (drop (k + 1) (map disjunct_of ts)))) c.loop-one.invariant.0
    (heads_next [] ts k one c.loop-one-test.true c.one-item.is at) room
    in omega arith

pub loop-one-preserved : goal.loop-one-preserved
loop-one-preserved c =
    let ts = c.args.disjuncts.now in
    let k = c.loop-one.one-index in
    let at = c.loop-one.at in
    let one = c.one-item.result in
    let l = length (held one.left) in
    let r = length (held one.right) in
    let all = heads c.args.from (numbered [] (map disjunct_of ts)) in
    let here : ◌≡◌ {A = List ℕ} (c.len-left.result ∷ c.len-right.result ∷ at ∷ []) (l ∷ r ∷ at ∷ []) =
    ap₂ (λ (x y : ℕ). x ∷ y ∷ at ∷ []) c.len-left.ensures.value c.len-right.ensures.value in
    let m = mentioned_next [] ts k one c.loop-one-test.true c.one-item.is in
    rw (c.len-left.ensures.value, c.len-right.ensures.value) (
      adding_step c.args.self.now c.loop-one.self all (heads at (numbered [] (drop k (map disjunct_of ts)))) (l ∷ r ∷ at ∷ [])
          (heads (at + (l + r)) (numbered [] (drop (k + 1) (map disjunct_of ts)))) c.loop-one.invariant.0
          (heads_next [] ts k one c.loop-one-test.true c.one-item.is at) c.push_head.new.self
          (appended_as c.loop-one.self c.push_head.new.self (c.len-left.result ∷ c.len-right.result ∷ at ∷ []) (l ∷ r ∷ at ∷ []) here c.push_head.ensures),
      omega (arith, c.loop-one.invariant.1),
    )

pub returns : goal.returns
returns c =
    let ts = c.args.disjuncts.now in
    let k = c.loop-one.one-index in
    let at = c.loop-one.at in
    adding_end c.args.self.now c.loop-one.self (heads c.args.from (numbered [] (map disjunct_of ts)))
    (heads at (numbered [] (drop k (map disjunct_of ts)))) c.loop-one.invariant.0 (heads_last [] ts k at c.loop-one-test.false)
