use Rattle.std.proofs.Common.{◌≡◌, ◌<◌, [], ◌++◌, map, length, get_or, take, sym, ap, ◌∙◌, arith}
use Rattle.formula.specs.Bounds.{held}
use Rattle.formula.specs.Shown.{disjunct_of, names_of, spellings}
use Rattle.written.specs.Model.{fresh, mentioned}
use Rattle.written.specs.Store.{fresh_of, known}
use Rattle.written.proofs.Noted.{noted_more, held_more, mentioned_push}
use Rattle.written.proofs.note.fresh_names.Goals as goal

pub loop-one-init : goal.loop-one-init
unfolding fresh mentioned
loop-one-init c = let n = ap length c.new-fresh.ensures in (omega arith, ap spellings c.new-fresh.ensures)

pub loop-one-preserved : goal.loop-one-preserved
loop-one-preserved c =
    let ts = held c.args.disjuncts.now in
    let k = c.loop-one.one-index in
    let d = c.one-item.result in
    let ks = known c.args.front.now in
    let now = fresh_of c.loop-one.fresh in
    let mid = fresh_of c.note_list.new.fresh in
    let after = fresh_of c.note_list-in-loop-one.new.fresh in
    let (few, inv) = c.loop-one.invariant in
    let h : k < length ts = omega (arith, ap length c.deref-one-items.ensures.0) in
    let here : get_or ts k d ≡ d = ap (λ l. get_or l k d) (sym c.deref-one-items.ensures.0) ∙ sym c.one-item.is in
    let left = c.note_list.ensures.names ∙ ap (λ ns. now ++ fresh (ks ++ now) (spellings ns)) c.deref.ensures.0 in
    let right = c.note_list-in-loop-one.ensures.names ∙ ap (λ ns. mid ++ fresh (ks ++ mid) (spellings ns)) c.deref-in-loop-one.ensures.0 in
    let l = c.deref.ensures.1 in
    let m = c.deref-in-loop-one.ensures.1 in (
      omega (arith, c.note_list.ensures.longer, c.note_list-in-loop-one.ensures.longer),
      noted_more ks [] (mentioned (map disjunct_of (take k ts))) (names_of d.left ++ names_of d.right) now after inv
          (noted_more ks now (names_of d.left) (names_of d.right) mid after left right)
          ∙ ap (fresh (ks ++ [])) (sym (ap mentioned (held_more disjunct_of ts k d h)
          ∙ mentioned_push (map disjunct_of (take k ts)) (disjunct_of (get_or ts k d))
          ∙ ap (λ (e : _). mentioned (map disjunct_of (take k ts)) ++ (names_of e.left ++ names_of e.right)) here)),
    )
