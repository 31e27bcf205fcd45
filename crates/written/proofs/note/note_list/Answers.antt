use Rattle.std.proofs.Common.{◌≡◌, ℕ, ◌+◌, ◌<◌, Bool, true, false, cond, List, [], ◌∷◌, ◌++◌, length, get_or, take, sym, ap, ◌∙◌, arith}
use Rattle.std.proofs.lemmas.List.{map_push}
use Rattle.formula.specs.Bounds.{held}
use Rattle.formula.specs.Shown.{Spelled, spellings}
use Rattle.formula.specs.Tokens.{Name}
use Rattle.written.specs.Model.{among, fresh}
use Rattle.written.specs.Store.{fresh_of, known}
use Rattle.written.proofs.Noted.{held_more, noted_more, noted_none, noted_one}
use Rattle.written.proofs.note.note_list.Goals as goal
use Rattle.written.proofs.note.note_list.Goals.{then-not-met, else-not-met}

-- One name more of a list, by whether it was met.
one_more : (ks was now : List Name) (ns : List Spelled) (i : ℕ) (d : Spelled) (b : Bool) → i < length ns →
    now ≡ was ++ fresh (ks ++ was) (spellings (take i ns)) → among (held (get_or ns i d)) (ks ++ now) ≡ b →
    cond b now (now ++ (held (get_or ns i d) ∷ [])) ≡ was ++ fresh (ks ++ was) (spellings (take (i + 1) ns))
one_more ks was now ns i d b h e f =
    let x = held (get_or ns i d) in
    noted_more ks was (spellings (take i ns)) (x ∷ []) now (cond b now (now ++ (x ∷ []))) e (sym (noted_one ks now x b f))
    ∙ ap (λ ms. was ++ fresh (ks ++ was) ms) (sym (held_more held ns i d h))

pub loop-name-init : goal.loop-name-init
loop-name-init c = (omega arith, noted_none (known c.args.front.now) (fresh_of c.args.fresh.now))

pub loop-name-preserved : goal.loop-name-preserved
loop-name-preserved c =
    let ks = known c.args.front.now in
    let was = fresh_of c.args.fresh.now in
    let now = fresh_of c.loop-name.fresh in
    let ns = c.args.names.now in
    let i = c.loop-name.name-index in
    let y = c.name-item.result in
    let here : y ≡ get_or ns i y = c.name-item.is in
    let (few, inv) = c.loop-name.invariant in
    elim c.if-not-met.branch [
      | then-not-met w ↦
          let n = ap (λ v. length v.items) w.fresh-is in
          let m = w.push.ensures.len in
          let f = ap (λ z. among (held z) (ks ++ now)) (sym here) ∙ ap (λ fs. among (held y) (ks ++ spellings fs)) (sym c.deref.ensures.0) ∙ sym w.if-not-met.ensures in (
            omega arith,
            ap fresh_of w.fresh-is ∙ ap spellings w.push.ensures.items ∙ map_push held c.loop-name.fresh.items y
                ∙ ap (λ z. now ++ (held z ∷ [])) here
                ∙ one_more ks was now ns i y false c.loop-name-test.true inv f,
          )
      | else-not-met w ↦
          let n = ap (λ v. length v.items) w.fresh-is in
          let f = ap (λ z. among (held z) (ks ++ now)) (sym here) ∙ ap (λ fs. among (held y) (ks ++ spellings fs)) (sym c.deref.ensures.0) ∙ sym w.if-not-met.ensures in
          (omega arith, ap fresh_of w.fresh-is ∙ one_more ks was now ns i y true c.loop-name-test.true inv f)
    ]
