use Rattle.std.proofs.Common.{◌≡◌, length, map, sym, ap, ◌∙◌, arith}
use Rattle.std.proofs.lemmas.Bool.{eqb-false, eqb-true}
use Rattle.linkage.specs.declared.call.Call.TheVariants.{Add}
use Rattle.rows.specs.declared.TheConstants.{MOST_WORDS}
use Rattle.rows.proofs.Calls.{accepted, adds, refused, still_full}
use Rattle.rows.specs.Tables.{row}
use Rattle.rows.proofs.Rows.add.Goals as goal

pub returns-then-is_full-clause-edit : goal.returns-then-is_full-clause-edit
returns-then-is_full-clause-edit c =
    let r = c.args.self.now in
    let w = c.args.word in
    let n = length r.entries.items in
    let full : n ≡ MOST_WORDS = eqb-true n MOST_WORDS (sym c.is_full.ensures.value ∙ c.if-is_full.true) in
    λ lex. refused lex r (Add w) (still_full r lex w (omega arith))

pub returns-clause-edit : goal.returns-clause-edit
returns-clause-edit c =
    let r = c.args.self.now in
    let w = c.args.word in
    let n = length r.entries.items in
    let room : n ≡ MOST_WORDS → ⊥ = eqb-false n MOST_WORDS (sym c.is_full.ensures.value ∙ c.if-is_full.false) in
    let few = c.is_full.ensures.fits in
    let e = c.fresh.result in
    λ lex. accepted lex r (Add w) (c.clear_marks.ensures.ledger ∙ ap (map row) c.push.ensures.items ∙ adds r lex w e (omega arith) c.fresh.ensures) c.clear_marks.ensures.marks
