use Rattle.std.proofs.Common.{◌≡◌, IsSome, inl, inr, length, map, IfNone, subst, sym, refl, ap, ◌∙◌, arith}
use Rattle.std.proofs.lemmas.Bool.{cases_lt, false≢true}
use Rattle.std.proofs.lemmas.Result.{err_from_is_err_and}
use Rattle.linkage.specs.declared.call.Call.TheVariants.{Drop}
use Rattle.rows.proofs.Calls.{accepted, drops, refused_alike, still_wordless}
use Rattle.rows.proofs.Marks.{cleared}
use Rattle.rows.specs.Tables.{row}
use Rattle.rows.proofs.Rows.drop.Goals as goal

pub returns-in_err-last-clause-edit : goal.returns-in_err-last-clause-edit
returns-in_err-last-clause-edit c =
    let r = c.args.self.now in
    let none = c.in_err-last.ensures.ok_part in
    let same : c.pop.new.self ≡ r.entries = subst (λ o. IfNone o (c.pop.new.self ≡ r.entries)) none c.pop.ensures.empty in
    let wordless : length r.entries.items ≡ 0 = elim (cases_lt 0 (length r.entries.items)) [
      | inl h ↦ absurd (false≢true (subst IsSome none (c.pop.ensures.variant.1 h)))
      | inr h ↦ omega arith
    ] in
    let e = err_from_is_err_and c.from_residual.result c.from_residual.ensures.1 in
    rw e.1 (λ lex. refused_alike lex r Drop (sym same) refl (still_wordless r lex wordless))

pub returns-clause-edit : goal.returns-clause-edit
returns-clause-edit c =
    let r = c.args.self.now in
    λ lex. accepted lex r Drop (ap (map row) c.pop.ensures.rest ∙ drops r lex) (cleared c.clear.ensures)
