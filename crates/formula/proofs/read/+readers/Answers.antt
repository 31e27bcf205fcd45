use Rattle.std.proofs.Common.{◌≡◌, ℕ, ◌+◌, ◌<◌, true, List, length, IfSome, Some, Ok, Err, Option, Result, sym, refl, ap, ◌∙◌, subst, arith, Bor}
use Rattle.std.proofs.lemmas.Result.{err_from_is_err_and}
use Rattle.refusal.specs.declared.Refusal.TheVariants.{OutOfPlace}
use Rattle.refusal.specs.declared.fault.LineFault.{LineFault}
use Rattle.refusal.specs.Faults.{fault}
use Rattle.lexicon.specs.declared.side.Side.{Side}
use Rattle.formula.specs.declared.read.Reading.{Reading}
use Rattle.formula.specs.declared.rest.Placed.{Placed}
use Rattle.formula.specs.declared.rest.Rest.{Rest}
use Rattle.formula.specs.declared.token.Bracket.{Bracket}
use Rattle.formula.specs.declared.token.Token.{Token}
use Rattle.formula.specs.declared.token.Token.TheVariants as lent
use Rattle.formula.specs.Cuts.{Cut, ends, token, cut_rest, next_cut}
use Rattle.formula.specs.Formulas.{one, named, within, empty, items_in, longer}
use Rattle.formula.specs.Progress.{goes, joined_by, ItemRead, InsideRead, MoreRead, EmptyPair, NoPair}
use Rattle.formula.specs.Reading.{Before, nothing, after, Open, inside, wants, has, open_depth, read}
use Rattle.formula.specs.Tokens.{Word, mark, open_with, connector, said}
use Rattle.formula.specs.Ways.{ways}
use Rattle.formula.proofs.Steps.{wants_end, wants_connector, wants_open, wants_too_deep, wants_mark, wants_close, fails_there}
use Rattle.formula.proofs.Steps.{empty_there, no_pair, closes, unclosed, marked}
use Rattle.formula.proofs.read.+readers.Goals as goal

-- What a `?` passes on is the fault that it was given.
passed : {X : Type 0} (P : Result X LineFault → Type 0) (r : Result X LineFault) (x f : LineFault) → r ≡ Err x → x ≡ f → P (Err f) → P r
passed P r x f e g h = subst P (sym (e ∙ ap Err g)) h

-- The next token, where there is one.
next_is : (r : Rest) (o : Option Placed) (p : Placed) (w : Word) → cut_rest r ≡ next_cut r (Ok o) → o ≡ Some p →
    said p.token ≡ w → cut_rest r ≡ token p.at w (cut_rest p.rest)
next_is r o p w e f g =
    e ∙ ap (λ n. next_cut r (Ok n)) f ∙ ap (λ v. token p.at v (cut_rest p.rest)) g

-- Where an item is wanted, neither a mark nor a closing bracket will do.
misplaced : (b : Before) (o : Open) (c : Cut) (p : ℕ) (rest : Cut) (k : Token) → c ≡ token p (said k) rest → NoPair b o c →
    ((x : Bracket) → k ≡ lent.Open x → ⊥) → ((n : Bor (List ℕ)) (x : Side) → k ≡ lent.Connector n x → ⊥) →
    read (wants b o) c ≡ Err (fault p OutOfPlace)
misplaced b o c p rest (lent.Mark j) e n f g = wants_mark b o c p rest j e
misplaced b o c p rest (lent.Open x) e n f g = absurd (f x refl)
misplaced b o c p rest (lent.Close x) e n f g = wants_close b o c p rest x e n
misplaced b o c p rest (lent.Connector m x) e n f g = absurd (g m x refl)

pub formula_at-loop-next-init : goal.formula_at-loop-next-init
unfolding ways
formula_at-loop-next-init t c =
    let (i, shows, reads) = c.in_ok-first.ensures.reads in
    (c.in_ok-first.ensures.on, (one i, (refl, shows), reads nothing))

pub formula_at-loop-next-preserved : goal.formula_at-loop-next-preserved
formula_at-loop-next-preserved t c =
    let w = c.loop-next.row in
    let n = c.in-Some.next in
    let (far, (f, stands, reads)) = c.loop-next.invariant in
    let (i, more) = subst (λ o. MoreRead w.rest w.join c.args.depth.count (Ok o)) c.in-Some.is c.in_ok-next.ensures.reads in
    let on = subst (λ o. IfSome o (λ n. length n.rest.bytes.now < length w.rest.bytes.now)) c.in-Some.is c.in_ok-next.ensures.on in
    let (joins, on_reads) = more f stands.0 in
    let e = c.longer-row.ensures.rest in (
      subst (λ (r : Rest). length r.bytes.now < length c.args.rest.bytes.now) (sym e) (omega (arith, far, on)),
      (
        longer f n.mark i,
        c.longer-row.ensures.joins f i stands joins,
        λ o h. reads o h ∙ on_reads o h ∙ ap (λ (r : Rest). read (has (longer f n.mark i) o) (cut_rest r)) (sym e),
      ),
    )

pub inside_at-returns-in_err-behind-clause-reads : goal.inside_at-returns-in_err-behind-clause-reads
inside_at-returns-in_err-behind-clause-reads t c =
    let p = err_from_is_err_and c.from_residual.result c.from_residual.ensures.1 in
    let e = c.in_err-behind.field-0.0 in
    passed (InsideRead c.args.rest c.args.depth.count c.args.bracket) c.from_residual.result p.0 e p.1 p.2
    (λ b o h. fails_there (wants nothing (inside c.args.bracket b o)) (cut_rest c.args.rest) e.place e.refusal c.in_err-behind.ensures.reads)

pub inside_at-returns-in-Some-clause-reads : goal.inside_at-returns-in-Some-clause-reads
unfolding ways open_depth
inside_at-returns-in-Some-clause-reads t c =
    let k = c.args.bracket in
    let r = c.args.rest in
    let (p, round, e) = subst (λ o. EmptyPair r k (Ok o)) c.in-Some.is c.in_ok-behind.ensures.reads in (
      empty,
      c.empty.ensures,
      λ b o h. ap (λ k. read (wants nothing (inside k b o)) (cut_rest r)) round
          ∙ empty_there b o (cut_rest r) p (cut_rest c.in-Some.behind) e (omega (arith, c.args.depth.few)),
    )

pub inside_at-returns-in_err-behind-2-clause-reads : goal.inside_at-returns-in_err-behind-2-clause-reads
inside_at-returns-in_err-behind-2-clause-reads t c =
    let p = err_from_is_err_and c.from_residual-in_err-behind-2.result c.from_residual-in_err-behind-2.ensures.1 in
    let e = c.in_err-behind-2.field-0.0 in
    let k = c.args.bracket in
    let (f, shows, stops, reads) = c.in_ok-inside.ensures.reads in
    passed (InsideRead c.args.rest c.args.depth.count k) c.from_residual-in_err-behind-2.result p.0 e p.1 p.2
    (λ b o h. reads (inside k b o) h ∙ unclosed f b o (cut_rest c.in_ok-inside.inside.rest) k e stops c.in_err-behind-2.ensures.reads)

pub inside_at-returns-clause-reads : goal.inside_at-returns-clause-reads
unfolding ways open_depth
inside_at-returns-clause-reads t c =
    let k = c.args.bracket in
    let (f, shows, stops, reads) = c.in_ok-inside.ensures.reads in
    let (p, e) = c.in_ok-behind-2.ensures.reads in (
      within k f,
      c.bracketed.ensures (ways f) shows,
      λ b o h. reads (inside k b o) h
          ∙ closes f b o (cut_rest c.in_ok-inside.inside.rest) p (cut_rest c.in_ok-behind-2.behind) k e (omega (arith, c.args.depth.few)),
    )

pub item_at-returns-in_err-placed-clause-reads : goal.item_at-returns-in_err-placed-clause-reads
item_at-returns-in_err-placed-clause-reads t c =
    let p = err_from_is_err_and c.from_residual.result c.from_residual.ensures.1 in
    let e = c.in_err-placed.field-0.0 in
    passed (ItemRead c.args.rest c.args.depth.count) c.from_residual.result p.0 e p.1 p.2
    (λ b o h n. fails_there (wants b o) (cut_rest c.args.rest) e.place e.refusal c.in_err-placed.ensures.cuts)

pub item_at-returns-in_default-clause-reads : goal.item_at-returns-in_default-clause-reads
item_at-returns-in_default-clause-reads t c b o h n =
    wants_end b o (cut_rest c.args.rest) c.end.result
    (c.in_ok-placed.ensures.cuts ∙ ap (λ m. next_cut c.args.rest (Ok m)) c.in_default.is ∙ ap ends (sym c.end.ensures))

pub item_at-returns-in_default-deeper-clause-reads : goal.item_at-returns-in_default-deeper-clause-reads
item_at-returns-in_default-deeper-clause-reads t c b o h n =
    let p = c.in-Some.placed in
    let k = c.in-Open.bracket in
    let q = next_is c.args.rest c.in_ok-placed.field-0 p (open_with k) c.in_ok-placed.ensures.cuts c.in-Some.is (ap said c.in-Open.is) in
    wants_too_deep b o (cut_rest c.args.rest) p.at (cut_rest p.rest) k q (omega (arith, c.in_default-deeper.ensures))

pub item_at-returns-in-Connector-clause-reads : goal.item_at-returns-in-Connector-clause-reads
unfolding ways
item_at-returns-in-Connector-clause-reads t c =
    let p = c.in-Some.placed in
    let s = c.in-Connector.side in
    let n = c.in-Connector.name.now in
    let q = next_is c.args.rest c.in_ok-placed.field-0 p (connector s n) c.in_ok-placed.ensures.cuts c.in-Some.is (ap said c.in-Connector.is) in (
      named s n,
      c.one.ensures,
      λ b o h. wants_connector b o (cut_rest c.args.rest) p.at (cut_rest p.rest) s n q (omega (arith, c.args.depth.few)),
    )

-- An opening bracket, and what stands inside.
opened : (r s : Rest) (depth p : ℕ) (k : Bracket) → cut_rest r ≡ token p (open_with k) (cut_rest s) → depth < 16 →
    (x : Result Reading LineFault) → InsideRead s (depth + 1) k x → ItemRead r depth x
unfolding open_depth
opened r s depth p k q deep (Ok x) (i, shows, reads) =
    (i, shows, λ b o h. wants_open b o (cut_rest r) p (cut_rest s) k q (omega arith) ∙ reads b o (omega arith))
opened r s depth p k q deep (Err e) reads =
    λ b o h n. wants_open b o (cut_rest r) p (cut_rest s) k q (omega arith) ∙ reads b o (omega arith)

pub item_at-returns-in-Some-deeper-clause-reads : goal.item_at-returns-in-Some-deeper-clause-reads
item_at-returns-in-Some-deeper-clause-reads t c =
    let p = c.in-Some.placed in
    let k = c.in-Open.bracket in
    let q = next_is c.args.rest c.in_ok-placed.field-0 p (open_with k) c.in_ok-placed.ensures.cuts c.in-Some.is (ap said c.in-Open.is) in
    let one_more = c.in-Some-deeper.ensures in
    opened c.args.rest p.rest c.args.depth.count p.at k q (omega (arith, one_more, c.in-Some-deeper.deeper.few)) c.inside_at.result
    (subst (λ d. InsideRead p.rest d k c.inside_at.result) one_more c.inside_at.ensures.reads)

pub item_at-returns-in_default-token-clause-reads : goal.item_at-returns-in_default-token-clause-reads
item_at-returns-in_default-token-clause-reads t c b o h n =
    let p = c.in-Some.placed in
    let q = next_is c.args.rest c.in_ok-placed.field-0 p (said p.token) c.in_ok-placed.ensures.cuts c.in-Some.is refl in
    misplaced b o (cut_rest c.args.rest) p.at (cut_rest p.rest) p.token q n c.in_default-token.not-Open c.in_default-token.not-Connector

pub more_of-returns-in_err-placed-clause-reads : goal.more_of-returns-in_err-placed-clause-reads
more_of-returns-in_err-placed-clause-reads t c =
    let p = err_from_is_err_and c.from_residual.result c.from_residual.ensures.1 in
    let e = c.in_err-placed.field-0.0 in
    passed (MoreRead c.args.rest c.args.own c.args.depth.count) c.from_residual.result p.0 e p.1 p.2
    (λ f s o h. fails_there (has f o) (cut_rest c.args.rest) e.place e.refusal c.in_err-placed.ensures.cuts)

pub more_of-returns-in_err-item-clause-reads : goal.more_of-returns-in_err-item-clause-reads
more_of-returns-in_err-item-clause-reads t c =
    let p = c.in-Some.placed in
    let j = c.in-Mark.mark in
    let q = next_is c.args.rest c.in_ok-placed.field-0 p (mark j) c.in_ok-placed.ensures.cuts c.in-Some.is (ap said c.in-Mark.is) in
    let r = err_from_is_err_and c.from_residual-in_err-item.result c.from_residual-in_err-item.ensures.1 in
    passed (MoreRead c.args.rest c.args.own c.args.depth.count) c.from_residual-in_err-item.result r.0 c.in_err-item.field-0.0 r.1 r.2
    (λ f s o h.
    let g : goes (joined_by f) j ≡ true = ap (λ k. goes k j) (sym s) ∙ sym c.goes_on.ensures ∙ c.if-not-goes_on.false in
    marked f o (cut_rest c.args.rest) p.at j (cut_rest p.rest) q g (omega (arith, c.args.depth.few))
    ∙ c.in_err-item.ensures.reads (after j (items_in f)) o h (no_pair (after j (items_in f)) o (λ k. refl) (cut_rest p.rest)))

pub more_of-returns-clause-reads : goal.more_of-returns-clause-reads
more_of-returns-clause-reads t c =
    let p = c.in-Some.placed in
    let j = c.in-Mark.mark in
    let q = next_is c.args.rest c.in_ok-placed.field-0 p (mark j) c.in_ok-placed.ensures.cuts c.in-Some.is (ap said c.in-Mark.is) in
    let (i, shows, reads) = c.in_ok-item.ensures.reads in (
      i,
      λ f s.
          let g : goes (joined_by f) j ≡ true = ap (λ k. goes k j) (sym s) ∙ sym c.goes_on.ensures ∙ c.if-not-goes_on.false in (
            (g, shows),
            λ o h. marked f o (cut_rest c.args.rest) p.at j (cut_rest p.rest) q g (omega (arith, c.args.depth.few)) ∙ reads (after j (items_in f)) o h,
          ),
    )
