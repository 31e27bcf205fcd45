use Rattle.formula.proofs.Grammar.{right_answer}
use Rattle.formula.proofs.Once.{kept_once}
use Rattle.formula.proofs.meaning.meaning.Goals as goal

-- Two clauses are laws, whatever the formula.

pub returns-in_err-ways-clause-grammar : goal.returns-in_err-ways-clause-grammar
returns-in_err-ways-clause-grammar c = right_answer c.args.formula.now

pub returns-in_err-ways-clause-kept : goal.returns-in_err-ways-clause-kept
returns-in_err-ways-clause-kept c = kept_once

pub returns-in_err-disjuncts-clause-grammar : goal.returns-in_err-disjuncts-clause-grammar
returns-in_err-disjuncts-clause-grammar c = right_answer c.args.formula.now

pub returns-in_err-disjuncts-clause-kept : goal.returns-in_err-disjuncts-clause-kept
returns-in_err-disjuncts-clause-kept c = kept_once

pub returns-clause-grammar : goal.returns-clause-grammar
returns-clause-grammar c = right_answer c.args.formula.now

pub returns-clause-kept : goal.returns-clause-kept
returns-clause-kept c = kept_once
