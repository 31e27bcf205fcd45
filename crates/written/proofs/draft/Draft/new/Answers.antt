use Rattle.std.proofs.Common.{refl, arith}
use Rattle.written.specs.Store.{counted, names_from}
use Rattle.written.proofs.draft.Draft.new.Goals as goal

pub invariant_of-result : goal.invariant_of-result
unfolding counted
invariant_of-result c = record {
  roomy = omega arith;
  few = omega arith;
  whole = (λ w h. absurd (omega arith), λ p e. absurd (omega arith), λ p q e f g. absurd (omega arith), λ i. omega arith);
}

pub returns-clause-book : goal.returns-clause-book
unfolding counted names_from
returns-clause-book c = refl
