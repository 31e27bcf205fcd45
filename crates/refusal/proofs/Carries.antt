-- A fault that is put in other words by `map_err` is carried.
use Rattle.std.proofs.Common.{◌≡◌, Ok, Err, MatchResult, IsErrAnd, Result, ap}
use Rattle.refusal.specs.Faults.{carried}

pub carries : {X E F : Type 0} (f : E → F) (P : E → F → Type 0) → ((e : E) (r : F) → P e r → r ≡ f e) →
    (t : Result X E) (r : Result X F) → MatchResult t (λ x. r ≡ Ok x) (λ e. IsErrAnd r (P e)) → r ≡ carried f t
carries f P same (Ok x) r m = m
carries f P same (Err e) (Ok x) m = absurd m
carries f P same (Err e) (Err d) m = ap Err (same e d m)
