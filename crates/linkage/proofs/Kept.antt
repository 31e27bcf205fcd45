-- Trimming keeps the largest closed set: what is kept is closed, and whatever is closed is kept.
use Rattle.std.proofs.Common.{◌≡◌, ℕ, zero, suc, ◌<◌, ◌≤◌, true, ◌⊎◌, List, length, sym, refl, ap, ◌∙◌, subst, inl, inr, arith}
use Rattle.std.proofs.lemmas.Bool.{and_from, and_parts}
use Rattle.linkage.specs.Lists.{◌∈◌, every, filter}
use Rattle.linkage.specs.Sentences.{Sentence}
use Rattle.linkage.specs.Trims.{Closed, Used, all_used, kept, left_of, met, met_left, met_right, right_of, rounds}
use Rattle.linkage.proofs.Members.{every_in, every_of, filter_shrinks, in_filter, long_since, of_filter, some_more}

module _ (s : Sentence) where
  -- What is met in a set is met in a larger one.
  pub met_more : (us vs : List Used) → ((u : Used) → u ∈ us → u ∈ vs) → (u : Used) → met s us u ≡ true → met s vs u ≡ true
  met_more us vs h u e =
      let i = u.at in
      let k = and_parts (every (met_right s us i) (right_of s u)) (every (met_left s us i) (left_of s u)) e in
      and_from (every (met_right s vs i) (right_of s u)) (every (met_left s vs i) (left_of s u))
      (every_of (met_right s vs i) (right_of s u) (λ c m. some_more _ us vs h (every_in (met_right s us i) k.0 m)))
      (every_of (met_left s vs i) (left_of s u) (λ c m. some_more _ us vs h (every_in (met_left s us i) k.1 m)))

  -- Unstruck disjuncts that are met in every set which holds them all are left by each round.
  pub kept_holds : (P : Used → Type 0) → ((u : Used) → P u → u ∈ all_used s)
      → ((us : List Used) → ((v : Used) → P v → v ∈ us) → (u : Used) → P u → met s us u ≡ true) → (u : Used) → P u → u ∈ kept s
  kept_holds P unstruck each_met = go (length (all_used s)) (all_used s) unstruck
    where
      go : (n : ℕ) (us : List Used) → ((u : Used) → P u → u ∈ us) → (u : Used) → P u → u ∈ rounds s n us
      go zero us h = h
      go (suc n) us h = go n (filter (met s us) us) (λ u p. in_filter (met s us) (h u p) (each_met us h u p))

  pub kept_largest : (us : List Used) → Closed s us → (u : Used) → u ∈ us → u ∈ kept s
  kept_largest us c = kept_holds (λ u. u ∈ us) c.unstruck (λ vs h u m. met_more us vs h u (c.each_met u m))

  of_rounds : (n : ℕ) (us : List Used) (u : Used) → u ∈ rounds s n us → u ∈ us
  of_rounds zero us u m = m
  of_rounds (suc n) us u m = (of_filter (met s us) u us (of_rounds n (filter (met s us) us) u m)).0

  -- A round that leaves nothing out is the last, and each other makes the list shorter.
  rounds_still : (n : ℕ) (us : List Used) → filter (met s us) us ≡ us → rounds s n us ≡ us
  rounds_still zero us e = refl
  rounds_still (suc n) us e = ap (rounds s n) e ∙ rounds_still n us e

  rounds_met : (n : ℕ) (us : List Used) → length us ≤ n → (u : Used) → u ∈ rounds s n us → met s (rounds s n us) u ≡ true
  rounds_met zero us h u m = absurd (omega (arith, long_since m))
  rounds_met (suc n) us h u m = go (filter_shrinks (met s us) us) (λ l. rounds_met n (filter (met s us) us) l u m)
    where
      left : List Used
      left = filter (met s us) us

      go : (left ≡ us) ⊎ (length left < length us) → (length left ≤ n → met s (rounds s n left) u ≡ true)
          → met s (rounds s n left) u ≡ true
      go (inl e) k =
          subst (λ vs. met s vs u ≡ true) (sym (rounds_still (suc n) us e)) (of_filter (met s us) u us (of_rounds n left u m)).1
      go (inr l) k = k (omega arith)

  pub kept_closed : Closed s (kept s)
  kept_closed = record {
    unstruck = of_rounds (length (all_used s)) (all_used s);
    each_met = rounds_met (length (all_used s)) (all_used s) (omega arith);
  }
