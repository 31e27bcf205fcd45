-- A chain keeps the limits of a dictionary: the proofs that the chain hands over with its answers.
use Rattle.std.specs.Prelude.{◌≡◌, ℕ, zero, suc, ◌^◌, ◌<◌, ◌≤◌, Bool, true, false, cond, ltb, List, [], ◌∷◌, length, nat_lt, slice_index, slice_index_or, refl}
use Rattle.std.proofs.Common.{ap, arith, lit<, lit≤, ltb-true, le-ltb}
use Rattle.lexicon.specs.declared.side.Side.{Side}
use Rattle.lexicon.specs.declared.side.Side.TheVariants.{Left, Right}
use Rattle.lexicon.specs.Chains.{chain, four, size}
use Rattle.lexicon.specs.Lexicon.{Disjunct, free, side_of}
use Rattle.lexicon.specs.Limits.{FewWords, NonePast, FewDisjuncts, ShortLists, SmallConnectors}

pub few_words : (follow : List ℕ) → FewWords (chain follow)
few_words follow = omega arith

pub none_past : (follow : List ℕ) → NonePast (chain follow)
none_past follow w h = ap (λ b. cond b (four w) []) (le-ltb w (size follow) h)

four_at_most : (b : Bool) (a : ℕ) → length (cond b (four a) []) ≤ 64
four_at_most true a = lit≤ tt
four_at_most false a = lit≤ tt

pub few_disjuncts : (follow : List ℕ) → FewDisjuncts (chain follow)
few_disjuncts follow w = four_at_most (nat_lt w (size follow)) w

by_side : (P : List ℕ → Type 0) (d : Disjunct ℕ) (s : Side) → P d.left → P d.right → P (side_of d s)
by_side P d Left l r = l
by_side P d Right l r = r

-- A list of a chain is empty, or holds its word alone.
one_or_none : (P : List ℕ → Type 0) (b : Bool) (a d : ℕ) (s : Side) → P [] → (b ≡ true → P (a ∷ [])) →
    P (side_of (slice_index_or (cond b (four a) []) d free) s)
one_or_none P false a d s none one = by_side P _ s none none
one_or_none P true a zero s none one = by_side P _ s none none
one_or_none P true a (suc zero) s none one = by_side P _ s none (one refl)
one_or_none P true a (suc (suc zero)) s none one = by_side P _ s (one refl) none
one_or_none P true a (suc (suc (suc zero))) s none one = by_side P _ s (one refl) (one refl)
one_or_none P true a (suc (suc (suc (suc d)))) s none one = by_side P _ s none none

pub short_lists : (follow : List ℕ) → ShortLists (chain follow)
short_lists follow w d s =
    one_or_none (λ l. length l ≤ 8) (nat_lt w (size follow)) w d s (lit≤ tt) (λ _. lit≤ tt)

alone : (a i : ℕ) → a < 2 ^ 16 → slice_index (a ∷ []) i < 2 ^ 16
alone a zero h = h
alone a (suc i) h = lit< tt

pub small_connectors : (follow : List ℕ) → SmallConnectors (chain follow)
small_connectors follow w d s i =
    let small : ltb w (size follow) ≡ true → w < 2 ^ 16 = λ e. (let h = ltb-true w (size follow) e in omega arith)
    in one_or_none (λ l. slice_index l i < 2 ^ 16) (nat_lt w (size follow)) w d s (lit< tt) (λ e. alone w i (small e))
