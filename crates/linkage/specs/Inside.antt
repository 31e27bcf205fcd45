-- The inside recursion: what the linkages of a region give, from smaller regions.
--
-- A region lies between two positions L < R, where R may be the end of the sentence. `l` are the right connectors of L that
-- still wait for a link inside the region, and `r` the left connectors of R that do; both begin with the nearest, so what
-- waits is a front part of a list, and its last connector links the farthest. A link between L and R lies outside. A word that
-- is linked is not bare, so its factor, single, is left out.
use Rattle.std.specs.Prelude.{◌≡◌, ℕ, zero, suc, ◌+◌, ◌*◌, ◌<◌, ◌≤◌, Bool, cond, List, [], ◌∷◌, ◌==◌, refl}
use Rattle.std.proofs.Math.Option.{Option, none, some}
use Rattle.tally.specs.Semiring.{Semiring}
use Rattle.linkage.specs.Lists.{back, between, empty}
use Rattle.linkage.specs.Linkages.{example_pair}
use Rattle.linkage.specs.Sentences.{Choice, Sentence, bare, choices, lefts, rights, size, takes}
use Rattle.linkage.specs.Sums.{sum, total}

-- A value for each region.
abbrev pub Table : Type 0 → Type 0
Table V = (L R : ℕ) (l r : List ℕ) → V

-- A list without its farthest connector, and that connector.
abbrev pub Waiting : Type 0
Waiting = Option (List ℕ × ℕ)

module _ {V : Type 0} (t : Semiring V) where
  abbrev pub when : Bool → V → V
  when b v = cond b v t.nothing

  abbrev pub factor : Choice → V
  factor bare = t.bare
  factor (takes k) = t.single

  -- A region without positions has one linkage where nothing waits, and none elsewhere.
  abbrev pub edge : (l r : List ℕ) → V
  edge [] [] = t.single
  edge [] (c ∷ r) = t.nothing
  edge (c ∷ l) r = t.nothing

module _ {V : Type 0} (t : Semiring V) (s : Sentence) where
  -- The sum over the positions between L and R, and their options.
  abbrev pub splits : (L R : ℕ) → (ℕ → Choice → V) → V
  splits L R f = sum t (λ W. sum t (f W) (choices s W)) (between L R)

  module _ (v : Table V) where
    -- W and R are linked, each by its farthest connector that waits.
    abbrev pub linked : (W R : ℕ) → Waiting → Waiting → V
    linked W R none r = t.nothing
    linked W R (some (p, c)) none = t.nothing
    linked W R (some (p, c)) (some (r, d)) = when t (s.matches c d) (v W R p r)

    -- A region that begins a part: its first position A links to nothing on its left.
    abbrev pub opening : (A R : ℕ) → V
    opening A R = sum t (λ c. when t (empty (lefts s A c)) (t.both (factor t c) (v A R (rights s A c) []))) (choices s A)

    -- L's farthest link, by the connector e, goes to W, which may be linked to R too.
    abbrev pub to_left : (L W R : ℕ) (l : List ℕ) (e : ℕ) (p r : List ℕ) → Waiting → V
    to_left L W R l e p r none = t.nothing
    to_left L W R l e p r (some (m, d)) =
        when t (s.matches e d) (t.both (v L W l m) (t.either (v W R p r) (linked W R (back p) (back r))))

    -- Where nothing waits, the next position is in a part of its own, which costs a gap. Where L waits for nothing, R's
    -- farthest link comes from the first W that links to R.
    abbrev pub inner : (L R : ℕ) (r : List ℕ) → Waiting → Waiting → V
    inner L R r none none = t.both t.gap (opening (suc L) R)
    inner L R r none (some q) =
        splits L R (λ W c. t.both (v L W [] (lefts s W c)) (linked W R (back (rights s W c)) (some q)))
    inner L R r (some (l, e)) w = splits L R (λ W c. to_left L W R l e (rights s W c) r (back (lefts s W c)))

    abbrev pub region : Table V
    region L R l r = cond (R == suc L) (edge t l r) (inner L R r (back l) (back r))

    -- A table that has, for each region, what the smaller regions say.
    abbrev pub Solves : Type 0
    Solves = (L R : ℕ) (l r : List ℕ) → L < R → R ≤ size s → v L R l r ≡ region L R l r

    abbrev pub top : V
    top = opening 0 (size s)

  -- Such a table, by regions of at most f positions.
  abbrev pub inside : (f : ℕ) → Table V
  inside zero L R l r = t.nothing
  inside (suc f) L R l r = region (inside f) L R l r

  abbrev pub whole : V
  whole = top (inside (size s))

-- Where values are counts, and a linkage of two words either links them or leaves both bare, in two parts.
abbrev counts : Semiring ℕ
counts = record { nothing = 0; single = 1; gap = 10; bare = 100; either = ◌+◌; both = ◌*◌ }

example_whole : (whole counts example_pair ≡ 1 + 10 * 100 * 100) × (total counts example_pair ≡ 1 + 10 * 100 * 100)
example_whole = (refl, refl)
