-- In a store a name has one number, and a number one name: the names are all different, and their numbers rise.
use Rattle.std.proofs.Common.{◌≡◌, ℕ, zero, suc, ◌<◌, ◌≤◌, Bool, true, false, cond, ◌||◌, eqb, List, [], ◌∷◌, map, length, get_or, take, drop, sym, refl, ap, arith}
use Rattle.formula.specs.Tokens.{Name}
use Rattle.written.specs.Drafts.{OneNumber, unnamed}
use Rattle.written.specs.Matching.{same}
use Rattle.written.specs.Model.{Named, among}
use Rattle.written.specs.Store.{Store, Whole, MARK, model, names_from}
use Rattle.written.proofs.Known.{Distinct, eq_same}
use Rattle.written.proofs.Names.{apart_distinct}

abbrev called : Named → Name
called m = m.name

-- Numbers that rise from some number on.
abbrev Rising : ℕ → List Named → Type 0
Rising k [] = Unit {0}
Rising k (m ∷ ms) = (k ≤ m.number) × Rising (suc m.number) ms

rising_weaker : (j k : ℕ) (ms : List Named) → j ≤ k → Rising k ms → Rising j ms
rising_weaker j k [] h r = tt
rising_weaker j k (m ∷ ms) h (l, r) = (omega arith, r)

rises : (q : ℕ) (front : List ℕ) → Rising q (names_from q front)
unfolding names_from
rises q [] = tt
rises q (c ∷ cs) = go (eqb c MARK) (rises (suc q) cs)
  where
    go : (b : Bool) → Rising (suc q) (names_from (suc q) cs) →
        Rising q (cond b (record { name = take (get_or cs 0 0) (drop 1 cs); number = q } ∷ names_from (suc q) cs) (names_from (suc q) cs))
    go true r = (omega arith, r)
    go false r = rising_weaker q (suc q) (names_from (suc q) cs) (omega arith) r

above : (k : ℕ) (ms : List Named) → Rising k ms → (i : ℕ) → i < length ms → k ≤ (get_or ms i unnamed).number
above k [] r i h = absurd (omega arith)
above k (m ∷ ms) (l, r) zero h = l
above k (m ∷ ms) (l, r) (suc i) h = let a = above (suc m.number) ms r i (omega arith) in omega arith

numbers_apart : (k : ℕ) (ms : List Named) → Rising k ms → (i j : ℕ) → i < length ms → j < length ms →
    (get_or ms i unnamed).number ≡ (get_or ms j unnamed).number → i ≡ j
numbers_apart k [] r i j h l e = absurd (omega arith)
numbers_apart k (m ∷ ms) (a, r) zero zero h l e = refl
numbers_apart k (m ∷ ms) (a, r) zero (suc j) h l e = let b = above (suc m.number) ms r j (omega arith) in absurd (omega arith)
numbers_apart k (m ∷ ms) (a, r) (suc i) zero h l e = let b = above (suc m.number) ms r i (omega arith) in absurd (omega arith)
numbers_apart k (m ∷ ms) (a, r) (suc i) (suc j) h l e = ap suc (numbers_apart (suc m.number) ms r i j (omega arith) (omega arith) e)

there : (n : Name) (ms : List Named) (i : ℕ) → i < length ms → n ≡ (get_or ms i unnamed).name → among n (map called ms) ≡ true
unfolding among
there n [] i h e = absurd (omega arith)
there n (m ∷ ms) zero h e = ap (λ b. b || among n (map called ms)) (eq_same n m.name e)
there n (m ∷ ms) (suc i) h e = go (same n m.name) (there n ms i (omega arith) e)
  where
    go : (b : Bool) → among n (map called ms) ≡ true → b || among n (map called ms) ≡ true
    go true t = refl
    go false t = t

names_apart : (ms : List Named) → Distinct (map called ms) → (i j : ℕ) → i < length ms → j < length ms →
    (get_or ms i unnamed).name ≡ (get_or ms j unnamed).name → i ≡ j
names_apart [] d i j h l e = absurd (omega arith)
names_apart (m ∷ ms) (n, d) zero zero h l e = refl
names_apart (m ∷ ms) (n, d) zero (suc j) h l e =
    let t = there m.name ms j (omega arith) e in let z : ◌≡◌ {A = ℕ} 0 1 = cc in absurd (omega arith)
names_apart (m ∷ ms) (n, d) (suc i) zero h l e =
    let t = there m.name ms i (omega arith) (sym e) in let z : ◌≡◌ {A = ℕ} 0 1 = cc in absurd (omega arith)
names_apart (m ∷ ms) (n, d) (suc i) (suc j) h l e = ap suc (names_apart ms d i j (omega arith) (omega arith) e)

pub one_number : (s : Store) → Whole s → OneNumber (model s).names
one_number s whole i j h l = (
  names_apart (names_from 0 s.front) (apart_distinct 0 s.front whole.2) i j h l,
  numbers_apart 0 (names_from 0 s.front) (rises 0 s.front) i j h l,
)
