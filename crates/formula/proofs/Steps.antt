-- How a reading goes on by one token, from what comes next.
use Rattle.std.proofs.Common.{◌≡◌, ℕ, suc, ◌<◌, ◌≤◌, true, false, cond, Some, None, Ok, Err, Result, sym, refl, ap, ◌∙◌, subst, arith, le-ltb, lt-ltb}
use Rattle.refusal.specs.declared.Refusal.{Refusal}
use Rattle.refusal.specs.declared.Refusal.TheVariants.{OutOfPlace, TooDeep}
use Rattle.lexicon.specs.declared.side.Side.{Side}
use Rattle.refusal.specs.declared.fault.LineFault.{LineFault}
use Rattle.formula.specs.declared.token.Join.{Join}
use Rattle.formula.specs.declared.token.Join.TheVariants.{And, Or}
use Rattle.formula.specs.declared.token.Bracket.{Bracket}
use Rattle.formula.specs.declared.token.Bracket.TheVariants.{Round, Brace}
use Rattle.formula.specs.Cuts.{Cut, ends, fails, token}
use Rattle.refusal.specs.Faults.{fault}
use Rattle.formula.specs.Formulas.{Formula, one, row, Item, named, within, empty, items_in}
use Rattle.formula.specs.Progress.{goes, joined_by, Stopped, Unclosed, NoPair}
use Rattle.formula.specs.Reading.{Before, nothing, after, Open, top, inside, State, wants, has, add, close_empty, go_on}
use Rattle.formula.specs.Reading.{open_depth, state_depth, judged, read}
use Rattle.formula.specs.Tokens.{Name, Word, mark, open_with, close_with, connector}
use Rattle.formula.specs.Ways.{ways, item_ways, joined}

-- A step that stays within the depth is gone on from.
shallow : (p : ℕ) (s : State) (rest : State → Result Formula LineFault) → state_depth s ≤ 16 → judged p (Some s) rest ≡ rest s
shallow p s rest h = ap (λ b. cond b (Err (fault p TooDeep)) (rest s)) (le-ltb 16 (state_depth s) h)

pub fails_there : (s : State) (c : Cut) (p : ℕ) (r : Refusal) → c ≡ fails p r → read s c ≡ Err (fault p r)
unfolding read
fails_there s c p r e = ap (read s) e

-- Where an item is wanted.
module _ (b : Before) (o : Open) (c : Cut) where
  pub wants_end : (p : ℕ) → c ≡ ends p → read (wants b o) c ≡ Err (fault p OutOfPlace)
  unfolding read
  wants_end p e = ap (read (wants b o)) e

  module _ (p : ℕ) (rest : Cut) where
    pub wants_connector : (s : Side) (n : Name) → c ≡ token p (connector s n) rest → open_depth o ≤ 16 →
        read (wants b o) c ≡ read (has (add b (named s n)) o) rest
    unfolding read
    wants_connector s n e h = ap (read (wants b o)) e ∙ shallow p (has (add b (named s n)) o) (λ t. read t rest) h

    pub wants_open : (k : Bracket) → c ≡ token p (open_with k) rest → open_depth o < 16 →
        read (wants b o) c ≡ read (wants nothing (inside k b o)) rest
    unfolding read open_depth
    wants_open k e h = ap (read (wants b o)) e ∙ shallow p (wants nothing (inside k b o)) (λ t. read t rest) h

    pub wants_too_deep : (k : Bracket) → c ≡ token p (open_with k) rest → 16 ≤ open_depth o →
        read (wants b o) c ≡ Err (fault p TooDeep)
    unfolding read open_depth
    wants_too_deep k e h =
        ap (read (wants b o)) e
        ∙ ap (λ t. cond t (Err (fault p TooDeep)) (read (wants nothing (inside k b o)) rest)) (lt-ltb 16 (suc (open_depth o)) (omega arith))

    pub wants_mark : (j : Join) → c ≡ token p (mark j) rest → read (wants b o) c ≡ Err (fault p OutOfPlace)
    unfolding read
    wants_mark j e = ap (read (wants b o)) e

    pub wants_close : (k : Bracket) → c ≡ token p (close_with k) rest → NoPair b o c → read (wants b o) c ≡ Err (fault p OutOfPlace)
    unfolding read
    wants_close k e n =
        ap (read (wants b o)) e ∙ ap (λ s. judged p s (λ t. read t rest)) (subst (NoPair b o) e n)

-- An empty pair.
pub empty_there : (b : Before) (o : Open) (c : Cut) (p : ℕ) (rest : Cut) → c ≡ token p (close_with Round) rest → open_depth o ≤ 16 →
    read (wants nothing (inside Round b o)) c ≡ read (has (add b empty) o) rest
unfolding read
empty_there b o c p rest e h =
    ap (read (wants nothing (inside Round b o))) e ∙ shallow p (has (add b empty) o) (λ t. read t rest) h

-- Where no empty pair can be: at the top, and behind a mark.
abbrev Never : Before → Open → Type 0
Never b o = (k : Bracket) → close_empty b o k ≡ None

pub no_pair : (b : Before) (o : Open) → Never b o → (c : Cut) → NoPair b o c
no_pair b o n (ends p) = tt
no_pair b o n (fails p r) = tt
no_pair b o n (token p (mark j) c) = tt
no_pair b o n (token p (open_with k) c) = tt
no_pair b o n (token p (close_with k) c) = n k
no_pair b o n (token p (connector s m) c) = tt

-- Where a formula stands.
pub closes : (f : Formula) (b : Before) (o : Open) (c : Cut) (p : ℕ) (rest : Cut) (k : Bracket) → c ≡ token p (close_with k) rest →
    open_depth o ≤ 16 → read (has f (inside k b o)) c ≡ read (has (add b (within k f)) o) rest
unfolding read
closes f b o c p rest Round e h =
    ap (read (has f (inside Round b o))) e ∙ shallow p (has (add b (within Round f)) o) (λ t. read t rest) h
closes f b o c p rest Brace e h =
    ap (read (has f (inside Brace b o))) e ∙ shallow p (has (add b (within Brace f)) o) (λ t. read t rest) h

pub unclosed : (f : Formula) (b : Before) (o : Open) (c : Cut) (k : Bracket) (e : LineFault) → Stopped f c → Unclosed k c e →
    read (has f (inside k b o)) c ≡ Err e
unfolding read
unclosed f b o (ends p) k e s u = ap Err (sym u)
unclosed f b o (fails p r) k e s u = ap Err (sym u)
unclosed f b o (token p (mark j) c) k e s (n, u) =
    ap (λ t. judged p t (λ v. read v c)) (s (inside k b o)) ∙ ap Err (sym u)
unclosed f b o (token p (open_with l) c) k e s (n, u) = ap Err (sym u)
unclosed f b o (token p (close_with Round) c) Round e s (n, u) = absurd (n refl)
unclosed f b o (token p (close_with Brace) c) Round e s (n, u) = ap Err (sym u)
unclosed f b o (token p (close_with Round) c) Brace e s (n, u) = ap Err (sym u)
unclosed f b o (token p (close_with Brace) c) Brace e s (n, u) = absurd (n refl)
unclosed f b o (token p (connector x m) c) k e s (n, u) = ap Err (sym u)

pub ended_top : (f : Formula) (c : Cut) (p : ℕ) → c ≡ ends p → read (has f top) c ≡ Ok f
unfolding read
ended_top f c p e = ap (read (has f top)) e

pub more_at_top : (f : Formula) (p : ℕ) (w : Word) (c : Cut) → Stopped f (token p w c) → read (has f top) (token p w c) ≡ Err (fault p OutOfPlace)
unfolding read
more_at_top f p (mark j) c s = ap (λ t. judged p t (λ v. read v c)) (s top)
more_at_top f p (open_with k) c s = refl
more_at_top f p (close_with k) c s = refl
more_at_top f p (connector x n) c s = refl

-- A formula goes on with a mark, or it does not.
pub goes_on : (f : Formula) (j : Join) (o : Open) → goes (joined_by f) j ≡ true → go_on f j o ≡ Some (wants (after j (items_in f)) o)
goes_on (one i) j o e = refl
goes_on (row And is i) And o e = refl
goes_on (row And is i) Or o e = let z : ◌≡◌ {A = ℕ} 0 1 = cc in absurd (omega arith)
goes_on (row Or is i) And o e = let z : ◌≡◌ {A = ℕ} 0 1 = cc in absurd (omega arith)
goes_on (row Or is i) Or o e = refl

pub goes_not : (f : Formula) (j : Join) (o : Open) → goes (joined_by f) j ≡ false → go_on f j o ≡ None
goes_not (one i) j o e = let z : ◌≡◌ {A = ℕ} 0 1 = cc in absurd (omega arith)
goes_not (row And is i) And o e = let z : ◌≡◌ {A = ℕ} 0 1 = cc in absurd (omega arith)
goes_not (row And is i) Or o e = refl
goes_not (row Or is i) And o e = refl
goes_not (row Or is i) Or o e = let z : ◌≡◌ {A = ℕ} 0 1 = cc in absurd (omega arith)

pub marked : (f : Formula) (o : Open) (c : Cut) (p : ℕ) (j : Join) (rest : Cut) → c ≡ token p (mark j) rest → goes (joined_by f) j ≡ true →
    open_depth o ≤ 16 → read (has f o) c ≡ read (wants (after j (items_in f)) o) rest
unfolding read
marked f o c p j rest e g h =
    ap (read (has f o)) e ∙ ap (λ t. judged p t (λ v. read v rest)) (goes_on f j o g)
    ∙ shallow p (wants (after j (items_in f)) o) (λ t. read t rest) h

pub stopped : (f : Formula) (c : Cut) (p : ℕ) (j : Join) (rest : Cut) → c ≡ token p (mark j) rest → goes (joined_by f) j ≡ false → Stopped f c
stopped f c p j rest e g = subst (Stopped f) (sym e) (λ o. goes_not f j o g)

-- One item more joins its ways.
pub ways_more : (f : Formula) (j : Join) (i : Item) → goes (joined_by f) j ≡ true → ways (row j (items_in f) i) ≡ joined j (ways f) (item_ways i)
unfolding ways
ways_more (one x) j i e = refl
ways_more (row And is x) And i e = refl
ways_more (row And is x) Or i e = let z : ◌≡◌ {A = ℕ} 0 1 = cc in absurd (omega arith)
ways_more (row Or is x) And i e = let z : ◌≡◌ {A = ℕ} 0 1 = cc in absurd (omega arith)
ways_more (row Or is x) Or i e = refl
