-- How a row of tokens is read: to the formula whose tokens they are, or to the first fault, with its place.
use Rattle.std.specs.Prelude.{◌≡◌, ℕ, suc, ◌≤◌, cond, List, [], ◌∷◌, ◌++◌, Some, None, Ok, Err, Option, Result, ◌≢◌, nat_lt}
use Rattle.refusal.specs.declared.Refusal.{Refusal}
use Rattle.refusal.specs.declared.Refusal.TheVariants.{OutOfPlace, TooDeep}
use Rattle.refusal.specs.declared.fault.LineFault.{LineFault}
use Rattle.formula.specs.declared.token.Join.{Join}
use Rattle.formula.specs.declared.token.Join.TheVariants.{And, Or}
use Rattle.formula.specs.declared.token.Bracket.{Bracket}
use Rattle.formula.specs.declared.token.Bracket.TheVariants.{Round, Brace}
use Rattle.formula.specs.Tokens.{Word, mark, open_with, close_with, connector}
use Rattle.formula.specs.Formulas.{Formula, one, row, Item, named, empty, within, Items, first, then, tokens, depth}
use Rattle.refusal.specs.Faults.{fault}
use Rattle.formula.specs.Cuts.{Cut, ends, fails, token, cut}

-- What stands of a formula before the item that is wanted: nothing, or items with the mark that joins them.
pub data Before : Type 0 where
  nothing : Before
  after : Join → Items → Before

-- The brackets that are open, the innermost first, each with what stands before it in its formula.
pub data Open : Type 0 where
  top : Open
  inside : Bracket → Before → Open → Open

-- Where a reader stands between two tokens: an item is wanted, or a formula stands that may go on.
pub data State : Type 0 where
  wants : Before → Open → State
  has : Formula → Open → State

abbrev pub add : Before → Item → Formula
add nothing i = one i
add (after j is) i = row j is i

-- `(` and `)` with nothing between them are an item; other brackets do not close where an item is wanted.
abbrev pub close_empty : Before → Open → Bracket → Option State
close_empty nothing top k = None
close_empty nothing (inside Round b o) Round = Some (has (add b empty) o)
close_empty nothing (inside Round b o) Brace = None
close_empty nothing (inside Brace b o) k = None
close_empty (after j is) o k = None

abbrev pub close : Formula → Open → Bracket → Option State
close f top k = None
close f (inside Round b o) Round = Some (has (add b (within Round f)) o)
close f (inside Round b o) Brace = None
close f (inside Brace b o) Round = None
close f (inside Brace b o) Brace = Some (has (add b (within Brace f)) o)

-- One item goes on with either mark, a row only with its own.
abbrev pub go_on : Formula → Join → Open → Option State
go_on (one i) j o = Some (wants (after j (first i)) o)
go_on (row And is i) And o = Some (wants (after And (then is i)) o)
go_on (row And is i) Or o = None
go_on (row Or is i) And o = None
go_on (row Or is i) Or o = Some (wants (after Or (then is i)) o)

-- One token; None where the formula allows none such.
abbrev pub step : State → Word → Option State
step (wants b o) (mark j) = None
step (wants b o) (open_with k) = Some (wants nothing (inside k b o))
step (wants b o) (close_with k) = close_empty b o k
step (wants b o) (connector s n) = Some (has (add b (named s n)) o)
step (has f o) (mark j) = go_on f j o
step (has f o) (open_with k) = None
step (has f o) (close_with k) = close f o k
step (has f o) (connector s n) = None

unfoldable pub open_depth : Open → ℕ
open_depth top = 0
open_depth (inside k b o) = suc (open_depth o)

abbrev pub state_depth : State → ℕ
state_depth (wants b o) = open_depth o
state_depth (has f o) = open_depth o

abbrev pub finished : State → ℕ → Result Formula LineFault
finished (wants b o) p = Err (fault p OutOfPlace)
finished (has f top) p = Ok f
finished (has f (inside k b o)) p = Err (fault p OutOfPlace)

-- Brackets and braces are open at most 16 deep.
abbrev pub judged : ℕ → Option State → (State → Result Formula LineFault) → Result Formula LineFault
judged p None rest = Err (fault p OutOfPlace)
judged p (Some s) rest = cond (nat_lt 16 (state_depth s)) (Err (fault p TooDeep)) (rest s)

unfoldable pub read : State → Cut → Result Formula LineFault
read s (ends p) = finished s p
read s (fails p r) = Err (fault p r)
read s (token p w c) = judged p (step s w) (λ t. read t c)

abbrev pub start : State
start = wants nothing top

-- The reading of a formula's bytes.
abbrev pub reading : List ℕ → Result Formula LineFault
reading bytes = read start (cut bytes)

-- What stands above the reading, in terms of trees and their tokens alone.

-- The first tokens of a cut, and what is left after them.
pub data After : Cut → List Word → Cut → Type 0 where
  here : (c : Cut) → After c [] c
  later : (p : ℕ) (w : Word) (c : Cut) (ws : List Word) (d : Cut) → After c ws d → After (token p w c) (w ∷ ws) d

-- Tokens that can be continued to a formula, of any depth or of a depth that is allowed.
abbrev pub Possible : List Word → Type 0
Possible ws = (f : Formula) × ((more : List Word) × (ws ++ more ≡ tokens f))

abbrev pub Allowed : List Word → Type 0
Allowed ws = (f : Formula) × ((more : List Word) × ((ws ++ more ≡ tokens f) × (depth f ≤ 16)))

-- Which answer a cut gets: the formula whose tokens it is; or 13 at the first token with which the tokens so far can no
-- more be continued, or at the end of tokens that could be but are no formula; or 14 at the first with which they can be
-- continued only too deep; or what is wrong at the first place where there is no token.
pub data Answer (c : Cut) : Result Formula LineFault → Type 0 where
  accepted : (f : Formula) (p : ℕ) → After c (tokens f) (ends p) → depth f ≤ 16 → Answer c (Ok f)
  misplaced : (ws : List Word) (p : ℕ) (w : Word) (d : Cut) → After c ws (token p w d) → Allowed ws →
      (Possible (ws ++ (w ∷ [])) → ⊥) → Answer c (Err (fault p OutOfPlace))
  unfinished : (ws : List Word) (p : ℕ) → After c ws (ends p) → Allowed ws → ((f : Formula) → ws ≢ tokens f) →
      Answer c (Err (fault p OutOfPlace))
  too_deep : (ws : List Word) (p : ℕ) (w : Word) (d : Cut) → After c ws (token p w d) → Allowed ws →
      Possible (ws ++ (w ∷ [])) → (Allowed (ws ++ (w ∷ [])) → ⊥) → Answer c (Err (fault p TooDeep))
  no_token : (ws : List Word) (p : ℕ) (r : Refusal) → After c ws (fails p r) → Allowed ws → Answer c (Err (fault p r))

-- The reading is the one answer.
abbrev pub RightAnswer : List ℕ → Type 0
RightAnswer bytes =
    Answer (cut bytes) (reading bytes) × ((r : Result Formula LineFault) → Answer (cut bytes) r → r ≡ reading bytes)
