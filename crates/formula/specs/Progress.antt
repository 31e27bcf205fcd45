-- What the readers of items and formulas promise each other: how far each takes the reading of the tokens, from whatever
-- stands open before.
use Rattle.std.specs.Prelude.{◌≡◌, ℕ, ◌<◌, Bool, true, false, List, length, Some, None, Ok, Err, Option, Result, ◌≢◌}
use Rattle.refusal.specs.declared.Refusal.TheVariants.{OutOfPlace}
use Rattle.refusal.specs.declared.fault.LineFault.{LineFault}
use Rattle.formula.specs.declared.read.Next.{Next}
use Rattle.formula.specs.declared.read.Reading.{Reading}
use Rattle.formula.specs.declared.read.Row.{Row}
use Rattle.formula.specs.declared.rest.Rest.{Rest}
use Rattle.formula.specs.declared.token.Join.{Join}
use Rattle.formula.specs.declared.token.Join.TheVariants.{And, Or}
use Rattle.formula.specs.declared.token.Bracket.{Bracket}
use Rattle.formula.specs.declared.token.Bracket.TheVariants.{Round, Brace}
use Rattle.formula.specs.Cuts.{Cut, ends, fails, token, cut_rest}
use Rattle.refusal.specs.Faults.{fault}
use Rattle.formula.specs.Formulas.{Formula, one, row, Item, longer}
use Rattle.formula.specs.Reading.{Before, nothing, Open, inside, wants, has, add, close_empty, go_on, open_depth, read, reading}
use Rattle.formula.specs.Shown.{Listing, Shows}
use Rattle.formula.specs.Tokens.{mark, open_with, close_with, connector}
use Rattle.formula.specs.Ways.{ways, item_ways}

-- What was read is something, so fewer bytes are left.
abbrev pub Further : Rest → Result Reading LineFault → Type 0
Further r (Ok x) = length x.rest.bytes.now < length r.bytes.now
Further r (Err e) = Unit {0}

abbrev pub goes : Option Join → Join → Bool
goes None j = true
goes (Some And) And = true
goes (Some And) Or = false
goes (Some Or) And = false
goes (Some Or) Or = true

abbrev pub joined_by : Formula → Option Join
joined_by (one i) = None
joined_by (row j is i) = Some j

-- A formula does not go on with what comes next.
abbrev pub Stopped : Formula → Cut → Type 0
Stopped f (ends p) = Unit {0}
Stopped f (fails p r) = Unit {0}
Stopped f (token p (mark j) c) = (o : Open) → go_on f j o ≡ None
Stopped f (token p (open_with k) c) = Unit {0}
Stopped f (token p (close_with k) c) = Unit {0}
Stopped f (token p (connector s n) c) = Unit {0}

-- A bracket does not close with what comes next, and that is a fault.
abbrev pub Unclosed : Bracket → Cut → LineFault → Type 0
Unclosed k (ends p) e = e ≡ fault p OutOfPlace
Unclosed k (fails p r) e = e ≡ fault p r
Unclosed k (token p w c) e = (w ≢ close_with k) × (e ≡ fault p OutOfPlace)

abbrev pub Closing : Rest → Bracket → Result Rest LineFault → Type 0
Closing r k (Ok s) = (p : ℕ) × (cut_rest r ≡ token p (close_with k) (cut_rest s))
Closing r k (Err e) = Unclosed k (cut_rest r) e

-- What comes next is no closing round bracket.
abbrev pub NotRound : Cut → Type 0
NotRound (ends p) = Unit {0}
NotRound (fails p r) = Unit {0}
NotRound (token p (mark j) c) = Unit {0}
NotRound (token p (open_with k) c) = Unit {0}
NotRound (token p (close_with Round) c) = ⊥
NotRound (token p (close_with Brace) c) = Unit {0}
NotRound (token p (connector s n) c) = Unit {0}

-- What comes next does not make an empty pair.
abbrev pub NoPair : Before → Open → Cut → Type 0
NoPair b o (ends p) = Unit {0}
NoPair b o (fails p r) = Unit {0}
NoPair b o (token p (mark j) c) = Unit {0}
NoPair b o (token p (open_with k) c) = Unit {0}
NoPair b o (token p (close_with k) c) = close_empty b o k ≡ None
NoPair b o (token p (connector s n) c) = Unit {0}

abbrev pub NotEmpty : Bracket → Cut → Type 0
NotEmpty Round c = NotRound c
NotEmpty Brace c = Unit {0}

-- A round bracket closes at once, or something else comes, or there is no token.
abbrev pub EmptyPair : Rest → Bracket → Result (Option Rest) LineFault → Type 0
EmptyPair r k (Ok (Some s)) = (p : ℕ) × (k ≡ Round) × (cut_rest r ≡ token p (close_with Round) (cut_rest s))
EmptyPair r k (Ok None) = NotEmpty k (cut_rest r)
EmptyPair r k (Err e) = cut_rest r ≡ fails e.place e.refusal

-- From where an item is wanted, at a depth, to where it stands.
abbrev pub ItemRead : Rest → (depth : ℕ) → Result Reading LineFault → Type 0
ItemRead r d (Ok x) =
    (i : Item) × Shows x.ways (item_ways i)
    × ((b : Before) (o : Open) → open_depth o ≡ d → read (wants b o) (cut_rest r) ≡ read (has (add b i) o) (cut_rest x.rest))
ItemRead r d (Err e) =
    (b : Before) (o : Open) → open_depth o ≡ d → NoPair b o (cut_rest r) → read (wants b o) (cut_rest r) ≡ Err e

-- From where a bracket was opened to where it has closed.
abbrev pub InsideRead : Rest → (depth : ℕ) → Bracket → Result Reading LineFault → Type 0
InsideRead r d k (Ok x) =
    (i : Item) × Shows x.ways (item_ways i)
    × ((b : Before) (o : Open) → open_depth (inside k b o) ≡ d →
    read (wants nothing (inside k b o)) (cut_rest r) ≡ read (has (add b i) o) (cut_rest x.rest))
InsideRead r d k (Err e) =
    (b : Before) (o : Open) → open_depth (inside k b o) ≡ d → read (wants nothing (inside k b o)) (cut_rest r) ≡ Err e

-- From where a formula is wanted to where it stands and does not go on.
abbrev pub FormulaRead : Rest → (depth : ℕ) → Result Reading LineFault → Type 0
FormulaRead r d (Ok x) =
    (f : Formula) × Shows x.ways (ways f) × Stopped f (cut_rest x.rest)
    × ((o : Open) → open_depth o ≡ d → read (wants nothing o) (cut_rest r) ≡ read (has f o) (cut_rest x.rest))
FormulaRead r d (Err e) =
    (o : Open) → open_depth o ≡ d → NoPair nothing o (cut_rest r) → read (wants nothing o) (cut_rest r) ≡ Err e

-- A row stands for a formula.
abbrev pub StandsFor : Row → Formula → Type 0
StandsFor w f = (w.join ≡ joined_by f) × Shows w.ways (ways f)

-- A formula goes on with a mark, and with an item whose ways were read behind it.
abbrev pub Joined : Next → Formula → Item → Type 0
Joined n f i = (goes (joined_by f) n.mark ≡ true) × Shows n.ways (item_ways i)

-- From where a formula stands that is joined by some mark to where one with an item more stands, or it does not go on.
abbrev pub MoreRead : Rest → Option Join → (depth : ℕ) → Result (Option Next) LineFault → Type 0
MoreRead r own d (Ok (Some n)) =
    (i : Item) × ((f : Formula) → own ≡ joined_by f → Joined n f i
    × ((o : Open) → open_depth o ≡ d → read (has f o) (cut_rest r) ≡ read (has (longer f n.mark i) o) (cut_rest n.rest)))
MoreRead r own d (Ok None) = (f : Formula) → own ≡ joined_by f → Stopped f (cut_rest r)
MoreRead r own d (Err e) =
    (f : Formula) → own ≡ joined_by f → (o : Open) → open_depth o ≡ d → read (has f o) (cut_rest r) ≡ Err e

-- The whole: the formula that is read, by its ways, or its fault.
abbrev pub Parsed : List ℕ → Result (Option Listing) LineFault → Type 0
Parsed xs (Ok w) = (f : Formula) × (reading xs ≡ Ok f) × Shows w (ways f)
Parsed xs (Err e) = reading xs ≡ Err e
