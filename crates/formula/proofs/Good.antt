-- What an accepted formula asks for is small: its disjuncts are few, their lists short, and its names are of few bytes.
--
-- A name is taken from the bytes where a token is looked for, at most 8 of them. So each name that is cut is good, and
-- so is each name among the tokens of the formula that is read. Its ways ask for no others, and only ways are kept.
use Rattle.std.proofs.Common.{◌≡◌, ℕ, zero, suc, pred, ◌+◌, ◌<◌, ◌≤◌, false, ◌&&◌, eqb, ltb, ◌⊎◌, List, [], ◌∷◌, ◌++◌, map, length, get_or, take, Ok, Err, fold, Result, sym, refl, ap, subst, inl, inr, arith, length-append, length-take, get_or-take}
use Rattle.std.proofs.lemmas.List.{get_or_past}
use Rattle.std.proofs.ByRecursion.{All-append, All-push, All-map, All-weaker}
use Rattle.std.proofs.lemmas.Bool.{cond_both, cases_lt, ltb-false, or_parts}
use Rattle.std.specs.List.{AllByRecursion}
use Rattle.lexicon.specs.Lexicon.{free, side_of}
use Rattle.lexicon.specs.declared.side.Side.{Side}
use Rattle.lexicon.specs.declared.side.Side.TheVariants.{Left, Right}
use Rattle.refusal.specs.declared.Refusal.{Refusal}
use Rattle.refusal.specs.declared.Refusal.TheVariants.{ManyWays, LongList}
use Rattle.refusal.specs.declared.fault.LineFault.{LineFault}
use Rattle.formula.specs.declared.token.Join.{Join}
use Rattle.formula.specs.declared.token.Join.TheVariants.{And, Or}
use Rattle.formula.specs.declared.token.Bracket.{Bracket}
use Rattle.formula.specs.declared.token.Bracket.TheVariants.{Round, Brace}
use Rattle.formula.specs.Tokens.{Name, Word, mark, open_with, close_with, connector, spelled}
use Rattle.formula.specs.Formulas.{Formula, one, row, Item, named, empty, within, Items, first, then}
use Rattle.formula.specs.Formulas.{tokens, item_tokens, row_tokens}
use Rattle.formula.specs.Cuts.{capital, name_length, signed, token_at, Cut, ends, fails, token, placed, cut, cut_after}
use Rattle.formula.specs.Reading.{reading, After, here, later, Answer, accepted}
use Rattle.refusal.specs.Faults.{carried, fault, then as handed}
use Rattle.formula.specs.Meaning.{meaning}
use Rattle.formula.specs.Ways.{Way, asking, glue, product, joined, bracketed, ways, item_ways, row_ways, keep, kept}
use Rattle.formula.specs.Ways.{there, long, some_long, fitted}
use Rattle.formula.proofs.Grammar.{answers}

-- A name of at most 8 bytes.
abbrev pub NamedOk : Name → Type 0
NamedOk n = (length n ≤ 8) × ((j : ℕ) → get_or n j 0 < 256)

-- What holds of each element, and of the default, holds at each place.
all_at : {X : Type 0} (P : X → Type 0) (xs : List X) (d : X) → P d → AllByRecursion P xs → (k : ℕ) → P (get_or xs k d)
all_at P [] d h a k = h
all_at P (x ∷ xs) d h a zero = a.0
all_at P (x ∷ xs) d h a (suc k) = all_at P xs d h a.1 k

all_parts : {X : Type 0} (P : X → Type 0) (xs ys : List X) → AllByRecursion P (xs ++ ys) → AllByRecursion P xs × AllByRecursion P ys
all_parts P [] ys a = (tt, a)
all_parts P (x ∷ xs) ys a = let h = all_parts P xs ys a.1 in ((a.0, h.0), h.1)

-- What is kept are some of the ways.

pub kept_all : (P : Way → Type 0) (ds out : List Way) → AllByRecursion P out → AllByRecursion P ds → AllByRecursion P (fold keep out ds)
kept_all P [] out a b = a
kept_all P (d ∷ ds) out a b =
    kept_all P ds (keep out d) (cond_both (there d out) _ _ (AllByRecursion P) (λ _. a) (λ _. All-push P out d a b.0)) b.1

kept_few : (ds out : List Way) → length (fold keep out ds) ≤ length out + length ds
kept_few [] out = omega arith
kept_few (d ∷ ds) out =
    let h = kept_few ds (keep out d) in
    let k : length (keep out d) ≤ length out + 1 =
    cond_both (there d out) _ _ (λ l. length l ≤ length out + 1) (λ _. omega arith) (λ _. simp length-append (omega arith)) in
    omega arith

-- Names of which something holds, wherever they are mentioned.
module _ (P : Name → Type 0) where
  abbrev InWord : Word → Type 0
  InWord (mark j) = Unit {0}
  InWord (open_with b) = Unit {0}
  InWord (close_with b) = Unit {0}
  InWord (connector s n) = P n

  abbrev InCut : Cut → Type 0
  InCut (ends p) = Unit {0}
  InCut (fails p r) = Unit {0}
  InCut (token p w c) = InWord w × InCut c

  abbrev Asks : Way → Type 0
  Asks d = AllByRecursion P d.left × AllByRecursion P d.right

  in_words : {c d : Cut} {ws : List Word} → After c ws d → InCut c → AllByRecursion InWord ws
  in_words (here c) h = tt
  in_words (later p w c ws d a) h = (h.0, in_words a h.1)

  in_tokens : (c : Cut) (f : Formula) → Answer c (Ok f) → InCut c → AllByRecursion InWord (tokens f)
  in_tokens c f (accepted g p a d) h = in_words a h

  asks_glue : (d e : Way) → Asks d → Asks e → Asks (glue d e)
  asks_glue d e a b = (All-append P d.left e.left a.0 b.0, All-append P d.right e.right a.1 b.1)

  asks_product : (ds es : List Way) → AllByRecursion Asks ds → AllByRecursion Asks es → AllByRecursion Asks (product ds es)
  unfolding product
  asks_product [] es a b = tt
  asks_product (d ∷ ds) es a b =
      All-append Asks (map (glue d) es) (product ds es)
      (All-map Asks (glue d) es (All-weaker Asks (λ e. Asks (glue d e)) (λ e. asks_glue d e a.0) es b))
      (asks_product ds es a.1 b)

  asks_joined : (j : Join) (ds es : List Way) → AllByRecursion Asks ds → AllByRecursion Asks es → AllByRecursion Asks (joined j ds es)
  asks_joined And = asks_product
  asks_joined Or = All-append Asks

  asks_bracketed : (b : Bracket) (ds : List Way) → AllByRecursion Asks ds → AllByRecursion Asks (bracketed b ds)
  asks_bracketed Round ds a = a
  asks_bracketed Brace ds a = All-push Asks ds free a (tt, tt)

  asks_one : (s : Side) (n : Name) → P n → Asks (asking s n)
  asks_one Left n h = ((h, tt), tt)
  asks_one Right n h = (tt, (h, tt))

  mutual
    unfolding tokens item_tokens row_tokens ways item_ways row_ways

    in_ways : (f : Formula) → AllByRecursion InWord (tokens f) → AllByRecursion Asks (ways f)
    in_ways (one i) h = in_item_ways i h
    in_ways (row j is i) h =
        let (a, b) = all_parts InWord (row_tokens j is) (mark j ∷ item_tokens i) h in
        asks_joined j (row_ways j is) (item_ways i) (in_row_ways is j a) (in_item_ways i b.1)

    in_item_ways : (i : Item) → AllByRecursion InWord (item_tokens i) → AllByRecursion Asks (item_ways i)
    in_item_ways (named s n) h = (asks_one s n h.0, tt)
    in_item_ways empty h = ((tt, tt), tt)
    in_item_ways (within b f) h =
        asks_bracketed b (ways f) (in_ways f (all_parts InWord (tokens f) (close_with b ∷ []) h.1).0)

    in_row_ways : (is : Items) (j : Join) → AllByRecursion InWord (row_tokens j is) → AllByRecursion Asks (row_ways j is)
    in_row_ways (first i) j h = in_item_ways i h
    in_row_ways (then is i) j h =
        let (a, b) = all_parts InWord (row_tokens j is) (mark j ∷ item_tokens i) h in
        asks_joined j (row_ways j is) (item_ways i) (in_row_ways is j a) (in_item_ways i b.1)

  asks_side : (d : Way) (s : Side) → Asks d → AllByRecursion P (side_of d s)
  asks_side d Left a = a.0
  asks_side d Right a = a.1

-- The names that are cut.

abbrev Bytes : List ℕ → Type 0
Bytes xs = (i : ℕ) → get_or xs i 0 < 256

abbrev InFound : Result Word Refusal → Type 0
InFound (Ok w) = InWord NamedOk w
InFound (Err r) = Unit {0}

named_ok : (xs : List ℕ) (n : ℕ) → Bytes xs → n ≤ 8 → NamedOk (take n xs)
named_ok xs n h l = (omega (arith, length-take n xs), λ j. go j (cases_lt j n))
  where
    go : (j : ℕ) → (j < n) ⊎ (n ≤ j) → get_or (take n xs) j 0 < 256
    go j (inl k) = omega (arith, get_or-take n xs j 0 k, h j)
    go j (inr k) = omega (arith, get_or_past (take n xs) j 0 (omega (arith, length-take n xs)))

signed_ok : (n : Name) (b : ℕ) → NamedOk n → InFound (signed n b)
signed_ok n b h =
    cond_both (eqb b 43) _ _ InFound (λ _. h) λ _. cond_both (eqb b 45) _ _ InFound (λ _. h) λ _. tt

found_ok : (b : ℕ) (bs : List ℕ) → Bytes (b ∷ bs) → InFound (token_at b bs)
found_ok b bs h =
    cond_both (capital b) _ _ InFound
    (λ _. cond_both (ltb 8 n) _ _ InFound (λ _. tt) λ t.
    signed_ok (take n (b ∷ bs)) (get_or (b ∷ bs) n 0) (named_ok (b ∷ bs) n h (ltb-false 8 n t))) λ _.
    cond_both (eqb b 38) _ _ InFound (λ _. tt) λ _.
    cond_both (eqb b 111 && eqb (get_or bs 0 0) 114) _ _ InFound (λ _. tt) λ _.
    cond_both (eqb b 40) _ _ InFound (λ _. tt) λ _.
    cond_both (eqb b 123) _ _ InFound (λ _. tt) λ _.
    cond_both (eqb b 41) _ _ InFound (λ _. tt) λ _.
    cond_both (eqb b 125) _ _ InFound (λ _. tt) λ _. tt
  where
    n : ℕ
    n = name_length (b ∷ bs)

placed_ok : (p : ℕ) (o : Result Word Refusal) (rest : Word → Cut) → InFound o →
    ((w : Word) → InCut NamedOk (rest w)) → InCut NamedOk (placed p o rest)
placed_ok p (Ok w) rest h k = (h, k w)
placed_ok p (Err r) rest h k = tt

cut_ok : (k p : ℕ) (bs : List ℕ) → Bytes bs → InCut NamedOk (cut_after k p bs)
unfolding cut_after
cut_ok k p [] h = tt
cut_ok (suc k) p (b ∷ bs) h = cut_ok k (suc p) bs (λ i. h (suc i))
cut_ok zero p (b ∷ bs) h =
    cond_both (eqb b 32) _ _ (InCut NamedOk) (λ _. cut_ok zero (suc p) bs (λ i. h (suc i))) λ _.
    placed_ok p (token_at b bs) _ (found_ok b bs h) (λ w. cut_ok (pred (length (spelled w))) (suc p) bs (λ i. h (suc i)))

-- What is known of the formula and its ways where the disjuncts are accepted.

abbrev Short : Way → Type 0
Short d = (length d.left ≤ 8) × (length d.right ≤ 8)

all_short : (ds : List Way) → some_long ds ≡ false → AllByRecursion Short ds
all_short [] e = tt
all_short (d ∷ ds) e =
    let (a, b) = or_parts (long d) (some_long ds) e in
    let (l, r) = or_parts (ltb 8 (length d.left)) (ltb 8 (length d.right)) a in
    ((ltb-false 8 (length d.left) l, ltb-false 8 (length d.right) r), all_short ds b)

abbrev Fitted : List Way → List Way → Type 0
Fitted ws ds = (length ws ≤ 64) × (AllByRecursion Short ws) × (ds ≡ kept ws)

fitted_ok : (ws ds : List Way) → fitted ws ≡ Ok ds → Fitted ws ds
fitted_ok ws ds =
    cond_both (ltb 64 (length ws)) _ _ (λ r. r ≡ Ok ds → Fitted ws ds) (λ _ e. never ManyWays e) λ t.
    cond_both (some_long ws) _ _ (λ r. r ≡ Ok ds → Fitted ws ds) (λ _ e. never LongList e) λ u e.
    (ltb-false 64 (length ws) t, all_short ws u, cc)
  where
    never : (r : Refusal) → ◌≡◌ {A = Result (List Way) Refusal} (Err r) (Ok ds) → Fitted ws ds
    never r e = let z : ◌≡◌ {A = ℕ} 0 1 = cc in absurd (omega arith)

abbrev Accepted : List ℕ → List Way → Type 0
Accepted xs ds = (f : Formula) × (reading xs ≡ Ok f) × Fitted (ways f) ds

accepted_ok : (xs : List ℕ) (ds : List Way) → meaning xs ≡ Ok ds → Accepted xs ds
accepted_ok xs ds = go (reading xs) refl
  where
    whole : (f : Formula) (r : Result (List Way) Refusal) → fitted (ways f) ≡ r → carried (λ x. fault 0 x) r ≡ Ok ds →
        Fitted (ways f) ds
    whole f (Ok es) e q = fitted_ok (ways f) ds (cc)
    whole f (Err x) e q = let z : ◌≡◌ {A = ℕ} 0 1 = cc in absurd (omega arith)

    go : (r : Result Formula LineFault) → reading xs ≡ r →
        handed r (λ f. carried (λ x. fault 0 x) (fitted (ways f))) ≡ Ok ds → Accepted xs ds
    go (Ok f) e q = (f, e, whole f (fitted (ways f)) refl q)
    go (Err x) e q = let z : ◌≡◌ {A = ℕ} 0 1 = cc in absurd (omega arith)

pub few_ways : (xs : List ℕ) (ds : List Way) → meaning xs ≡ Ok ds → length ds ≤ 64
few_ways xs ds e =
    let (f, r, (few, short, is)) = accepted_ok xs ds e in
    omega (arith, kept_few (ways f) [], ap length is)

pub short_sides : (xs : List ℕ) (ds : List Way) → meaning xs ≡ Ok ds → (k : ℕ) (s : Side) →
    length (side_of (get_or ds k free) s) ≤ 8
short_sides xs ds e k s =
    let (f, r, (few, short, is)) = accepted_ok xs ds e in
    let a : AllByRecursion Short ds = subst (AllByRecursion Short) (sym is) (kept_all Short (ways f) [] tt short) in
    side s (all_at Short ds free (omega arith, omega arith) a k)
  where
    side : (t : Side) → Short (get_or ds k free) → length (side_of (get_or ds k free) t) ≤ 8
    side Left h = h.0
    side Right h = h.1

-- Every name that the disjuncts mention.
pub good_names : (xs : List ℕ) → ((i : ℕ) → get_or xs i 0 < 256) → (ds : List Way) → meaning xs ≡ Ok ds →
    (k i : ℕ) (s : Side) → NamedOk (get_or (side_of (get_or ds k free) s) i [])
good_names xs h ds e k i s =
    let (f, r, (few, short, is)) = accepted_ok xs ds e in
    let w : AllByRecursion (InWord NamedOk) (tokens f) =
    in_tokens NamedOk (cut xs) f (subst (Answer (cut xs)) r (answers (cut xs))) (cut_ok 0 0 xs h) in
    let a : AllByRecursion (Asks NamedOk) ds =
    subst (AllByRecursion (Asks NamedOk)) (sym is) (kept_all (Asks NamedOk) (ways f) [] tt (in_ways NamedOk f w)) in
    let d : Asks NamedOk (get_or ds k free) = all_at (Asks NamedOk) ds free (tt, tt) a k in
    all_at NamedOk (side_of (get_or ds k free) s) [] (omega arith, λ _. omega arith)
    (asks_side NamedOk (get_or ds k free) s d) i
