-- The reading of a formula is the one answer that its tokens have.
--
-- A state of the reader keeps all that was said: from it `spoken` has the tokens again, and `height` how deep their
-- brackets nest, the open ones included. A step adds its token to what is spoken, and raises the height just to the
-- depth that the reader asks about. So a run over the tokens of a formula ends with that formula, and a run that ends with a
-- formula went over its tokens. From any state a formula can be ended with no more brackets opened. Hence tokens can be
-- continued to a formula just if there is a run over them, and to one of an allowed depth just if its height is allowed
-- too. Both are what the reader asks at each token.
use Rattle.std.proofs.Common.{◌≡◌, ℕ, ◌+◌, ◌≤◌, max, true, ltb, List, [], ◌∷◌, ◌++◌, Some, None, Err, Option, Result, sym, refl, ap, ◌∙◌, subst, append_assoc, append-nil, arith}
use Rattle.std.proofs.lemmas.Bool.{cond-true, cond-false, cond_both, lt-ltb, le-ltb, ltb-true, ltb-false}
use Rattle.lexicon.specs.declared.side.Side.TheVariants.{Right}
use Rattle.refusal.specs.declared.Refusal.TheVariants.{OutOfPlace, TooDeep}
use Rattle.refusal.specs.declared.fault.LineFault.{LineFault}
use Rattle.formula.specs.declared.token.Join.{Join}
use Rattle.formula.specs.declared.token.Join.TheVariants.{And, Or}
use Rattle.formula.specs.declared.token.Bracket.{Bracket}
use Rattle.formula.specs.declared.token.Bracket.TheVariants.{Round, Brace}
use Rattle.formula.specs.Tokens.{Word, mark, open_with, close_with, connector}
use Rattle.formula.specs.Formulas.{Formula, one, row, Item, named, empty, within, Items, first, then}
use Rattle.formula.specs.Formulas.{tokens, item_tokens, row_tokens, depth, item_depth, row_depth}
use Rattle.formula.specs.Cuts.{Cut, ends, fails, token, cut}
use Rattle.formula.specs.Reading.{Before, nothing, after, Open, top, inside, State, wants, has, add, close, go_on, step}
use Rattle.formula.specs.Reading.{open_depth, state_depth, finished, judged, read, start, After, here, later}
use Rattle.formula.specs.Reading.{Possible, Allowed, Answer, accepted, misplaced, unfinished, too_deep, no_token}
use Rattle.formula.specs.Reading.{RightAnswer}
use Rattle.refusal.specs.Faults.{fault}

-- What was said.

abbrev spoken_before : Before → List Word
spoken_before nothing = []
spoken_before (after j is) = row_tokens j is ++ (mark j ∷ [])

abbrev spoken_open : Open → List Word
spoken_open top = []
spoken_open (inside k b o) = spoken_open o ++ (spoken_before b ++ (open_with k ∷ []))

abbrev spoken : State → List Word
spoken (wants b o) = spoken_open o ++ spoken_before b
spoken (has f o) = spoken_open o ++ tokens f

-- How deep it nests.

abbrev before_depth : Before → ℕ
before_depth nothing = 0
before_depth (after j is) = row_depth is

abbrev base : Open → ℕ
base top = 0
base (inside k b o) = max (base o) (open_depth o + before_depth b)

abbrev height : State → ℕ
height (wants b o) = max (base o) (open_depth o + before_depth b)
height (has f o) = max (base o) (open_depth o + depth f)

depth_height : (s : State) → state_depth s ≤ height s
depth_height (wants b o) = omega arith
depth_height (has f o) = omega arith

add_tokens : (b : Before) (i : Item) → tokens (add b i) ≡ spoken_before b ++ item_tokens i
unfolding tokens
add_tokens nothing i = refl
add_tokens (after j is) i = sym (append_assoc (row_tokens j is) (mark j ∷ []) (item_tokens i))

add_depth : (b : Before) (i : Item) → depth (add b i) ≡ max (before_depth b) (item_depth i)
unfolding depth
add_depth nothing i = omega arith
add_depth (after j is) i = refl

-- What a step adds.
abbrev Adds : State → Word → Option State → Type 0
Adds s w None = Unit {0}
Adds s w (Some t) = (spoken t ≡ spoken s ++ (w ∷ [])) × (height t ≡ max (height s) (state_depth t))

adds_item : (b : Before) (o : Open) (i : Item) →
    (spoken (has (add b i) o) ≡ spoken (wants b o) ++ item_tokens i) ×
    (height (has (add b i) o) ≡ max (height (wants b o)) (open_depth o + item_depth i))
adds_item b o i =
    (rw add_tokens (sym (append_assoc (spoken_open o) (spoken_before b) (item_tokens i))), omega (arith, add_depth b i))

adds_close : (k : Bracket) (f : Formula) (b : Before) (o : Open) →
    Adds (has f (inside k b o)) (close_with k) (Some (has (add b (within k f)) o))
unfolding item_tokens item_depth open_depth
adds_close k f b o =
    let h = adds_item b o (within k f) in
    (h.0 ∙ simp append_assoc, omega arith)

adds_mark : (j : Join) (is : Items) (i : Item) (o : Open) →
    Adds (has (row j is i) o) (mark j) (Some (wants (after j (then is i)) o))
unfolding tokens row_tokens depth row_depth
adds_mark j is i o = (simp append_assoc, omega arith)

adds : (s : State) (w : Word) → Adds s w (step s w)
unfolding tokens row_tokens item_tokens depth row_depth item_depth open_depth
adds (wants b o) (mark j) = tt
adds (wants b o) (open_with k) = (simp (append-nil, append_assoc), omega arith)
adds (wants nothing top) (close_with k) = tt
adds (wants nothing (inside Round b o)) (close_with Round) =
    let h = adds_item b o empty in
    (h.0 ∙ simp (append-nil, append_assoc), omega arith)
adds (wants nothing (inside Round b o)) (close_with Brace) = tt
adds (wants nothing (inside Brace b o)) (close_with k) = tt
adds (wants (after j is) o) (close_with k) = tt
adds (wants b o) (connector s n) =
    let h = adds_item b o (named s n) in
    (h.0, omega arith)
adds (has (one i) o) (mark j) = (sym (append_assoc (spoken_open o) (item_tokens i) (mark j ∷ [])), omega arith)
adds (has (row And is i) o) (mark And) = adds_mark And is i o
adds (has (row And is i) o) (mark Or) = tt
adds (has (row Or is i) o) (mark And) = tt
adds (has (row Or is i) o) (mark Or) = adds_mark Or is i o
adds (has f o) (open_with k) = tt
adds (has f top) (close_with k) = tt
adds (has f (inside Round b o)) (close_with Round) = adds_close Round f b o
adds (has f (inside Round b o)) (close_with Brace) = tt
adds (has f (inside Brace b o)) (close_with Round) = tt
adds (has f (inside Brace b o)) (close_with Brace) = adds_close Brace f b o
adds (has f o) (connector s n) = tt

-- Runs.

abbrev steps : Option State → List Word → Option State
steps o [] = o
steps None (w ∷ ws) = None
steps (Some s) (w ∷ ws) = steps (step s w) ws

abbrev Runs : State → List Word → State → Type 0
Runs s ws t = steps (Some s) ws ≡ Some t

steps_append : (o : Option State) (ws more : List Word) → steps o (ws ++ more) ≡ steps (steps o ws) more
steps_append o [] more = refl
steps_append None (w ∷ ws) [] = refl
steps_append None (w ∷ ws) (v ∷ more) = refl
steps_append (Some s) (w ∷ ws) more = steps_append (step s w) ws more

never : {X : Type 0} (ws : List Word) {t : State} → steps None ws ≡ Some t → X
never [] e = let z : ◌≡◌ {A = ℕ} 0 1 = cc in absurd (omega arith)
never (w ∷ ws) e = let z : ◌≡◌ {A = ℕ} 0 1 = cc in absurd (omega arith)

-- What a run adds.
abbrev Ran : State → List Word → State → Type 0
Ran s ws t = (spoken t ≡ spoken s ++ ws) × (height s ≤ height t)

ran : (s : State) (ws : List Word) (t : State) → Runs s ws t → Ran s ws t
ran s [] t e = let q : s ≡ t = cc in (sym (append-nil (spoken s) ∙ ap spoken q), omega (arith, ap height q))
ran s (w ∷ ws) t e = go (step s w) (adds s w) e (λ u. ran u ws t)
  where
    go : (o : Option State) → Adds s w o → steps o ws ≡ Some t → ((u : State) → Runs u ws t → Ran u ws t) →
        Ran s (w ∷ ws) t
    go None a q ih = never ws q
    go (Some u) a q ih =
        let h = ih u q in
        (h.0 ∙ ap (λ l. l ++ ws) a.0 ∙ append_assoc (spoken s) (w ∷ []) ws, omega arith)

-- A run over the tokens of a formula ends with it.

-- The formula that the items of a row make.
abbrev made : Join → Items → Formula
made j (first i) = one i
made j (then is i) = row j is i

close_same : (k : Bracket) (f : Formula) (b : Before) (o : Open) →
    close f (inside k b o) k ≡ Some (has (add b (within k f)) o)
close_same Round f b o = refl
close_same Brace f b o = refl

go_on_same : (j : Join) (is : Items) (o : Open) → go_on (made j is) j o ≡ Some (wants (after j is) o)
go_on_same j (first i) o = refl
go_on_same And (then is i) o = refl
go_on_same Or (then is i) o = refl

run_row : (j : Join) (is : Items) (i : Item) (o : Open) → Runs (wants nothing o) (row_tokens j is) (has (made j is) o) →
    Runs (wants (after j is) o) (item_tokens i) (has (row j is i) o) →
    Runs (wants nothing o) (row_tokens j is ++ (mark j ∷ item_tokens i)) (has (row j is i) o)
run_row j is i o p q =
    steps_append (Some (wants nothing o)) (row_tokens j is) (mark j ∷ item_tokens i)
    ∙ ap (λ r. steps r (mark j ∷ item_tokens i)) p ∙ ap (λ r. steps r (item_tokens i)) (go_on_same j is o) ∙ q

mutual
  unfolding tokens item_tokens row_tokens

  run_formula : (f : Formula) (o : Open) → Runs (wants nothing o) (tokens f) (has f o)
  run_formula (one i) o = run_item i nothing o
  run_formula (row j is i) o = run_row j is i o (run_items is j o) (run_item i (after j is) o)

  run_item : (i : Item) (b : Before) (o : Open) → Runs (wants b o) (item_tokens i) (has (add b i) o)
  run_item (named s n) b o = refl
  run_item empty b o = refl
  run_item (within k f) b o =
      steps_append (Some (wants nothing (inside k b o))) (tokens f) (close_with k ∷ [])
      ∙ ap (λ r. steps r (close_with k ∷ [])) (run_formula f (inside k b o)) ∙ close_same k f b o

  run_items : (is : Items) (j : Join) (o : Open) → Runs (wants nothing o) (row_tokens j is) (has (made j is) o)
  run_items (first i) j o = run_item i nothing o
  run_items (then is i) j o = run_row j is i o (run_items is j o) (run_item i (after j is) o)

-- Tokens that can be continued to a formula of at most some depth: `Allowed ws` is `Within ws 16`.
abbrev Within : List Word → ℕ → Type 0
Within ws h = (f : Formula) × ((more : List Word) × ((ws ++ more ≡ tokens f) × (depth f ≤ h)))

-- What is spoken in a state can be, to its height.
abbrev Ends : State → Type 0
Ends s = Within (spoken s) (height s)

ends_from : (s : State) (w : Word) (t : State) → step s w ≡ Some t → state_depth t ≤ state_depth s → Ends t → Ends s
ends_from s w t e h (f, (more, (q, d))) =
    let a : Adds s w (Some t) = subst (Adds s w) e (adds s w) in
    let r : spoken s ++ (w ∷ more) ≡ tokens f =
    sym (append_assoc (spoken s) (w ∷ []) more) ∙ ap (λ l. l ++ more) (sym a.0) ∙ q in
    (f, (w ∷ more, (r, omega (arith, depth_height s))))

has_ends : (f : Formula) (o : Open) → Ends (has f o)
unfolding open_depth
has_ends f top = (f, ([], (append-nil (tokens f), omega arith)))
has_ends f (inside k b o) =
    ends_from (has f (inside k b o)) (close_with k) (has (add b (within k f)) o) (close_same k f b o) (omega arith)
    (has_ends (add b (within k f)) o)

all_end : (s : State) → Ends s
all_end (wants b o) =
    let f : Formula = add b (named Right []) in
    ends_from (wants b o) (connector Right []) (has f o) refl (omega arith) (has_ends f o)
all_end (has f o) = has_ends f o

-- From a run to a formula, and back.

within_run : (ws : List Word) (s : State) → Runs start ws s → Within ws (height s)
within_run ws s e = subst (λ l. Within l (height s)) (ran start ws s e).0 (all_end s)

possible : (ws : List Word) (s : State) → Runs start ws s → Possible ws
possible ws s e = let (f, (more, (q, d))) = within_run ws s e in (f, (more, q))

allowed : (ws : List Word) (s : State) → Runs start ws s → height s ≤ 16 → Allowed ws
allowed ws s e h = let (f, (more, (q, d))) = within_run ws s e in (f, (more, (q, omega arith)))

run_of : (ws : List Word) (h : ℕ) → Within ws h → (s : State) × (Runs start ws s × (height s ≤ h))
unfolding open_depth
run_of ws h (f, (more, (e, d))) = go (steps (Some start) ws) refl
  where
    all : (o : Option State) → steps (Some start) ws ≡ o → steps o more ≡ Some (has f top)
    all o q =
        ap (λ r. steps r more) (sym q) ∙ sym (steps_append (Some start) ws more) ∙ ap (steps (Some start)) e
        ∙ run_formula f top

    go : (o : Option State) → steps (Some start) ws ≡ o → (s : State) × (Runs start ws s × (height s ≤ h))
    go None q = never more (all None q)
    go (Some s) q = (s, (q, omega (arith, (ran s more (has f top) (all (Some s) q)).1)))

any_run_of : (ws : List Word) → Possible ws → (s : State) × Runs start ws s
any_run_of ws (f, (more, e)) = let (s, (q, h)) = run_of ws (depth f) (f, (more, (e, omega arith))) in (s, q)

-- Where a formula is had.

same_tokens : (ws : List Word) (f : Formula) → Runs start ws (has f top) → ws ≡ tokens f
same_tokens ws f e = sym (ran start ws (has f top) e).0

same_state : (ws : List Word) (s : State) (f : Formula) → Runs start ws s → ws ≡ tokens f → s ≡ has f top
same_state ws s f e q = let r : Runs start ws (has f top) = ap (steps (Some start)) q ∙ run_formula f top in cc

abbrev Had : State → Type 0
Had (wants b o) = ⊥
Had (has f top) = Unit {0}
Had (has f (inside k b o)) = ⊥

-- The reading is an answer.

after_more : {c d : Cut} {ws : List Word} (p : ℕ) (w : Word) (e : Cut) → After c ws d → d ≡ token p w e →
    After c (ws ++ (w ∷ [])) e
after_more p w e (here c) q = subst (λ x. After x (w ∷ []) e) (sym q) (later p w e [] e (here e))
after_more p w e (later p' w' c ws d a) q = later p' w' c (ws ++ (w ∷ [])) e (after_more p w e a q)

onward : (ws : List Word) (s : State) (w : Word) → Runs start ws s → steps (Some start) (ws ++ (w ∷ [])) ≡ step s w
onward ws s w e = steps_append (Some start) ws (w ∷ []) ∙ ap (λ r. steps r (w ∷ [])) e

module _ (whole : Cut) where
  -- What is read from a part of the cut on is an answer, if a low run over the tokens before it leads there.
  abbrev Good : Cut → State → Type 0
  Good c s = (ws : List Word) → After whole ws c → Runs start ws s → height s ≤ 16 → Answer whole (read s c)

  open_end : (p : ℕ) (s : State) → (Had s → ⊥) → finished s p ≡ Err (fault p OutOfPlace) → Good (ends p) s
  unfolding read
  open_end p s n e ws a r h =
      rw e (unfinished ws p a (allowed ws s r h) (λ f q. n (subst Had (sym (same_state ws s f r q)) tt)))

  answer : (c : Cut) (s : State) → Good c s
  unfolding read open_depth
  answer (ends p) (wants b o) = open_end p (wants b o) (λ x. x) refl
  answer (ends p) (has f top) =
      λ ws a e h. accepted f p (subst (λ l. After whole l (ends p)) (same_tokens ws f e) a) (omega arith)
  answer (ends p) (has f (inside k b o)) = open_end p (has f (inside k b o)) (λ x. x) refl
  answer (fails p r) s = λ ws a e h. no_token ws p r a (allowed ws s e h)
  answer (token p w c) s =
      λ ws a e h. go ws a (allowed ws s e h) h (step s w) (adds s w) (onward ws s w e) (λ t. answer c t)
    where
      go : (ws : List Word) → After whole ws (token p w c) → Allowed ws → height s ≤ 16 →
          (o : Option State) → Adds s w o →
          steps (Some start) (ws ++ (w ∷ [])) ≡ o → ((t : State) → Good c t) → Answer whole (judged p o (λ t. read t c))
      go ws a m h None g q ih =
          misplaced ws p w c a m λ k. never [] (sym q ∙ (any_run_of (ws ++ (w ∷ [])) k).1)
      go ws a m h (Some t) g q ih =
          cond_both (ltb 16 (state_depth t)) _ _ (Answer whole)
          (λ y. too_deep ws p w c a m (possible (ws ++ (w ∷ [])) t q) (λ k. high y (run_of (ws ++ (w ∷ [])) 16 k)))
          (λ n. ih t (ws ++ (w ∷ [])) (after_more p w c a refl) q (omega (arith, ltb-false 16 (state_depth t) n)))
        where
          high : ltb 16 (state_depth t) ≡ true → (u : State) × (Runs start (ws ++ (w ∷ [])) u × (height u ≤ 16)) → ⊥
          high y (u, (r, l)) =
              let v : t ≡ u = cc in
              omega (arith, ltb-true 16 (state_depth t) y, ap height v)

pub answers : (c : Cut) → Answer c (read start c)
unfolding open_depth
answers c = answer c c start [] (here c) refl (omega arith)

-- And the only one.

-- A reading goes along a run that stays low.
follow : {c d : Cut} {ws : List Word} → After c ws d → (s t : State) → Runs s ws t → height t ≤ 16 → read s c ≡ read t d
unfolding read
follow (here c) s t e h = let q : s ≡ t = cc in ap (λ u. read u c) q
follow (later p w c ws d a) s t e h = go (step s w) e (λ u q. follow a u t q h)
  where
    go : (o : Option State) → steps o ws ≡ Some t → ((u : State) → Runs u ws t → read u c ≡ read t d) →
        judged p o (λ u. read u c) ≡ read t d
    go None q ih = never ws q
    go (Some u) q ih =
        let l : state_depth u ≤ 16 = omega (arith, depth_height u, (ran u ws t q).1) in
        cond-false (ltb 16 (state_depth u)) _ _ (le-ltb 16 (state_depth u) l) ∙ ih u q

judged_none : (p : ℕ) (o : Option State) (rest : State → Result Formula LineFault) → ((t : State) → o ≡ Some t → ⊥) →
    judged p o rest ≡ Err (fault p OutOfPlace)
judged_none p None rest h = refl
judged_none p (Some t) rest h = absurd (h t refl)

judged_deep : (p : ℕ) (o : Option State) (rest : State → Result Formula LineFault) (t : State) → o ≡ Some t →
    (state_depth t ≤ 16 → ⊥) → judged p o rest ≡ Err (fault p TooDeep)
judged_deep p o rest t e h =
    ap (λ r. judged p r rest) e ∙ cond-true (ltb 16 (state_depth t)) _ _ (lt-ltb 16 (state_depth t) (omega arith))

finished_none : (p : ℕ) (s : State) → ((f : Formula) → s ≡ has f top → ⊥) → finished s p ≡ Err (fault p OutOfPlace)
finished_none p (wants b o) h = refl
finished_none p (has f top) h = absurd (h f refl)
finished_none p (has f (inside k b o)) h = refl

pub only : (c : Cut) (r : Result Formula LineFault) → Answer c r → r ≡ read start c
unfolding read open_depth
only c r (accepted f p a h) = sym (follow a start (has f top) (run_formula f top) (omega arith))
only c r (misplaced ws p w d a m stuck) =
    let (s, (e, h)) = run_of ws 16 m in
    sym (follow a start s e h
    ∙ judged_none p (step s w) (λ t. read t d) (λ t q. stuck (possible (ws ++ (w ∷ [])) t (onward ws s w e ∙ q))))
only c r (unfinished ws p a m other) =
    let (s, (e, h)) = run_of ws 16 m in
    sym (follow a start s e h ∙ finished_none p s (λ f q. other f (same_tokens ws f (e ∙ ap Some q))))
only c r (too_deep ws p w d a m can deep) =
    let (s, (e, h)) = run_of ws 16 m in
    let (t, q) = any_run_of (ws ++ (w ∷ [])) can in
    let g : step s w ≡ Some t = sym (onward ws s w e) ∙ q in
    let k : Adds s w (Some t) = subst (Adds s w) g (adds s w) in
    sym (follow a start s e h
    ∙ judged_deep p (step s w) (λ t. read t d) t g (λ l. deep (allowed (ws ++ (w ∷ [])) t q (omega arith))))
only c r (no_token ws p x a m) = let (s, (e, h)) = run_of ws 16 m in sym (follow a start s e h)

pub right_answer : (bytes : List ℕ) → RightAnswer bytes
right_answer bytes = (answers (cut bytes), only (cut bytes))
