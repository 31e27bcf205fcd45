-- What each call answers and makes of the ledger, by the entries of the rows: where it is refused, and where it is accepted.
use Rattle.std.proofs.Common.{◌≡◌, ℕ, zero, suc, ◌-◌, ◌<◌, ◌≤◌, Bool, true, false, cond, not, ◌&&◌, ◌||◌, eqb, ltb, List, [], ◌∷◌, ◌++◌, length, map, take, set, Some, Ok, Err, subst, subst₂, sym, refl, ap, ◌∙◌, ap₂, arith, take_all}
use mir.Val.{bool_byte}
use Rattle.std.proofs.Math.Bridge.{le_prop}
use Rattle.std.specs.List.{slice_get}
use Rattle.std.specs.Option.{ok_or}
use Rattle.std.proofs.lemmas.List.{get_or-map, length-map, map-append, set_past, take-map}
use Rattle.std.proofs.lemmas.Option.{get_or_from_slice_get, slice_get_within}
use Rattle.std.proofs.lemmas.Bool.{and_from, cond_above, cond_below, cond-false, cond-true, lt-ltb}
use Rattle.refusal.specs.declared.Refusal.{Refusal}
use Rattle.refusal.specs.declared.Refusal.TheVariants.{NoPosition, NoDisjunct}
use Rattle.lexicon.specs.Lexicon.{Lexicon}
use Rattle.linkage.specs.declared.call.Call.{Call}
use Rattle.linkage.specs.declared.call.Call.TheVariants.{Add, Drop, Change, Strike, Allow}
use Rattle.linkage.specs.Ledgers.{Ledger, Row, found, fresh, most_words, row_at, seen, step, steps, with_strike, without_strike}
use Rattle.linkage.specs.Lists.{filter, range}
use Rattle.linkage.specs.Sentences.{unstruck}
use Rattle.linkage.specs.Trims.{marked}
use Rattle.rows.specs.declared.Entry.{Entry}
use Rattle.rows.specs.declared.Rows.{Rows}
use Rattle.rows.specs.Answers.{Answer, counted, if_known, if_there, standing_of, word_of}
use Rattle.rows.specs.Edits.{Edited, GoesOn}
use Rattle.rows.specs.Sets.{members}
use Rattle.rows.specs.Tables.{ledger_of, marks_of, no_marks, row}

-- One call more of a history.
steps_more : (lex : Lexicon) (g : Ledger) (cs : List Call) (c : Call) →
    steps lex g (cs ++ (c ∷ [])) ≡ step lex (steps lex g cs) c
steps_more lex g [] c = refl
steps_more lex g (b ∷ cs) c = steps_more lex (step lex g b) cs c

-- Rows are their entries and marks: their bounds are facts, each of which holds in one way.
alike : (r s : Rows) → r.entries ≡ s.entries → r.marked ≡ s.marked → r ≡ s
alike r s k m =
    subst₂ (λ es ms. (f : length es.items ≤ most_words) (w : length ms.items ≤ length es.items)
    → ◌≡◌ {A = Rows} r (record { entries = es; marked = ms; few = f; within = w })) k m
    (λ f w i. record { entries = r.entries; marked = r.marked; few = le_prop r.few f i; within = le_prop r.within w i }) s.few s.within

module _ (lex : Lexicon) (r : Rows) (c : Call) where
  goes_on : (h : Ledger) → h ≡ step lex (ledger_of r) c → GoesOn lex (ledger_of r) h c
  goes_on h e cs d = e ∙ ap (λ g. step lex g c) d ∙ sym (steps_more lex [] cs c)

  pub refused : {e : Refusal} → ledger_of r ≡ step lex (ledger_of r) c → Edited lex r r c (Err e)
  refused e = record { stepped = e; history = goes_on (ledger_of r) e; cleared = refl }

  -- The same where the entries and marks are known to stand as they did.
  pub refused_alike : {s : Rows} {e : Refusal} → r.entries ≡ s.entries → r.marked ≡ s.marked → ledger_of r ≡ step lex (ledger_of r) c → Edited lex r s c (Err e)
  refused_alike {s} {e} k m h = subst (λ t. Edited lex r t c (Err e)) (alike r s k m) (refused h)

  pub accepted : {s : Rows} {a : ℕ} → ledger_of s ≡ step lex (ledger_of r) c → marks_of s ≡ no_marks →
      Edited lex r s c (Ok a)
  accepted {s} e m = record { stepped = e; history = goes_on (ledger_of s) e; cleared = m }

byte : (b : Bool) → bool_byte b ≡ counted b
byte true = refl
byte false = refl

abbrev pub with : ℕ → (ℕ → Bool) → Row
with w f = record { word = w; struck = f }

-- A position that is looked up and is not there.
pub is_missing : (es : List Entry) (p : ℕ) (e : Refusal) → Err e ≡ ok_or (slice_get es p) NoPosition → (length es ≤ p) × (e ≡ NoPosition)
is_missing [] p e h = (omega arith, cc)
is_missing (x ∷ es) zero e h = let z : ◌≡◌ {A = ℕ} 0 1 = cc in absurd (omega arith)
is_missing (x ∷ es) (suc p) e h = let r = is_missing es p e h in (omega (arith, r.0), r.1)

pub is_there : (es : List Entry) (p : ℕ) (e : Entry) → Ok e ≡ ok_or (slice_get es p) NoPosition → slice_get es p ≡ Some e
is_there [] p e h = let z : ◌≡◌ {A = ℕ} 0 1 = cc in absurd (omega arith)
is_there (x ∷ es) zero e h = let q : e ≡ x = cc in ap Some (sym q)
is_there (x ∷ es) (suc p) e h = is_there es p e h

module _ (r : Rows) where
  abbrev es : List Entry
  es = r.entries.items

  abbrev g : Ledger
  g = ledger_of r

  pub length_ledger : length g ≡ length es
  length_ledger = length-map es row

  -- Add, at most words and below.
  pub still_full : (lex : Lexicon) (w : ℕ) → most_words ≤ length es → g ≡ step lex g (Add w)
  still_full lex w h = cond_above (length g) most_words _ _ _ (rw length_ledger h) refl

  pub adds : (lex : Lexicon) (w : ℕ) (e : Entry) → length es < most_words → row e ≡ fresh w →
      map row (es ++ (e ∷ [])) ≡ step lex g (Add w)
  adds lex w e h f =
      map-append row es (e ∷ []) ∙ ap (λ x. g ++ (x ∷ [])) f
      ∙ cond_below (length g) most_words _ _ (rw length_ledger h)

  pub still_wordless : (lex : Lexicon) → length es ≡ 0 → g ≡ step lex g Drop
  still_wordless lex h = let e = length_ledger in sym (take_all (length g - 1) g (omega arith))

  pub drops : (lex : Lexicon) → map row (take (length es - 1) es) ≡ step lex g Drop
  drops lex = sym (take-map row (length es - 1) es) ∙ ap (λ k. take (k - 1) g) (sym length_ledger)

  -- A disjunct that is not found is neither struck nor allowed.
  module _ (lex : Lexicon) (p d : ℕ) (lacks : found lex g p d ≡ false) where
    pub not_struck : g ≡ step lex g (Strike p d)
    not_struck = sym (cond-false _ _ _ lacks)

    pub not_allowed : g ≡ step lex g (Allow p d)
    not_allowed = sym (cond-false _ _ _ lacks)

  pub not_changed : (lex : Lexicon) (p w : ℕ) → length es ≤ p → g ≡ step lex g (Change p w)
  not_changed lex p w h = sym (set_past g p (fresh w) (rw length_ledger h))

  -- An entry that is there.
  module _ (p : ℕ) (e : Entry) (here : slice_get es p ≡ Some e) where
    within : p < length es
    within = slice_get_within es p e here

    row_there : row_at g p ≡ row e
    row_there = get_or-map row es p e (fresh 0) within ∙ ap row (get_or_from_slice_get es p e e here)

    somewhere : (a : Answer) → a ≡ if_there g p a
    somewhere a = cond_below p (length g) _ _ (rw length_ledger within)

    pub word_there : Ok e.word ≡ word_of g p
    word_there = ap (λ (x : Row). Ok x.word) (sym row_there) ∙ somewhere (Ok (row_at g p).word)

    pub stands : (lex : Lexicon) (f : ℕ → Bool) (m : ℕ) →
        f ≡ (λ k. members e.struck k || marks_of r p k) → m ≡ length (lex.disjuncts e.word) →
        Ok (length (filter (λ k. not (f k)) (range 0 m))) ≡ standing_of lex g (marks_of r) p
    stands lex f m u d =
        ap₂ (λ h k. Ok (length (filter (λ i. not (h i)) (range 0 k)))) u d
        ∙ ap (λ x. Ok (length (unstruck (marked (seen lex x) (marks_of r p))))) (sym row_there)
        ∙ somewhere (Ok (length (unstruck (marked (seen lex (row_at g p)) (marks_of r p)))))

    module _ (lex : Lexicon) (d : ℕ) (k : d < length (lex.disjuncts e.word)) where
      known : d < length (lex.disjuncts (row_at g p).word)
      known = rw row_there k

      -- What a call on a disjunct changes is counted by whether it was struck.
      pub is_known : (f : Bool → Bool) (a : ℕ) (b : Bool) → a ≡ bool_byte b → b ≡ f (members e.struck d) →
          Ok a ≡ if_known lex g p d (Ok (counted (f ((row_at g p).struck d))))
      is_known f a b n t =
          let answer : Answer = Ok (counted (f ((row_at g p).struck d))) in
          ap Ok (n ∙ byte b ∙ ap counted (t ∙ ap (λ (x : Row). f (x.struck d)) (sym row_there)))
          ∙ cond_below d (length (lex.disjuncts (row_at g p).word)) answer _ known
          ∙ somewhere (cond (ltb d (length (lex.disjuncts (row_at g p).word))) answer (Err NoDisjunct))

      is_found : found lex g p d ≡ true
      is_found = and_from _ _ (lt-ltb p (length g) (rw length_ledger within)) (lt-ltb d (length (lex.disjuncts (row_at g p).word)) known)

      pub strikes : (f : ℕ → Bool) → f ≡ (λ i. eqb i d || members e.struck i) →
          set g p (with e.word f) ≡ step lex g (Strike p d)
      strikes f u =
          ap (set g p) (ap (with e.word) u ∙ ap (with_strike d) (sym row_there))
          ∙ sym (cond-true _ _ _ is_found)

      pub allows : (f : ℕ → Bool) → f ≡ (λ i. not (eqb i d) && members e.struck i) →
          set g p (with e.word f) ≡ step lex g (Allow p d)
      allows f u =
          ap (set g p) (ap (with e.word) u ∙ ap (without_strike d) (sym row_there))
          ∙ sym (cond-true _ _ _ is_found)
