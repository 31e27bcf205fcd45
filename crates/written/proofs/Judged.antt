-- What a line makes of a book, by how far it passes its tests, and what an accepted formula brings along.
use Rattle.std.proofs.Common.{◌≡◌, ℕ, suc, ◌+◌, ◌<◌, true, false, cond, List, get_or, Ok, Err, Result, sym, ap, ◌∙◌, subst, arith, get_or-drop, MatchResult}
use Rattle.refusal.specs.declared.Refusal.{Refusal}
use Rattle.refusal.specs.declared.Refusal.TheVariants.{LineForm}
use Rattle.refusal.specs.declared.fault.LineFault.{LineFault}
use Rattle.refusal.specs.Faults.{carried, of_line, then}
use Rattle.formula.specs.Meaning.{meaning}
use Rattle.formula.specs.Ways.{Way}
use Rattle.formula.proofs.Good.{few_ways, good_names, short_sides}
use Rattle.written.specs.declared.line.Parts.{Parts}
use Rattle.written.specs.Drafts.{Book, entered, lined}
use Rattle.written.specs.Lines.{formula_part, good_line, line_words, tab_place, words_part}
use Rattle.written.specs.Model.{Fitting}

-- An accepted formula's disjuncts are few, and their lists and names are short.
pub fits : (line : List ℕ) → ((i : ℕ) → get_or line i 0 < 256) → (ds : List Way) → meaning (formula_part line) ≡ Ok ds → Fitting ds
fits line bytes ds m =
    let good = good_names (formula_part line)
    (λ i. subst (λ (b : ℕ). b < 256) (sym (get_or-drop (suc (tab_place line)) line i 0)) (bytes (suc (tab_place line) + i))) ds m in
    record {
      few = few_ways (formula_part line) ds m;
      lists = short_sides (formula_part line) ds m;
      names = λ k i s. (good k i s).0;
      bytes = λ k i s. (good k i s).1;
    }

-- A line without its form, one whose formula is refused, and one whose formula has a meaning.
abbrev pub Split : List ℕ → Result Parts Refusal → Type 0
Split line r = MatchResult r
    (λ p. (good_line line ≡ true) × (p.words.now ≡ words_part line) × (p.formula.now ≡ formula_part line))
    (λ e. (good_line line ≡ false) × (e ≡ LineForm))

module _ (lim : ℕ) (b : Book) (line : List ℕ) where
  abbrev rest : Result Book LineFault
  rest = then (meaning (formula_part line)) (λ ds. entered lim b (line_words line) ds)

  pub formless : (r : Result Parts Refusal) (f : LineFault) → Split line r → carried of_line r ≡ Err f → lined lim b line ≡ Err f
  formless (Ok q) f s e = let z : ◌≡◌ {A = ℕ} 0 1 = cc in absurd (omega arith)
  formless (Err x) f (g, q) e = ap (λ t. cond t rest (Err (of_line LineForm))) g ∙ ap Err (ap of_line (sym q) ∙ same)
    where
      same : of_line x ≡ f
      same = cc

  module _ (good : good_line line ≡ true) where
    pub faulty : (e : LineFault) → meaning (formula_part line) ≡ Err e → lined lim b line ≡ Err e
    faulty e m =
        ap (λ t. cond t rest (Err (of_line LineForm))) good
        ∙ ap (λ t. then t (λ ds. entered lim b (line_words line) ds)) m

    pub read_well : (ds : List Way) → meaning (formula_part line) ≡ Ok ds → lined lim b line ≡ entered lim b (line_words line) ds
    read_well ds m =
        ap (λ t. cond t rest (Err (of_line LineForm))) good
        ∙ ap (λ t. then t (λ ds. entered lim b (line_words line) ds)) m
