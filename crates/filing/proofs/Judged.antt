-- The answer to tests of which the first ones are made before the others; and that a filing over the words of a dictionary is judged right.
use Rattle.std.proofs.Common.{◌≡◌, ℕ, ◌≤◌, Bool, true, false, List, [], ◌∷◌, ◌++◌, length, Ok, sym, refl, ap, ◌∙◌, subst, subst₂, ap₂, arith, inl, inr}
use Rattle.std.proofs.lemmas.Bool.{cases_lt}
use Rattle.refusal.specs.declared.Refusal.{Refusal}
use Rattle.refusal.specs.declared.Refusal.TheVariants.{LinkEnds, LinkOrder}
use Rattle.lexicon.specs.Lexicon.{Lexicon}
use Rattle.lexicon.specs.Limits.{FewDisjuncts}
use Rattle.linkage.specs.Ledgers as ledgers
use Rattle.linkage.specs.Ledgers.{Ledger, row_at}
use Rattle.linkage.specs.Linkages.{Linkage}
use Rattle.linkage.specs.Parts.{parts}
use Rattle.linkage.specs.Sentences.{Position, position, size}
use Rattle.linkage.specs.declared.link.Link.{Link}
use Rattle.linkage.proofs.Joins.{Wire}
use Rattle.filing.specs.Filings.{JudgedRight, checked, choice_tests, judged, link_tests, pairs, rule_tests, tested}
use Rattle.filing.specs.Given.{linkage, sentence}
use Rattle.filing.specs.declared.choice.Choices.{Choices}
use Rattle.filing.specs.declared.linked.Filing.{Filing}
use Rattle.filing.proofs.Filed.{links_rise}
use Rattle.filing.proofs.Right.{judged_right}
use Rattle.filing.proofs.Seen.{position_past, position_there}

-- Behind tests that pass the others are made.
pub passes_on : {A : Type 0} (ts us : List (Bool × Refusal)) (a : A) → Ok tt ≡ tested ts → judged (ts ++ us) a ≡ judged us a
passes_on [] us a h = refl
passes_on ((true, r) ∷ ts) us a h = passes_on ts us a h
passes_on ((false, r) ∷ ts) us a h = let z : ◌≡◌ {A = ℕ} 0 1 = cc in absurd (omega arith)

-- Each test passes where the choices do, the links are a filing with them, and the rules are kept.
pub accepted : {D : Type 0} (m : D → Lexicon) (c : Choices D) (ls : List Link) (f : Filing D) → f.choices ≡ c → f.links.now ≡ ls
    → Ok tt ≡ tested (choice_tests (sentence m c) c.bytes.now) → Ok tt ≡ tested (rule_tests (sentence m f.choices) (linkage m f))
    → (p : ℕ) → p ≡ parts (linkage m f) → Ok p ≡ checked (sentence m c) c.bytes.now (pairs ls)
accepted m c ls f same links chosen kept p e =
    subst₂ (λ d ks. Ok p ≡ checked (sentence m d) d.bytes.now (pairs ks)) same links
    (ap Ok e ∙ sym (passes_on first (second ++ third) (parts x) chosen' ∙ passes_on second third (parts x) in_order ∙ passes_on third [] (parts x) kept))
  where
    x : Linkage
    x = linkage m f

    first : List (Bool × Refusal)
    first = choice_tests (sentence m f.choices) f.choices.bytes.now

    second : List (Bool × Refusal)
    second = link_tests (size (sentence m f.choices)) (pairs f.links.now)

    third : List (Bool × Refusal)
    third = rule_tests (sentence m f.choices) x

    chosen' : Ok tt ≡ tested first
    chosen' = subst (λ d. Ok tt ≡ tested (choice_tests (sentence m d) d.bytes.now)) (sym same) chosen

    in_order : Ok tt ≡ tested second
    in_order = sym (ap₂ (λ a b. tested ((a, LinkEnds) ∷ (b, LinkOrder) ∷ [])) (links_rise m f) f.in_order)

-- A filing over the words of a dictionary is judged right, since each word has few disjuncts.
pub right : (lex : Lexicon) → FewDisjuncts lex → (g : Ledger) (cs : List ℕ) (es : List Wire) → JudgedRight (ledgers.sentence lex g) cs es
right lex few g = judged_right (ledgers.sentence lex g) each
  where
    each : (i : ℕ) → length (position (ledgers.sentence lex g) i).disjuncts ≤ 64
    each i = elim (cases_lt i (length g)) [
      | inl h ↦ subst (λ (p : Position). length p.disjuncts ≤ 64) (sym (position_there lex g i h)) (few (row_at g i).word)
      | inr h ↦ subst (λ (p : Position). length p.disjuncts ≤ 64) (sym (position_past lex g i h)) (omega arith)
    ]
