-- What counting links tells of the linkage that is filed. Assumes that the links rise within the words and stand in order, as they do
-- in a filing.
use Rattle.std.proofs.Common.{◌≡◌, ℕ, zero, suc, ◌<◌, true, not, ◌&&◌, eqb, ltb, List, length, get_or, sym, refl, ap, ◌∙◌, subst, ap₂, arith}
use Rattle.std.proofs.lemmas.Bool.{and_parts, eq-eqb, ltb-true}
use Rattle.lexicon.specs.Lexicon.{Lexicon, side_of}
use Rattle.lexicon.specs.declared.side.Side.{Side}
use Rattle.lexicon.specs.declared.side.Side.TheVariants.{Left, Right}
use Rattle.linkage.specs.Lists.{◌∈◌, every, place_of}
use Rattle.linkage.specs.Linkages.{Linkage, Place, Rising, after, crosses, full_at, left_list, links, matched, right_list, uncrossed}
use Rattle.linkage.specs.Parts.{heads, parts}
use Rattle.linkage.specs.Sentences.{Sentence, asked, position, size}
use Rattle.linkage.proofs.Joins.{Wire}
use Rattle.linkage.proofs.Members.{every_in, in_filter, in_map}
use Rattle.linkage.proofs.Rows.{Rows}
use Rattle.rows.specs.Tables.{ledger_of}
use Rattle.filing.specs.declared.linked.Filing.{Filing}
use Rattle.filing.specs.Filings.{chosen, filed, ordered, pairs, rises, row_of}
use Rattle.filing.specs.Given.{linkage, sentence}
use Rattle.filing.proofs.Seen.{size_seen}
use Rattle.filing.proofs.Counted.{count_of, from, to, nearer_from, nearer_to, left_placed, lefts_counted, right_placed, rights_counted}
use Rattle.filing.proofs.Refiled.{filed_at, filed_length, laid, relinked, row_rises}

-- The connectors that a choice asks for on a side.
abbrev pub asked_on : Sentence → List ℕ → ℕ → Side → List ℕ
asked_on s cs i side = side_of (asked (position s i) (chosen cs i)) side

module _ (s : Sentence) (cs : List ℕ) (es : List Wire) (rising : every (rises (size s)) es ≡ true) (order : ordered es ≡ true) where
  abbrev pub x : Linkage
  x = filed (size s) cs es

  pub bound : (e : Wire) → e ∈ es → (e.0 < e.1) × (e.1 < size s)
  bound e m =
      let b = and_parts (ltb e.0 e.1) (ltb e.1 (size s)) (every_in (rises (size s)) rising m) in
      (ltb-true e.0 e.1 b.0, ltb-true e.1 (size s) b.1)

  pub links_again : links x ≡ es
  links_again = relinked (λ i. chosen cs i) es 0 (size s) order (λ e m. let b = bound e m in (omega arith, omega arith))

  pub row_up : (i : ℕ) → Rising i (size s) (row_of es i)
  row_up i = row_rises (size s) i es order bound

  rows_up : Rows (size s) 0 x
  rows_up = go 0 (size s)
    where
      go : (a k : ℕ) → Rows (size s) a (laid (λ i. chosen cs i) es a k)
      go a zero = tt
      go a (suc k) = (row_up a, go (suc a) k)

  pub uncrossed_is : uncrossed x ≡ every (λ e. every (λ f. not (crosses e f)) es) es
  uncrossed_is = ap (λ (fs : List Wire). every (λ e. every (λ f. not (crosses e f)) fs) fs) links_again

  pub parts_are : parts x ≡ length (heads es (size s))
  parts_are = ap₂ (λ fs n. length (heads fs n)) links_again (filed_length (size s) cs es)

  module _ (i : ℕ) (h : i < size s) where
    right_is : right_list s x i ≡ asked_on s cs i Right
    right_is = ap (λ (p : Place). (asked (position s i) p.choice).right) (filed_at (size s) cs es i h)

    left_is : left_list s x i ≡ asked_on s cs i Left
    left_is = ap (λ (p : Place). (asked (position s i) p.choice).left) (filed_at (size s) cs es i h)

    after_is : after x i ≡ row_of es i
    after_is = ap (λ (p : Place). p.after) (filed_at (size s) cs es i h)

    pub full_is : full_at s x i ≡ (eqb (count_of (from i) es) (length (asked_on s cs i Right)) && eqb (count_of (to i) es) (length (asked_on s cs i Left)))
    full_is =
        ap₂ ◌&&◌ (ap₂ eqb (ap length after_is ∙ rights_counted (size s) i es) (ap length right_is))
        (ap₂ eqb (lefts_counted s (size s) x rows_up i ∙ ap (count_of (to i)) links_again) (ap length left_is))

  pub matched_is : (e : Wire) → e ∈ es
      → matched s x e ≡ s.matches (get_or (asked_on s cs e.0 Right) (count_of (nearer_from e.0 e.1) es) 0) (get_or (asked_on s cs e.1 Left) (count_of (nearer_to e.0 e.1) es) 0)
  matched_is e m =
      let b = bound e m in
      let h : e.0 < size s = omega arith in
      let in_row : e.1 ∈ row_of es e.0 = in_map (λ (f : Wire). f.1) (in_filter (λ (f : Wire). eqb f.0 e.0) m (eq-eqb e.0 e.0 refl)) in
      ap₂ s.matches
      (ap₂ (λ l k. get_or l k 0) (right_is e.0 h) (ap (place_of e.1) (after_is e.0 h) ∙ right_placed (size s) e.0 es e.1 (row_up e.0) in_row))
      (ap₂ (λ l k. get_or l k 0) (left_is e.1 b.1)
      (left_placed s (size s) x rows_up e.0 e.1 (subst (λ (fs : List Wire). e ∈ fs) (sym links_again) m) ∙ ap (count_of (nearer_to e.0 e.1)) links_again))

-- The same of a filing, whose type says that its links rise and stand in order.
module _ {D : Type 0} (m : D → Lexicon) (f : Filing D) where
  abbrev s : Sentence
  s = sentence m f.choices

  abbrev cs : List ℕ
  cs = f.choices.bytes.now

  abbrev es : List Wire
  es = pairs f.links.now

  pub links_rise : every (rises (size s)) es ≡ true
  links_rise = ap (λ n. every (rises n) es) (size_seen (m f.choices.dictionary.now) (ledger_of f.choices.rows.now)) ∙ f.rising

  pub filing_bound : (e : Wire) → e ∈ es → (e.0 < e.1) × (e.1 < size s)
  filing_bound = bound s cs es links_rise f.in_order

  pub filing_links : links (linkage m f) ≡ es
  filing_links = links_again s cs es links_rise f.in_order

  pub filing_uncrossed : uncrossed (linkage m f) ≡ every (λ e. every (λ g. not (crosses e g)) es) es
  filing_uncrossed = uncrossed_is s cs es links_rise f.in_order

  pub filing_parts : parts (linkage m f) ≡ length (heads es (size s))
  filing_parts = parts_are s cs es links_rise f.in_order

  pub filing_full : (i : ℕ) → i < size s
      → full_at s (linkage m f) i ≡ (eqb (count_of (from i) es) (length (asked_on s cs i Right)) && eqb (count_of (to i) es) (length (asked_on s cs i Left)))
  filing_full = full_is s cs es links_rise f.in_order

  pub filing_matched : (e : Wire) → e ∈ es
      → matched s (linkage m f) e ≡ s.matches (get_or (asked_on s cs e.0 Right) (count_of (nearer_from e.0 e.1) es) 0) (get_or (asked_on s cs e.1 Left) (count_of (nearer_to e.0 e.1) es) 0)
  filing_matched = matched_is s cs es links_rise f.in_order
