-- Where a connector ends that is shown up to the next space.
use Rattle.std.proofs.Common.{◌≡◌, ℕ, ◌+◌, ◌-◌, ◌<◌, ◌≤◌, true, cond, not, ◌&&◌, eqb, ltb, leb, List, length, get_or, drop, sym, ap, ◌∙◌, arith, length-drop, ne_eqb}
use Rattle.std.specs.List.{prefix_len}
use Rattle.std.proofs.lemmas.List.{get_or-drop}
use Rattle.std.proofs.lemmas.List.Sums.{prefix_len_is}
use Rattle.std.proofs.lemmas.Bool.{and_from, eq-eqb, le-leb}
use Rattle.formula.specs.Cuts.{capital}
use Rattle.written.proofs.Cuts.{ClearIn}
use Rattle.lexicon_report.specs.Marks.{mark_end}

module _ (f : List ℕ) (p e : ℕ) (from : p ≤ e) (to : e ≤ length f) (clear : ClearIn 32 f p e) (stops : e < length f → get_or f e 0 ≡ 32) where
  at_space : e ≡ p + prefix_len (λ b. not (eqb b 32)) (drop p f)
  at_space =
      let n : length (drop p f) ≡ length f - p = length-drop p f in
      let j : p + (e - p) ≡ e = omega arith in
      let r : prefix_len (λ b. not (eqb b 32)) (drop p f) ≡ e - p =
      prefix_len_is (λ b. not (eqb b 32)) (drop p f) (e - p) 0 (omega arith)
      (λ k l. ap not (ne_eqb _ 32 (λ q. clear (p + k) (omega arith) (omega arith) (sym (get_or-drop p f k 0) ∙ q))))
      (λ l. ap not (eq-eqb _ 32 (get_or-drop p f (e - p) 0 ∙ (ap (λ i. get_or f i 0) j ∙ stops (omega arith)))))
      in omega arith

  pub connector_end : 65 ≤ get_or f p 0 → get_or f p 0 ≤ 90 → e ≡ mark_end f p
  connector_end a b =
      let c : capital (get_or f p 0) ≡ true =
      and_from (leb 65 (get_or f p 0)) (leb (get_or f p 0) 90) (le-leb 65 (get_or f p 0) a) (le-leb (get_or f p 0) 90 b)
      in at_space ∙ ap (λ t. p + cond t (prefix_len (λ x. not (eqb x 32)) (drop p f)) (cond (eqb (get_or f p 0) 111 && ltb (p + 1) (length f)) 2 1)) (sym c)
