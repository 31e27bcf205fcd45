-- Where no marks are kept, nothing is marked. Past the words nothing is marked.
use Rattle.std.proofs.Common.{◌≡◌, ℕ, ◌≤◌, List, get_or, length, [], ap, ◌∙◌, arith}
use Rattle.std.proofs.lemmas.List.{get_or_past, length-map}
use Rattle.rows.specs.Sets.{members}
use Rattle.rows.specs.declared.Rows.{Rows}
use Rattle.rows.specs.declared.sets.DisjunctSet.{DisjunctSet}
use Rattle.rows.specs.Tables.{ledger_of, marks_of, no_marks, nothing, row}
use Rattle.rows.proofs.Members.{empty}

pub none_marked : (λ p. members (get_or [] p nothing)) ≡ no_marks
none_marked i p k = empty i k

pub cleared : {ms : List DisjunctSet} → ms ≡ [] → (λ p. members (get_or ms p nothing)) ≡ no_marks
cleared e = ap (λ ms p. members (get_or ms p nothing)) e ∙ none_marked

pub past_words : (r : Rows) (p : ℕ) → length (ledger_of r) ≤ p → marks_of r p ≡ no_marks p
past_words r p h i k =
    let within = r.within in
    let few : length r.marked.items ≤ p = omega (arith, length-map r.entries.items row) in
    (ap (λ s. members s k) (get_or_past r.marked.items p nothing few) ∙ (λ j. empty j k)) i
