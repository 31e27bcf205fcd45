use Rattle.std.proofs.Common.{take, sym, ap, ◌∙◌, ap₂}
use Rattle.std.proofs.lemmas.List.{map-id}
use Rattle.written.specs.Matching.{names_match}
use Rattle.written.specs.Store.{name_at}
use Rattle.written.proofs.Asked.{names_both, no_left, no_right}
use Rattle.written.proofs.closed.ask.WrittenDictionary.matches.Goals as goal
use Rattle.written.proofs.closed.ask.WrittenDictionary.matches.Goals.{then-not-is_name-via-then-not-is_name, then-not-is_name-via-else-not-is_name+then-not-is_name-2}

pub returns-then-not-is_name : goal.returns-then-not-is_name
returns-then-not-is_name c =
    let F = take c.args.self.now.used c.args.self.now.table.now in
    elim c.then-not-is_name.branch [
      | then-not-is_name-via-then-not-is_name w ↦ no_right F c.args.right c.args.left c.from-right.result c.from-right.ensures (sym w.if-not-is_name.ensures)
      | then-not-is_name-via-else-not-is_name+then-not-is_name-2 w ↦ no_left F c.args.right c.args.left c.from-left.result c.from-left.ensures (sym w.if-not-is_name-2.ensures)
    ]

pub returns : goal.returns
returns c =
    let F = take c.args.self.now.used c.args.self.now.table.now in
    let same = c.front-front.ensures.value in
    c.names_match.ensures ∙ ap₂ names_match (map-id c.letters.result.now) (map-id c.letters-2.result.now)
    ∙ ap₂ names_match (c.letters.ensures ∙ ap (λ G. name_at G c.from-right.result) same) (c.letters-2.ensures ∙ ap (λ G. name_at G c.from-left.result) same)
    ∙ names_both F c.args.right c.args.left c.from-right.result c.from-left.result
    c.from-right.ensures c.from-left.ensures (sym c.if-not-is_name.ensures) (sym c.if-not-is_name-2.ensures)
