use Rattle.folio.proofs.Folio.change.Goals as goal

pub returns-clause-edit : goal.returns-clause-edit
returns-clause-edit g c = c.change.ensures.edit _
